-- How many things of a kind stand. Own.
use Rattle.std.specs.Prelude.{◌≡◌, List, [], ◌∷◌}
use Rattle.sai_types.specs.declared.ids.Rid.{Rid}
use Rattle.sai_types.specs.declared.kind.Kind.{Kind}
use Rattle.sai_types.specs.Alike.{IsIn}
use Rattle.sai_types.specs.Objects.{level}
use Rattle.chip_layout.specs.Layout.{Has, Layout}
use Rattle.sai_types.specs.Names.{ThingName, name_kind}

-- no two of the items are equal
abbrev pub AreDistinct : {X : Type 0} → List X → Type 0
AreDistinct [] = Unit {0}
AreDistinct (k ∷ ks) = (IsIn k ks → ⊥) × AreDistinct ks

-- a name of this kind that stands
abbrev pub IsOfKind : Layout Rid → Kind → ThingName → Type 0
IsOfKind layout kind k = (level (name_kind k) ≡ level kind) × (i : Rid) × Has layout k i

-- the names of a kind that stand, each once
pub record AreAll (layout : Layout Rid) (kind : Kind) (names : List ThingName) : Type 0 where
  pub distinct : AreDistinct names
  pub sound : (k : ThingName) → IsIn k names → IsOfKind layout kind k
  pub all : (k : ThingName) → IsOfKind layout kind k → IsIn k names
