-- Things that stand, by their owners. Own.
use Rattle.std.specs.Prelude.{◌≡◌, ◌⊎◌, List, Option, Some}
use Rattle.sai_types.specs.declared.ids.Rid.{Rid}
use Rattle.sai_types.specs.declared.thing.Thing.{Thing}
use Rattle.sai_types.specs.Alike.{IsIn}
use Rattle.chip_layout.specs.Layout.{Layout}
use Rattle.sai_types.specs.Names.{ThingName, name_of}

-- what stands of each owner
abbrev pub Holdings : Type 0 → Type 0
Holdings O = O → List (Rid × Thing)

-- the layout that the owners' things come to
abbrev pub laid_by : {O : Type 0} → Holdings O → Layout Rid
laid_by {O} holds i t = (o : O) × IsIn (i, t) (holds o)

-- each thing is held by the owner of its name
abbrev pub AreOwned : {O : Type 0} → (ThingName → Option O) → Holdings O → Type 0
AreOwned {O} owner_of holds = (o : O) (i : Rid) (t : Thing) → IsIn (i, t) (holds o) → owner_of (name_of t) ≡ Some o

-- an owner has one thing more, and the others have what they had
pub record Gains {O : Type 0} (holds later : Holdings O) (o : O) (i : Rid) (t : Thing) : Type 0 where
  pub kept : (p : O) (x : Rid × Thing) → IsIn x (holds p) → IsIn x (later p)
  pub gained : IsIn (i, t) (later o)
  pub only : (p : O) (x : Rid × Thing) → IsIn x (later p) → IsIn x (holds p) ⊎ (x ≡ (i, t))

-- an owner has lost what has this name, and the others have what they had
pub record Loses {O : Type 0} (holds later : Holdings O) (k : ThingName) : Type 0 where
  pub kept : (p : O) (x : Rid × Thing) → IsIn x (holds p) → (name_of x.1 ≡ k → ⊥) → IsIn x (later p)
  pub left : (p : O) (x : Rid × Thing) → IsIn x (later p) → IsIn x (holds p) × (name_of x.1 ≡ k → ⊥)
