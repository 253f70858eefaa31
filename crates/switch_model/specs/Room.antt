-- Whether the things of a view find room on a chip, and whether interfaces stay in their routers. Own.
use Rattle.std.specs.Prelude.{◌≡◌, ◌⊎◌, ℕ, ◌+◌, ◌≤◌, List, length, Some}
use Rattle.swss_types.specs.declared.vrf.Vrf.{Vrf}
use Rattle.table_schema.specs.Names.{names_of}
use Rattle.table_schema.specs.Plan.{Ports}
use Rattle.table_schema.specs.declared.key.Key.{Key}
use Rattle.table_schema.specs.declared.row.Row.{Row}
use Rattle.table_schema.specs.declared.write.Sent.{Sent}
use Rattle.sai_types.specs.declared.hop.Base.{Base}
use Rattle.sai_types.specs.declared.kind.Kind.{Kind}
use Rattle.sai_types.specs.declared.thing.Thing.{Thing}
use Rattle.sai_types.specs.declared.thing.Thing.TheVariants as thing
use Rattle.sai_types.specs.Alike.{IsIn}
use Rattle.sai_types.specs.Names.{ThingName, name_of, thing_kind}
use Rattle.sai_types.specs.Named.{named}
use Rattle.sai_types.specs.Objects.{Objects, level, used}
use Rattle.sai_types.specs.Refusal.{capacity_of}
use Rattle.switch_model.specs.Desired.{IsThingOf}
use Rattle.switch_model.specs.Good.{TypedRows}
use Rattle.switch_model.specs.Marks.{AreDistinctNames, IsMoved}
use Rattle.switch_model.specs.Promises.{good_rows_at}

-- names of one kind, no two equal, each that of a thing of the view
pub record AreKeysOf (view : Thing → Type 0) (kind : Kind) (keys : List ThingName) : Type 0 where
  pub distinct : AreDistinctNames keys
  pub things : (k : ThingName) → IsIn k keys → (t : Thing) × (name_of t ≡ k) × (level (thing_kind t) ≡ level kind) × view t

-- of each kind the names of the view's things number at most the capacity
abbrev pub HasRoomForView : List ℕ → (Thing → Type 0) → Type 0
HasRoomForView capacities view = (kind : Kind) (keys : List ThingName) → AreKeysOf view kind keys → length keys ≤ capacity_of capacities kind

-- the things of a round: those of the rows that were applied when it began, and those of the good rows once so many writes were taken as this range says, which with one worker is the number at the round's end alone
abbrev pub IsRoundThing : Ports → TypedRows → List Sent → ℕ → ℕ → Thing → Type 0
IsRoundThing plan applied taken from to thing = IsThingOf plan applied thing ⊎ ((n : ℕ) × (from ≤ n) × (n ≤ to) × IsThingOf plan (good_rows_at plan taken n) thing)

-- no interface that a good row names is in another router there than in these rows
abbrev pub IsStill : TypedRows → TypedRows → Type 0
IsStill rows good = (key by : Key) (row old new : Row) → good by ≡ Some row → IsIn key (names_of by row) → rows key ≡ Some old → good key ≡ Some new → ¬ (IsMoved key old new)

-- and in a round: neither than in the rows that were applied when it began, nor than in the good rows of fewer writes within this range
abbrev pub IsRoundStill : Ports → TypedRows → List Sent → ℕ → ℕ → Type 0
IsRoundStill plan applied taken from to =
    IsStill applied (good_rows_at plan taken to) × ((n : ℕ) → from ≤ n → n ≤ to → IsStill (good_rows_at plan taken n) (good_rows_at plan taken to))

-- a thing of the view whose name no object has
abbrev pub IsLacking : Objects → (Thing → Type 0) → Thing → Type 0
IsLacking objects view thing = view thing × ¬ ((other : Thing) × IsIn (Some other) (named objects) × (name_of other ≡ name_of thing))

-- a chip and a view fit together where of each kind the objects and the names of what the chip lacks number at most the capacity
abbrev pub FitsTogether : List ℕ → Objects → (Thing → Type 0) → Type 0
FitsTogether capacities objects view = (kind : Kind) (keys : List ThingName) → AreKeysOf (IsLacking objects view) kind keys → used objects kind + length keys ≤ capacity_of capacities kind

-- no base has an interface on the chip and one in the view in different virtual routers
abbrev pub HasSameRouters : Objects → (Thing → Type 0) → Type 0
HasSameRouters objects view = (on : Base) (v w : Vrf) → IsIn (Some (thing.Rif on v)) (named objects) → view (thing.Rif on w) → v ≡ w
