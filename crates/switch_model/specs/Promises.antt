-- The promises: what holds of a session's log and of the calls that its chip made. Own.
use Rattle.std.specs.Prelude.{◌≡◌, ℕ, ◌≤◌, List, [], ◌∷◌, length, take, Option, Some, None}
use Rattle.swss_types.specs.declared.address.Prefix.{Prefix}
use Rattle.swss_types.specs.declared.vrf.Vrf.{Vrf}
use Rattle.table_schema.specs.declared.key.Key.TheVariants as key
use Rattle.table_schema.specs.declared.row.Row.{Row}
use Rattle.table_schema.specs.declared.write.Sent.{Sent}
use Rattle.table_schema.specs.Plan.{Ports}
use Rattle.sai_types.specs.declared.ids.Rid.{Rid}
use Rattle.sai_types.specs.declared.body.Call.{Call}
use Rattle.sai_types.specs.declared.thing.Goal.{Goal}
use Rattle.sai_types.specs.declared.thing.Thing.TheVariants as thing
use Rattle.sai_types.specs.After.{chip_after}
use Rattle.sai_types.specs.Alike.{IsIn, IsAlike}
use Rattle.sai_types.specs.Named.{named}
use Rattle.sai_types.specs.Objects.{Objects}
use Rattle.sai_types.specs.Made.{AreLegal}
use Rattle.switch_model.specs.declared.mark.Mark.{Mark}
use Rattle.switch_model.specs.declared.mark.MarkEvent.{MarkEvent}
use Rattle.switch_model.specs.declared.mark.MarkEvent.TheVariants as event
use Rattle.switch_model.specs.Desired.{IsClosed, IsThingOf}
use Rattle.switch_model.specs.History.{History}
use Rattle.switch_model.specs.Marks.{AreInOrder, Waiting, applied_rows, ReasonsAreTrue, NameFirstKinds, ListsNoRow, sent_writes}
use Rattle.switch_model.specs.Good.{TypedRows, good_rows}
use Rattle.table_schema.specs.Rows.{rows_of}
use Rattle.switch_model.specs.Things.{things_of}
use Rattle.switch_model.specs.Placed.{place}

-- the good rows of the first so many writes taken
abbrev pub good_rows_at : Ports → List Sent → ℕ → TypedRows
good_rows_at plan taken n = good_rows plan (rows_of (sent_writes (take n taken)))

-- each route on the chip is that of its prefix's good row after some number of the writes taken
abbrev pub RoutesAreOfRows : Ports → List Sent → Objects → Type 0
RoutesAreOfRows plan taken objects = (v : Vrf) (prefix : Prefix) (goal : Goal) → IsIn (Some (thing.Route v prefix goal)) (named objects)
    → (n : ℕ) × (row : Row) × (n ≤ length taken) × (good_rows_at plan taken n (key.Route v prefix) ≡ Some row) × IsIn (thing.Route v prefix goal) (things_of plan (key.Route v prefix) (place v row))

-- legality: every call that took effect found its references present and removed nothing referenced, and no route ever pointed where no row sent it
pub record EffectsAreLegal (plan : Ports) (capacities : List ℕ) (taken : List Sent) (effects : List (Call Rid)) : Type 0 where
  pub legal : AreLegal capacities 0 [] effects
  pub routes : (k : ℕ) → k ≤ length effects → RoutesAreOfRows plan taken (chip_after effects k)

-- what was applied at a mark that lists these keys
abbrev pub applied_at : Ports → List Sent → Mark → Waiting → TypedRows
applied_at plan taken mark waits = applied_rows waits (good_rows_at plan taken mark.taken)

-- at the end of a settling the chip holds the things of the applied rows and nothing else, what each applied row names is applied, and the keys that wait stand in their order, each once and with its true reason
pub record IsSettled (plan : Ports) (capacities : List ℕ) (taken : List Sent) (effects : List (Call Rid)) (mark : Mark) (waits : Waiting) : Type 0 where
  pub alike : IsAlike (chip_after effects mark.effects) (IsThingOf plan (applied_at plan taken mark waits))
  pub closed : IsClosed (applied_at plan taken mark waits)
  pub order : AreInOrder waits
  pub reasons : ReasonsAreTrue plan capacities (good_rows_at plan taken mark.taken) (applied_at plan taken mark waits) waits
  pub kinds : NameFirstKinds plan capacities (good_rows_at plan taken mark.taken) (applied_at plan taken mark waits) waits

-- when an apply begins, what each applied row names is applied, and the keys that wait stand in their order, each once and with its true reason, and none of them is applied
pub record IsBegun (plan : Ports) (capacities : List ℕ) (taken : List Sent) (mark : Mark) (waits : Waiting) : Type 0 where
  pub closed : IsClosed (applied_at plan taken mark waits)
  pub order : AreInOrder waits
  pub reasons : ReasonsAreTrue plan capacities (good_rows_at plan taken mark.taken) (applied_at plan taken mark waits) waits
  pub absent : ListsNoRow waits

abbrev pub EndsApply : Ports → List Sent → List (Call Rid) → Mark → Mark → MarkEvent → Type 0
EndsApply plan taken effects mark began (event.ApplyBegan mode waits) = IsAlike (chip_after effects mark.effects) (IsThingOf plan (applied_at plan taken began waits))
EndsApply plan taken effects mark began _ = ⊥

-- when an apply ends, the chip holds the things of the rows applied at its beginning and nothing else; began is the mark before
abbrev pub IsEnded : Ports → List Sent → List (Call Rid) → Mark → Option Mark → Type 0
IsEnded plan taken effects mark None = ⊥
IsEnded plan taken effects mark (Some began) = EndsApply plan taken effects mark began began.event

-- what each mark says is true; before is the mark before it
abbrev pub IsTrueMark : Ports → List ℕ → List Sent → List (Call Rid) → Option Mark → Mark → MarkEvent → Type 0
IsTrueMark plan capacities taken effects before mark (event.Settled waits turns) = IsSettled plan capacities taken effects mark waits
IsTrueMark plan capacities taken effects before mark (event.ApplyBegan mode waits) = IsBegun plan capacities taken mark waits
IsTrueMark plan capacities taken effects before mark event.ApplyEnded = IsEnded plan taken effects mark before
IsTrueMark plan capacities taken effects before mark _ = Unit {0}

abbrev pub AreTrueMarks : Ports → List ℕ → List Sent → List (Call Rid) → Option Mark → List Mark → Type 0
AreTrueMarks plan capacities taken effects before [] = Unit {0}
AreTrueMarks plan capacities taken effects before (mark ∷ marks) = IsTrueMark plan capacities taken effects before mark mark.event × AreTrueMarks plan capacities taken effects (Some mark) marks

-- the desired view at marks: so with nothing waiting at the end of a settling the chip holds exactly the desired view of the writes taken, up to identifiers
abbrev pub MarksAreTrue : Ports → List ℕ → History → List (Call Rid) → Type 0
MarksAreTrue plan capacities log effects = AreTrueMarks plan capacities log.taken effects None log.marks
