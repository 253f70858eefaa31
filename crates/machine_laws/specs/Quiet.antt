-- Keys that a run leaves alone, and the entries that stand for their rows. Own.
use Rattle.std.specs.Prelude.{◌≡◌, ◌∷◌, ℕ, true, List, [], Option, Some, None}
use mathlib.Core.Logic.{inl, inr}
use Rattle.table_schema.specs.Plan.{Ports}
use Rattle.table_schema.specs.declared.key.Key.{Key}
use Rattle.sai_types.specs.declared.ids.Rid.{Rid}
use Rattle.sai_types.specs.declared.body.Body.{Body}
use Rattle.sai_types.specs.declared.body.Call.{Call}
use Rattle.sai_types.specs.declared.body.Call.TheVariants as call
use Rattle.sai_types.specs.declared.body.Entry.{Entry}
use Rattle.sai_types.specs.declared.thing.Thing.{Thing}
use Rattle.sai_types.specs.After.{entry_of}
use Rattle.sai_types.specs.Alike.{IsIn}
use Rattle.sai_types.specs.Made.{same_entry}
use Rattle.switch_model.specs.Marks.{written_key}
use Rattle.switch_model.specs.Placed.{Placed as Row}
use Rattle.switch_model.specs.Things.{things_of}
use Rattle.chip_layout.specs.Bodies.{IsBody}
use Rattle.chip_layout.specs.Layout.{Has, listed}
use Rattle.switch_machine.specs.Events.{SwitchState, IsEvent, AreEvents}
use Rattle.switch_machine.specs.Flights.{Machine}

-- a call sets or removes the object of this entry
abbrev pub ChangesEntry : Call Rid → Entry Rid → Type 0
ChangesEntry (call.Create b) e = ⊥
ChangesEntry (call.Set f a) e = same_entry f e ≡ true
ChangesEntry (call.Remove f) e = same_entry f e ≡ true

-- an entry stands for a thing of a key's applied row
pub record EntryStandsFor (plan : Ports) (k : Key) (e : Entry Rid) (m : Machine) : Type 0 where
  pub row : Row
  pub applied : m.board.applied k ≡ Some row
  pub thing : Thing
  pub of : IsIn thing (things_of plan k row)
  pub id : Rid
  pub stands : IsIn (id, thing) m.stands
  pub body : Body Rid
  pub is_body : IsBody (Has (listed m.stands)) thing body
  pub entry : e ≡ entry_of id.0 body

-- no event of the run makes the key one to sync
abbrev pub LeavesAlone : Key → SwitchState → List (Option (Call Rid) × SwitchState) → Type 0
LeavesAlone k s [] = Unit {0}
LeavesAlone k s (e ∷ es) = (IsIn k e.1.to_sync → IsIn k s.to_sync) × LeavesAlone k e.1 es

-- a write that an event takes is of another key
abbrev pub TakesNoWriteOf : (plan : Ports) (workers : ℕ) (capacities : List ℕ) (k : Key) (s : SwitchState) (c : Option (Call Rid)) (t : SwitchState) → IsEvent plan workers capacities s c t → Type 0
TakesNoWriteOf plan workers capacities k s None t (inl x) = written_key x.write ≡ k → ⊥
TakesNoWriteOf plan workers capacities k s None t (inr x) = Unit {0}
TakesNoWriteOf plan workers capacities k s (Some call) t x = Unit {0}

-- the run takes no write of the key
abbrev pub NamesNot : (plan : Ports) (workers : ℕ) (capacities : List ℕ) (k : Key) (s : SwitchState) (es : List (Option (Call Rid) × SwitchState)) → AreEvents plan workers capacities s es → Type 0
NamesNot plan workers capacities k s [] run = Unit {0}
NamesNot plan workers capacities k s (e ∷ es) run = TakesNoWriteOf plan workers capacities k s e.0 e.1 run.0 × NamesNot plan workers capacities k e.1 es run.1
