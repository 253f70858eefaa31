-- How a restore builds its view: all rows are gone over once, in key order, by the same operations as ever; the temporary view is a core of its own over an empty chip of its own. Own.
use Rattle.std.specs.Prelude.{◌≡◌, ◌⊎◌, ◌<◌, ◌++◌, ℕ, List, [], ◌∷◌, map, Some, None}
use Rattle.std.specs.List.Sorted.{IsStrictlySortedBy}
use Rattle.std.specs.Map.{keys_of}
use Rattle.table_schema.specs.Key.{key_cmp}
use Rattle.table_schema.specs.Rows.{fields_at}
use Rattle.table_schema.specs.declared.key.Key.{Key}
use Rattle.sai_types.specs.declared.body.Call.{Call}
use Rattle.sai_types.specs.declared.ids.Rid.{Rid}
use Rattle.sai_types.specs.Alike.{IsIn}
use Rattle.sai_types.specs.ChipState.{ChipState}
use Rattle.switch_model.specs.Marks.{Waiting}
use Rattle.switch_model.specs.declared.wait.Wait.{Wait}
use Rattle.retry_list.specs.Listed.{AreListedWith, without_row}
use Rattle.retry_list.specs.Reasons.{Reasons, reason_at}
use Rattle.consumer_table.specs.Ops.{Ops}
use Rattle.switch_machine.specs.Events.{AreAnswers, IsQuiet, SwitchState, after_answers, fresh_view}
use Rattle.restart_laws.specs.Logged.{LoggedService}
use Rattle.restart_laws.specs.Restored.{IsPass, keys_waiting}
use Rattle.asic_view.specs.View.{ViewObjects, untied}
use Rattle.syncd_core.specs.Synced.{with_temporary}
use Rattle.flight_board.specs.Board.{flown_at, new_board}
use Rattle.warm_state.specs.declared.warm.Warm.TheVariants as warm
use Rattle.session_laws.specs.Core.{CoreState}
use Rattle.session_laws.specs.Standing.{IsSessionOf}
use Rattle.session_laws.specs.Service.Standing.{written_of}

-- a view as it is where nothing of it is tied
abbrev pub untied_view : ViewObjects → ViewObjects
untied_view view = map (λ x. (x.0, untied x.1.body)) view

-- the core as it is seen from its temporary view: reconciled, with the view that is tied to a chip of its own
abbrev pub over_view : CoreState → ViewObjects → CoreState
over_view c view = record {
  tables = c.tables;
  board = c.board;
  sync = record { view = view; temporary = None; listed = None; left = []; capacities = c.sync.capacities };
  waiting = c.waiting;
  log = c.log;
  listed = c.listed;
  limit = c.limit;
  warm = warm.Reconciled;
}

-- a building begins with all rows to sync, and an empty temporary view
abbrev pub building : CoreState → Ops → CoreState
building c ops = record c { tables = record c.tables { ops = ops }; sync = with_temporary c.sync []; waiting = [] }

-- a building that does not come to its end is given up: nothing is known of the chip but the list of it
abbrev pub given_up : CoreState → CoreState
given_up c = record c {
  tables = record c.tables { ops = [] };
  board = new_board c.board.plan c.sync.capacities;
  sync = record { view = c.sync.view; temporary = None; listed = c.sync.listed; left = []; capacities = c.sync.capacities };
  waiting = [];
}

-- what a building leaves of the core that it began with
pub record IsBeside (first c : CoreState) : Type 0 where
  pub rows : c.tables.rows ≡ first.tables.rows
  pub popped : c.tables.waiting ≡ first.tables.waiting
  pub plan : c.board.plan ≡ first.board.plan
  pub capacities : c.sync.capacities ≡ first.sync.capacities
  pub seen : c.sync.listed ≡ first.sync.listed
  pub log : c.log ≡ first.log
  pub listed : c.listed ≡ first.listed
  pub limit : c.limit ≡ first.limit
  pub warm : c.warm ≡ first.warm

-- each of these keys is on the list of those that wait, with its reason
abbrev pub AreReasons : Reasons → List (Key × Wait) → Type 0
AreReasons reasons [] = Unit {0}
AreReasons reasons (w ∷ ws) = (reason_at reasons w.0 ≡ Some w.1) × AreReasons reasons ws

-- these keys, each with its reason on the list, and no applied row
abbrev pub AreBareWaits : Reasons → List Key → Waiting → Type 0
AreBareWaits reasons keys waits = AreListedWith reasons without_row keys waits

-- seen from its temporary view the core and a chip of its own stand for a session
pub record IsViewOver (c : CoreState) (own_chip : ChipState) (own : LoggedService) : Type 0 where
  pub view : ViewObjects
  pub temporary : c.sync.temporary ≡ Some (untied_view view)
  pub session : IsSessionOf (over_view c view) own_chip own

-- so far as the keys before these were gone over: those that wait are listed, and a pass over the rest is one over all
pub record IsBuilt (first c : CoreState) (rest : List Key) : Type 0 where
  pub beside : IsBeside first c
  pub own_chip : ChipState
  pub own : LoggedService
  pub over : IsViewOver c own_chip own
  pub free : (v : ℕ) → v < 4 → flown_at c.board v ≡ None
  pub keys : List Key
  pub rising : IsStrictlySortedBy key_cmp keys
  pub all : (k : Key) → (fields_at first.tables.rows k ≡ None) ⊎ IsIn k keys
  pub waits : List (Key × Wait)
  pub reasons : AreReasons c.waiting waits
  pub ops : keys_of c.tables.ops ≡ keys_waiting waits ++ rest
  pub pass : (ws : List (Key × Wait)) (t : SwitchState) → IsPass first.board.plan 4 first.sync.capacities own.service.core rest ws t → IsPass first.board.plan 4 first.sync.capacities (fresh_view (written_of first) keys) keys (waits ++ ws) t

-- while the operation of a key is run, and these are still to be gone over: its calls so far, and the pass from where it ends
pub record IsBringing (first c : CoreState) (rest : List Key) : Type 0 where
  pub beside : IsBeside first c
  pub own_chip : ChipState
  pub own : LoggedService
  pub over : IsViewOver c own_chip own
  pub free : (v : ℕ) → v < 4 → (v ≡ 0 → ⊥) → flown_at c.board v ≡ None
  pub keys : List Key
  pub rising : IsStrictlySortedBy key_cmp keys
  pub all : (k : Key) → (fields_at first.tables.rows k ≡ None) ⊎ IsIn k keys
  pub waits : List (Key × Wait)
  pub reasons : AreReasons c.waiting waits
  pub ops : keys_of c.tables.ops ≡ keys_waiting waits ++ rest
  pub pass : (answers : List (Call Rid × SwitchState)) (ws : List (Key × Wait)) (t : SwitchState) → AreAnswers first.board.plan 4 own.service.core answers → IsQuiet (after_answers own.service.core answers) → IsPass first.board.plan 4 first.sync.capacities (after_answers own.service.core answers) rest ws t → IsPass first.board.plan 4 first.sync.capacities (fresh_view (written_of first) keys) keys (waits ++ ws) t
