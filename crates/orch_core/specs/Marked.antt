-- The mark at the end of a settling, and what it lists. Own.
use Rattle.std.specs.Prelude.{◌≡◌, ◌+◌, ℕ, List, length, Result, Ok, Err}
use Rattle.std.specs.Map.{keys_of}
use Rattle.swss_types.specs.declared.out_of_memory.OutOfMemory.{OutOfMemory}
use Rattle.table_schema.specs.declared.key.Key.{Key}
use Rattle.consumer_table.specs.Ops.{AreOpsInOrder}
use Rattle.retry_list.specs.Listed.{AreListedWith}
use Rattle.switch_model.specs.History.{History, with_end, with_mark}
use Rattle.switch_model.specs.Marks.{Waiting}
use Rattle.switch_model.specs.declared.mark.Mark.{Mark}
use Rattle.switch_model.specs.declared.mark.MarkEvent.TheVariants as event
use Rattle.flight_board.specs.Applied.{row_at}
use Rattle.session_laws.specs.Core.{CoreState, IsFullFor, mark_at}
use Rattle.orch_core.specs.declared.answer.Settled.{Settled}
use Rattle.orch_core.specs.declared.answer.Settled.TheVariants as settled

-- these keys are listed, each with its reason on the list of those that wait and its applied row, in their order
abbrev pub AreListedFrom : CoreState → List Key → Waiting → Type 0
AreListedFrom c keys waits = AreListedWith c.waiting (row_at c.board.applied) keys waits

-- the last mark of the log is that of a settling at which the last round ended, and lists the keys that are to sync
pub record ListsWhatWaits (c : CoreState) : Type 0 where
  pub before : History
  pub mark : Mark
  pub waits : Waiting
  pub turns : ℕ
  pub log : c.log ≡ with_end (with_mark before mark)
  pub settled : mark.event ≡ event.Settled waits turns
  pub listed : AreListedFrom c (keys_of c.tables.ops) waits

-- the core with the mark at the end of a settling
abbrev pub with_settled : CoreState → ℕ → Waiting → ℕ → ℕ → CoreState
with_settled c effects waits turns count = record c { log = with_end (with_mark c.log (mark_at c effects (event.Settled waits turns))); listed = c.listed + count }

-- the mark is made, with each key to sync; or the log has no place for it, or memory was refused, and nothing is done
abbrev pub Marks : ℕ → ℕ → CoreState → Result Settled OutOfMemory → CoreState → Type 0
Marks effects turns c (Ok settled.Settled) c' = AreOpsInOrder c.tables.ops × (waits : Waiting) × AreListedFrom c (keys_of c.tables.ops) waits × (c' ≡ with_settled c effects waits turns (length c.tables.ops)) × (IsFullFor c effects (1 + length c.tables.ops) → ⊥)
Marks effects turns c (Ok settled.LogFull) c' = (c' ≡ c) × IsFullFor c effects (1 + length c.tables.ops) × AreOpsInOrder c.tables.ops
Marks effects turns c (Ok settled.Faulted) c' = ⊥
Marks effects turns c (Err e) c' = c' ≡ c
