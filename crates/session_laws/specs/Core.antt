-- What contracts see of the core. Own.
use Rattle.std.specs.Prelude.{ℕ, ◌+◌, ◌<◌, List, [], length, Option}
use Rattle.table_schema.specs.Plan.{Ports}
use Rattle.table_schema.specs.Rows.{fields_at}
use Rattle.table_schema.specs.declared.key.Key.{Key}
use Rattle.table_schema.specs.declared.row.Row.{Row}
use Rattle.table_schema.specs.declared.write.Sent.{Sent}
use Rattle.switch_model.specs.Good.{good_row}
use Rattle.switch_model.specs.History.{History, no_history, size_listing, with_write}
use Rattle.switch_model.specs.declared.mark.Mark.{Mark}
use Rattle.switch_model.specs.declared.mark.MarkEvent.{MarkEvent}
use Rattle.retry_list.specs.Reasons.{Reasons}
use Rattle.sync_tables.specs.Tables.{TablesState, no_tables, tables_with_write}
use Rattle.syncd_core.specs.Synced.{SyncState, new_state}
use Rattle.flight_board.specs.Board.{BoardState, new_board}
use Rattle.warm_state.specs.declared.warm.Warm.{Warm}
use Rattle.warm_state.specs.declared.warm.Warm.TheVariants as warm

-- the tables; what is applied and under way; syncd; the keys that wait, with their reasons; the log, how many keys its marks list, and how many places it has; and the warm state
pub record CoreState : Type 0 where
  pub tables : TablesState
  pub board : BoardState
  pub sync : SyncState
  pub waiting : Reasons
  pub log : History
  pub listed : ℕ
  pub limit : ℕ
  pub warm : Warm

abbrev pub new_core : Ports → List ℕ → ℕ → CoreState
new_core plan capacities limit = record { tables = no_tables; board = new_board plan capacities; sync = new_state capacities; waiting = []; log = no_history; listed = 0; limit = limit; warm = warm.Reconciled }

-- the good row of a key, as far as writes were popped
abbrev pub good_in : CoreState → Key → Option Row
good_in c k = good_row c.board.plan k (fields_at c.tables.rows k)

-- the size of the log beside so many effects, with the core's own count of the keys that marks list
abbrev pub size_beside : CoreState → ℕ → ℕ
size_beside c effects = size_listing c.listed c.log effects

-- the log has no room for an event that needs so many places
abbrev pub IsFullFor : CoreState → ℕ → ℕ → Type 0
IsFullFor c effects need = c.limit < size_beside c effects + need

-- a write is taken
abbrev pub with_taken : CoreState → Sent → CoreState
with_taken c sent = record c { tables = tables_with_write c.tables sent.write; log = with_write c.log sent }

-- a mark of this moment
abbrev pub mark_at : CoreState → ℕ → MarkEvent → Mark
mark_at c effects e = record { taken = length c.log.taken; effects = effects; event = e }
