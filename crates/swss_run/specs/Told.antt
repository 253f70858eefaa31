-- The rows that rounds show behind a list of the chip that failed. Own.
use Rattle.std.specs.Prelude.{◌≡◌, ◌≤◌, List, [], length, take, Bool, true, false}
use Rattle.table_schema.specs.Rows.{Rows, rows_of}
use Rattle.table_schema.specs.declared.write.Sent.{Sent}
use Rattle.switch_model.specs.Marks.{sent_writes}
use Rattle.session_laws.specs.Core.{CoreState}
use Rattle.swss_run.specs.declared.told.Told.{Told}

-- the rows are those of the first writes taken, so many as are counted
pub record IsToldOf (told : Told) (taken : List Sent) : Type 0 where
  pub few : told.count ≤ length taken
  pub rows : told.rows ≡ rows_of (sent_writes (take told.count taken))

-- where the core's rows are behind, these are the rows of the writes taken, and else no write waits
abbrev pub AreRowsTaken : CoreState → Bool → Rows → Type 0
AreRowsTaken c false rows = c.tables.waiting ≡ []
AreRowsTaken c true rows = rows ≡ rows_of (sent_writes c.log.taken)
