-- where no write waits in the tables, the rows are what the session's writes came to
use Rattle.std.proofs.Common.{◌≡◌, ◌∙◌, inr, [], sym, ap}
use Rattle.producer_table.specs.Pending.{pending_at, row_with_pending}
use Rattle.switch_machine.specs.Written.{ArePopped, IsPopped, Written}
use Rattle.session_laws.specs.Core.{CoreState}
use Rattle.session_laws.specs.Service.Standing.{IsAhead, written_of}

module _ (c : CoreState) (w : Written) (ahead : IsAhead w (written_of c)) (empty : c.tables.waiting ≡ []) where
  pub none-waits : IsPopped (written_of c)
  none-waits k o = ap (λ z. row_with_pending o (pending_at z k)) empty

  pub popped-all : ArePopped w (written_of c)
  popped-all = record { taken = ahead.taken; keys = λ k. inr (record { row = sym (none-waits k ((written_of c).rows k)) ∙ ahead.whole k; none = none-waits k }) }
