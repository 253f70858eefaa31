-- what the core sees of its session
use Rattle.std.proofs.Common.{◌≡◌, ℕ, [], None, sym, subst}
use Rattle.table_schema.specs.declared.key.Key.{Key}
use Rattle.sai_types.specs.Alike.{IsIn}
use Rattle.sai_types.specs.ChipState.{ChipState}
use Rattle.switch_machine.specs.Next.{IsIdle, MustWait}
use Rattle.sync_tables.specs.Tables.{IsToSync}
use Rattle.restart_laws.specs.Logged.{LoggedService}
use Rattle.flight_board.specs.Board.{flown_at}
use Rattle.warm_state.specs.declared.warm.Warm.TheVariants as warm
use Rattle.session_laws.specs.Core.{CoreState}
use Rattle.session_laws.specs.Standing.{IsSessionOf}
use Rattle.session_laws.proofs.Marking.{popped}

module _ (c : CoreState) (chip : ChipState) (s : LoggedService) (is : IsSessionOf c chip s) where
  pub same_keys : (k : Key) → IsIn k s.service.core.to_sync → IsToSync c.tables k
  same_keys k i = subst (IsIn k) is.to_sync i

  pub keys_same : (k : Key) → IsToSync c.tables k → IsIn k s.service.core.to_sync
  keys_same k i = subst (IsIn k) (sym is.to_sync) i

  module _ (at : c.warm ≡ warm.Reconciled) (w : ℕ) (none : flown_at c.board w ≡ None) where
    pub free_worker_rests : s.service.core.machine.board.flights w ≡ None
    free_worker_rests = (is.working at).stands.board.idle w none

    pub is_idle : c.tables.waiting ≡ [] → ((k : Key) → IsToSync c.tables k → MustWait c.board.plan 4 c.sync.capacities s.service.core k) → IsIdle c.board.plan 4 c.sync.capacities w s.service.core
    is_idle empty waits = record { none = free_worker_rests; popped = popped c chip s is at empty; hindered = λ k i. waits k (same_keys k i) }
