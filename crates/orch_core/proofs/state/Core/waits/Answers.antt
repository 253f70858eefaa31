use Rattle.std.proofs.Common.{subst, sym}
use Rattle.std.specs.Prelude.{IsSome}
use Rattle.sai_types.specs.Alike.{IsIn}
use Rattle.retry_list.specs.Reasons.{reason_at}
use Rattle.session_laws.specs.Core.{CoreState}
use Rattle.orch_core.proofs.state.Core.waits.Goals as goal

pub list_waiting-requires : goal.list_waiting-requires
list_waiting-requires c = record { listed = λ k i. subst (λ (z : CoreState). IsSome (reason_at z.waiting k)) (sym c.self.view_is) (c.requires.listed k (subst (IsIn k) c.in_ok-keys.ensures.keys i)) }
