use Rattle.std.proofs.Common.{refl}
use Rattle.ref_counts.specs.Registry.{ids_in, state_in, users_at}
use Rattle.ref_counts.proofs.Found.{pinned-kept}
use Rattle.ref_counts.proofs.laws.pins_leave_names.Goals as goal

pub returns-clause-state : goal.returns-clause-state
returns-clause-state c = λ names worker user keys n. pinned-kept state_in worker user (λ r. refl) names keys n

pub returns-clause-ids : goal.returns-clause-ids
returns-clause-ids c = λ names worker user keys n. pinned-kept ids_in worker user (λ r. refl) names keys n

pub returns-clause-users : goal.returns-clause-users
returns-clause-users c = λ names worker user keys n. pinned-kept users_at worker user (λ r. refl) names keys n
