use Rattle.std.proofs.Common.{ap}
use Rattle.ref_counts.specs.Registry.{takes_users}
use Rattle.orch_flight.proofs.Begun.{begun-state}
use Rattle.orch_flight.proofs.beginning.build_shared.Goals as goal

pub add_user-requires-clause-state : goal.add_user-requires-clause-state
add_user-requires-clause-state c = ap takes_users (begun-state _ _ _ _ _ _ c.in_ok-copy.ensures c.in_ok-begin_build.ensures.ok)
