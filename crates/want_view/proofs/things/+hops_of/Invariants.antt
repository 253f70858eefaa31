use Rattle.std.proofs.Common.{length}
use Rattle.want_view.proofs.things.+hops_of.Given as goal

-- each call is left with fewer hops
abbrev pub decreases-hops_of : goal.decreases-hops_of
decreases-hops_of l = length l.hops.now
