use Rattle.std.proofs.Common.{sym, subst}
use Rattle.sai_types.specs.Hop.{AreRisingHops}
use Rattle.sai_types.proofs.Weights.{rising-none}
use Rattle.sai_types.proofs.hops.Hops.new.Goals as goal

pub invariant_of-result : goal.invariant_of-result
invariant_of-result c = subst AreRisingHops (sym c.new.ensures.items) rising-none
