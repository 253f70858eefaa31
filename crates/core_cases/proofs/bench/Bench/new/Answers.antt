use Rattle.core_cases.proofs.Going.{begun_core}
use Rattle.core_cases.proofs.bench.Bench.new.Goals as goal

pub invariant_of-result : goal.invariant_of-result
invariant_of-result c = begun_core c.args.plan _ _ _ c.new.result c.new-3.result c.len-ports.ensures.plan c.new.ensures c.new-3.ensures
