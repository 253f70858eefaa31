use Rattle.std.proofs.Common.{arith}
use Rattle.sai_types.specs.declared.kind.Kind.TheVariants as kind
use Rattle.orch_core.proofs.state.Core.used.Goals as goal

pub returns-clause-few : goal.returns-clause-few
returns-clause-few c = let few = c.counts.ensures.few kind.Rif in let same = c.counts.ensures.kinds kind.Rif in omega (arith, few, same)
