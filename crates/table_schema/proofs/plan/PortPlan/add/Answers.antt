use Rattle.std.proofs.Common.{rules}
use Rattle.table_schema.proofs.Plans.{All-lanes, IsIndexed-added}
use Rattle.table_schema.proofs.plan.PortPlan.add.Goals as goal

pub invariant_of-self-2 : goal.invariant_of-self-2
invariant_of-self-2 c = IsIndexed-added c.self.inside.ports.entries _ c.self.inside.taken.items _ c.self.inside.names.items c.args.port _ c.args.lanes (search rules) (search rules) (search rules) c.self.invariant (search rules) (search rules)

pub mark-requires-clause-lanes : goal.mark-requires-clause-lanes
mark-requires-clause-lanes c = All-lanes c.items.result.now c.items.ensures.lanes
