use Rattle.std.proofs.Common.{arith, sym}
use Rattle.table_schema.proofs.Plans.{port_named-past}
use Rattle.table_schema.proofs.plan.PortPlan.name_of.Goals as goal

pub returns-else-at-len : goal.returns-else-at-len
returns-else-at-len c = rw (← c.self.view_is) (sym (port_named-past c.self.inside.ports.entries c.args.first c.self.invariant.plan.lanes (omega arith)))
