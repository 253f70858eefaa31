use Rattle.std.proofs.Common.{◌∙◌}
use Rattle.table_schema.proofs.Plans.{first_taken_is, All-lanes}
use Rattle.table_schema.proofs.plan.PortPlan.first_taken.Goals as goal

pub returns : goal.returns
returns c = rw (← c.self.view_is, ← c.items.ensures.value) (c.find_taken.ensures ∙ rw c.as_slice.ensures.value (first_taken_is c.self.inside.ports.entries c.self.inside.taken.items c.items.result.now c.self.invariant.takes (All-lanes _ c.items.ensures.lanes)))
