use Rattle.std.proofs.Common.{◌≡◌, drop, Ok}
use Rattle.table_schema.specs.Plan.{plan_from}
use Rattle.table_schema.proofs.plan.PortPlan.put_lines.Given as goal

-- the plan so far, with the lines that are left, is the first one with those of all lines
abbrev pub invariant-loop-at : goal.invariant-loop-at
invariant-loop-at l = plan_from (Ok l.self) l.at (drop l.at l.lines) ≡ plan_from (Ok l.fn.self) 0 l.lines
