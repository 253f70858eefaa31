use Rattle.std.proofs.Common.{◌≡◌, ◌++◌, drop}
use Rattle.sai_types.proofs.plan.PlanCalls.copy.Given as goal

-- the calls so far, with those that are left, are all
abbrev pub invariant-loop-call : goal.invariant-loop-call
invariant-loop-call l = l.calls.items ++ drop l.call-index l.self ≡ l.self
