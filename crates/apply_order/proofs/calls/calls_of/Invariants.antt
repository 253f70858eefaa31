use Rattle.std.proofs.Common.{◌≡◌, ◌++◌, drop}
use Rattle.apply_order.specs.Calls.{steps_calls}
use Rattle.apply_order.proofs.calls.calls_of.Given as goal

-- the calls so far, with those of the steps that are left, are all
abbrev pub invariant-loop-timed : goal.invariant-loop-timed
invariant-loop-timed l = l.calls ++ steps_calls l.names l.old l.new (drop l.timed-index l.steps) ≡ steps_calls l.names l.old l.new l.steps
