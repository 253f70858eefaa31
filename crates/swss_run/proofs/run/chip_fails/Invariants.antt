use Rattle.std.proofs.Common.{◌≡◌, map, take}
use Rattle.swss_run.specs.Run.{chip_fail}
use Rattle.swss_run.proofs.run.chip_fails.Given as goal

-- the fails so far are there
abbrev pub invariant-loop-fail : goal.invariant-loop-fail
invariant-loop-fail l = l.chip_fails.items ≡ map chip_fail (take l.fail-index l.fail-items)
