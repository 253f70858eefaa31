use Rattle.std.proofs.Common.{◌≡◌, ◌++◌, take, flat_map}
use Rattle.swss_report.specs.Waiting.{waiting_line}
use Rattle.swss_report.proofs.waiting.write_waits.Given as goal

-- the lines so far are appended
abbrev pub invariant-loop-waiting : goal.invariant-loop-waiting
invariant-loop-waiting l = l.out.items ≡ l.fn.out.items ++ flat_map waiting_line (take l.waiting-index l.waits)
