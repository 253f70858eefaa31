use Rattle.std.proofs.Common.{◌≡◌, ◌++◌, take}
use Rattle.swss_report.specs.Escaped.{escaped}
use Rattle.swss_report.proofs.escaped.write_escaped.Given as goal

-- the bytes so far are appended
abbrev pub invariant-loop-byte : goal.invariant-loop-byte
invariant-loop-byte l = l.out.items ≡ l.fn.out.items ++ escaped (take l.byte-index l.text)
