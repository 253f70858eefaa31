use Rattle.std.proofs.Common.{◌≡◌, ◌++◌, take, flat_map}
use Rattle.swss_report.specs.ChipLine.{chip_line}
use Rattle.swss_report.proofs.chip.write_things.Given as goal

-- the lines so far are appended
abbrev pub invariant-loop-thing : goal.invariant-loop-thing
invariant-loop-thing l = l.out.items ≡ l.fn.out.items ++ flat_map (λ t. chip_line l.plan t) (take l.thing-index l.things)
