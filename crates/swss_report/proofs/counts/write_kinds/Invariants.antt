use Rattle.std.proofs.Common.{◌≡◌, ◌++◌, take, flat_map}
use Rattle.swss_report.specs.Counts.{kind_line}
use Rattle.swss_report.proofs.counts.write_kinds.Given as goal

-- the lines so far are appended
abbrev pub invariant-loop-kind : goal.invariant-loop-kind
invariant-loop-kind l = l.out.items ≡ l.fn.out.items ++ flat_map (kind_line l.chip.objects l.chip.capacities) (take l.kind-index l.kinds)
