use Rattle.std.proofs.Common.{◌≡◌, ◌++◌, flat_map, take}
use Rattle.swss_report.specs.Ways.{way_text}
use Rattle.swss_report.proofs.ways.write_ways.Given as goal

-- the hops so far are appended
abbrev pub invariant-loop-whop : goal.invariant-loop-whop
invariant-loop-whop l = l.out.items ≡ l.fn.out.items ++ flat_map (way_text l.plan) (take l.whop-index l.ways)
