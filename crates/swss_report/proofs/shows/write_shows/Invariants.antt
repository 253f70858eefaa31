use Rattle.std.proofs.Common.{drop}
use Rattle.swss_report.specs.Ended.{ended_round}
use Rattle.swss_report.specs.Shows.{Appends}
use Rattle.swss_report.proofs.Shown.{PrintsUpTo}
use Rattle.swss_report.proofs.shows.write_shows.Given as goal

-- what was printed so far, with what the shows that are left print, is what all print
abbrev pub invariant-loop-show : goal.invariant-loop-show
invariant-loop-show l = Appends l.fn.out.items l.out.items (PrintsUpTo (ended_round l.end) l.calls l.end.shows.now (drop l.show-index l.end.shows.now))
