use Rattle.std.proofs.Common.{◌+◌, [], drop, sym, subst, append-nil}
use Rattle.std.proofs.lemmas.List.{drop_more}
use Rattle.std.proofs.Math.ListN.{drop_of_length-le}
use Rattle.swss_report.specs.Ended.{ended_round}
use Rattle.swss_report.specs.Shows.{Appends, IsShown}
use Rattle.swss_report.proofs.Shown.{PrintsUpTo, prints_all, prints_more}
use Rattle.swss_report.proofs.shows.write_shows.Goals as goal

pub loop-show-init : goal.loop-show-init
loop-show-init c = ([], sym (append-nil c.args.out.now.items), λ rest are. are)

pub loop-show-preserved : goal.loop-show-preserved
loop-show-preserved c =
    let shows = c.args.end.now.shows.now in
    let left = drop_more shows c.loop-show.show-index c.show-item.result c.loop-show-test.true in
    let up_to = subst (λ l. Appends c.args.out.now.items c.loop-show.out.items (PrintsUpTo (ended_round c.args.end.now) c.args.calls.now shows l)) left c.loop-show.invariant in
    prints_more (ended_round c.args.end.now) c.args.calls.now shows _ (drop (c.loop-show.show-index + 1) shows) _ _ _ up_to (subst (λ s. Appends c.loop-show.out.items c.write_show.new.out.items (IsShown (ended_round c.args.end.now) c.args.calls.now s)) c.show-item.is c.in_ok-write_show.ensures)

pub returns : goal.returns
returns c =
    let shows = c.args.end.now.shows.now in
    prints_all (ended_round c.args.end.now) c.args.calls.now shows (drop c.loop-show.show-index shows) _ _ (drop_of_length-le shows c.loop-show-test.false) c.loop-show.invariant
