use Rattle.std.proofs.Common.{◌∙◌, ◌++◌, ap}
use Rattle.swss_report.specs.Calls.{calls_text}
use Rattle.swss_report.specs.Ended.{ended_round}
use Rattle.swss_report.specs.Marks.{marks_text}
use Rattle.swss_report.proofs.Shown.{round_shown}
use Rattle.swss_report.proofs.round.round_lines.Goals as goal

pub returns-clause-text : goal.returns-clause-text
returns-clause-text c = λ is.
    let shown = c.in_ok-write_shows.ensures in
    let marks = c.in_ok-write_marks.ensures ∙ ap (λ l. l ++ marks_text c.args.end.now.number c.args.end.now.marks.now) c.new-lines.ensures.items in
    record {
      shown = shown.0;
      prints = round_shown (ended_round c.args.end.now) c.as_slice.result.now (calls_text c.args.end.now.plan.now c.args.replay.now.at c.args.end.now.chip.now.effects) c.args.end.now.shows.now shown.0 (λ any. c.as_slice.ensures.value ∙ c.in_ok-calls.ensures.lines is any) shown.2;
      is = shown.1 ∙ ap (λ l. l ++ shown.0) marks;
    }
