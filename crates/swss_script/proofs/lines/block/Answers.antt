use Rattle.std.proofs.Common.{sym, ap, ◌∙◌}
use Rattle.swss_script.specs.Lines.{is_end}
use Rattle.swss_script.proofs.LinesIn.{block-more}
use Rattle.swss_script.proofs.lines.block.Goals as goal

pub loop-line-preserved : goal.loop-line-preserved
loop-line-preserved c =
    let open_still = ap is_end (sym c.line_text.ensures) ∙ sym c.if-is_end.ensures in
    let more = block-more c.args.text.now c.loop-line.left.now c.in-Some.line.now c.in-Some.rest.now c.loop-line.at c.loop-line.invariant.0 c.loop-line.invariant.1 c.in-Some.ensures.0 c.in-Some.ensures.1 open_still in (
      more.0,
      more.1,
      more.2 ∙ c.loop-line.invariant.2,
    )
