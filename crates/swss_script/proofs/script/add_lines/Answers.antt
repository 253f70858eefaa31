use Rattle.std.proofs.Common.{◌≡◌, ◌+◌, Ok, ap, sym, ◌∙◌, subst}
use Rattle.swss_script.specs.Lines.{lines_in}
use Rattle.swss_script.specs.Script.{Becomes, script_from, step}
use Rattle.swss_script.proofs.Steps.{few-step, within-step}
use Rattle.swss_script.proofs.script.add_lines.Goals as goal

pub loop-line-preserved : goal.loop-line-preserved
loop-line-preserved c =
    let before = c.loop-line.draft in
    let after = c.add_line.new.draft in
    let number = c.loop-line.number + 1 in
    let line = c.in-Some.line.now in
    let lines = lines_in c.in-Some.rest.now in
    let meant : step before number line lines ≡ Ok after = subst (λ answer. Becomes (step before number line lines) answer after) c.in-Ok.is c.in_ok-add_line.ensures in (
      within-step before after number line lines meant,
      few-step before after number line lines c.loop-line.invariant.1 meant,
      ap (λ answer. script_from answer number lines) (sym meant) ∙ ap (script_from (Ok before) c.loop-line.number) (sym c.in-Some.ensures.0) ∙ c.loop-line.invariant.2,
    )
