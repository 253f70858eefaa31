use Rattle.std.proofs.Common.{rules, ◌∙◌, ap, subst}
use Rattle.std.specs.List.{fold}
use Rattle.swss_run.specs.View.{IsDesiredList}
use Rattle.swss_run.proofs.Applied.{after_round, rows-placed}
use Rattle.swss_run.proofs.view.lines_of_view.Goals as goal

pub returns : goal.returns
returns c =
    let script = c.args.script.now in
    let things = c.in_ok-things.things.items in
    record {
      things = things;
      desired =
          subst (λ rows. IsDesiredList script.plan rows things) (c.in_ok-apply_rounds.ensures ∙ ap (fold after_round script.image) c.items.ensures ∙ rows-placed script)
          (record { each = c.in_ok-things.ensures.each; rising = c.in_ok-things.ensures.rising });
      is = search rules;
    }
