use Rattle.std.proofs.Common.{◌∙◌, ◌≤◌, List, length, All, ap, sym, subst}
use Rattle.swss_script.specs.declared.parts.Round.{Round}
use Rattle.round_actors.specs.Round.{AreSectionsOf}
use Rattle.swss_service.proofs.Scripts.{all-can-run}
use Rattle.swss_service.proofs.script_rounds.ScriptRounds.of.Goals as goal

pub invariant_of-result : goal.invariant_of-result
invariant_of-result c =
    let bytes = c.requires.read.0 in
    let script = c.requires.read.1 in
    let is = c.requires.read.2 in
    let producers = c.items.ensures ∙ c.requires.read.3 in
    let law = c.sections_of_scripts_can_run.ensures in
    let all = all-can-run (length script.producers) script.rounds (λ at round some. law.sections bytes script at round is some) in (
      subst (λ n. n ≤ 4) (sym (ap length producers)) (law.producers bytes script is),
      subst (λ n. All (λ (r : Round). AreSectionsOf n r.sections) c.args.rounds) (sym (ap length producers))
          (subst (λ (rs : List Round). All (λ (r : Round). AreSectionsOf (length script.producers) r.sections) rs) (sym c.requires.read.4) all),
    )
