use Rattle.std.proofs.Common.{◌∙◌, ◌-◌, ◌<◌, List, length, get_or, sym, subst}
use Rattle.std.proofs.lemmas.Option.{slice_get-get_or}
use Rattle.swss_script.specs.declared.parts.Round.{Round}
use Rattle.swss_service.specs.Round.{RoundsTo}
use Rattle.swss_service.specs.Rounds.{RoundsBeside}
use Rattle.swss_service.proofs.Scripts.{sections-at}
use Rattle.swss_service.proofs.script_rounds.ScriptRounds.run.Goals as goal

pub returns-clause-one : goal.returns-clause-one
returns-clause-one g c = λ round some one.
    let items = c.items.ensures ∙ c.self.view_is in
    let here = slice_get-get_or c.items.result.now c.args.at c.index-items-at.result (subst (λ (l : List Round). c.args.at < length l) (sym items) c.requires.at) in
    subst (λ ss. RoundsTo ss c.args.locked.core c.args.locked.chip c.round.result.end c.round.result.locked.core c.round.result.locked.chip)
    (sections-at c.args.self.now c.items.result.now c.args.at (get_or c.items.result.now c.args.at c.index-items-at.result) round c.items-sections.result.now items here c.items-sections.ensures some) (c.round.ensures.one one)

pub returns-clause-any : goal.returns-clause-any
returns-clause-any g c = λ round some.
    let items = c.items.ensures ∙ c.self.view_is in
    let here = slice_get-get_or c.items.result.now c.args.at c.index-items-at.result (subst (λ (l : List Round). c.args.at < length l) (sym items) c.requires.at) in
    subst (λ ss. RoundsBeside (c.args.workers - 1) ss c.args.locked c.round.result.end c.round.result.locked)
    (sections-at c.args.self.now c.items.result.now c.args.at (get_or c.items.result.now c.args.at c.index-items-at.result) round c.items-sections.result.now items here c.items-sections.ensures some) c.round.ensures.any
