use Rattle.std.proofs.Common.{◌∙◌, ◌<◌, List, length, get_or, sym, subst}
use Rattle.std.proofs.lemmas.Option.{slice_get-get_or}
use Rattle.swss_script.specs.declared.parts.Round.{Round}
use Rattle.swss_service.proofs.Scripts.{shows-at}
use Rattle.swss_service.proofs.script_rounds.ScriptRounds.shows.Goals as goal

pub returns : goal.returns
returns c = λ round some.
    let items = c.items.ensures ∙ c.self.view_is in
    let here = slice_get-get_or c.items.result.now c.args.at c.index-items-at.result (subst (λ (l : List Round). c.args.at < length l) (sym items) c.requires.at) in
    shows-at c.args.self.now c.items.result.now c.args.at (get_or c.items.result.now c.args.at c.index-items-at.result) round c.items-2.result.now items here c.items-2.ensures some
