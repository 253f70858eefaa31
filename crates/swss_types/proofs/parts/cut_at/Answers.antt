use Rattle.std.proofs.Common.{refl, sym, ◌∙◌, ◌==◌}
use Rattle.swss_types.proofs.Cuts.{cut-at_some, cut-at_none}
use Rattle.swss_types.proofs.parts.cut_at.Goals as goal

pub returns-in-Some : goal.returns-in-Some
returns-in-Some c = cut-at_some (λ b. b == c.args.byte) c.args.text.now c.in-Some.at 0 (sym c.place_of.ensures ∙ c.in-Some.is)

pub returns-in-None : goal.returns-in-None
returns-in-None c = (refl, cut-at_none (λ b. b == c.args.byte) c.args.text.now (sym c.place_of.ensures ∙ c.in-None.is))
