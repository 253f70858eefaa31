use Rattle.std.proofs.Common.{ap, ◌∙◌}
use Rattle.view_match.specs.Pairs.{partner_of}
use Rattle.view_match.proofs.pairing.partner_for.Goals as goal

pub returns : goal.returns
returns c = λ objects new index are. c.partner_near.ensures objects index ∙ ap (partner_of objects) (c.in_ok-key.ensures new are)
