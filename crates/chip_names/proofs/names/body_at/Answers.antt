use Rattle.std.proofs.Common.{◌∙◌, sym}
use Rattle.chip_names.proofs.Ids.{at-numbered}
use Rattle.chip_names.proofs.names.body_at.Goals as goal

pub returns : goal.returns
returns c = c.get.ensures ∙ sym (at-numbered c.args.bodies.now c.args.id)
