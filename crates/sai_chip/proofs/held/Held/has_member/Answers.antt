use Rattle.std.proofs.Common.{◌∙◌}
use Rattle.sai_chip.proofs.Members.{clashes-member}
use Rattle.sai_chip.proofs.held.Held.has_member.Goals as goal

pub returns : goal.returns
returns c = λ weight. rw (← c.self.view_is) (c.has_member.ensures.value ∙ clashes-member c.self.inside.bodies c.self.inside.counts c.args.group c.args.next_hop weight c.self.invariant c.has_member.ensures.counted)
