use Rattle.sai_chip.proofs.Members.{hops-of_members}
use Rattle.sai_chip.proofs.held.Held.members.Goals as goal

pub returns : goal.returns
returns c = rw (← c.self.view_is) (hops-of_members c.self.inside.bodies c.self.inside.counts c.args.group c.in_ok-members.members.items c.self.invariant c.in_ok-members.ensures)
