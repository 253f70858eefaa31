use Rattle.sai_chip.proofs.counts.Counts.count.Goals as goal

pub returns-in-VlanMember : goal.returns-in-VlanMember
returns-in-VlanMember c = rw (c.in-VlanMember.is, ← c.self.view_is) c.count-in-VlanMember.ensures

pub returns-in-NextHop : goal.returns-in-NextHop
returns-in-NextHop c = rw (c.in-NextHop.is, ← c.self.view_is) c.count-in-NextHop.ensures

pub returns-in-GroupMember : goal.returns-in-GroupMember
returns-in-GroupMember c = rw (c.in-GroupMember.is, ← c.self.view_is) c.count_member.ensures
