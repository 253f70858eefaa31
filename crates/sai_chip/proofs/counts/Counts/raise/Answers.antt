use Rattle.std.proofs.lemmas.Result.{on_ok_weaker}
use Rattle.sai_chip.proofs.Tallies.{more, more_none, with_kinds, with_references, with_lanes, with_vlans, with_routers, with_bridge_ports, with_vlan_members, with_rifs, with_next_hops, with_group_members}
use Rattle.sai_chip.proofs.counts.Counts.raise.Goals as goal

pub returns-in-Of-clause-ok : goal.returns-in-Of-clause-ok
returns-in-Of-clause-ok c = rw (c.in-Of.is, ← c.self.view_is) (on_ok_weaker c.raise.result (λ h. with_kinds more more_none _ c.in-Of.kind c.raise.new.counts h) c.raise.ensures.ok)

pub returns-in-RefersTo-clause-ok : goal.returns-in-RefersTo-clause-ok
returns-in-RefersTo-clause-ok c = rw (c.in-RefersTo.is, ← c.self.view_is) (on_ok_weaker c.raise-in-RefersTo.result (λ h. with_references more more_none _ c.in-RefersTo.id c.raise-in-RefersTo.new.counts h) c.raise-in-RefersTo.ensures.ok)

pub returns-in-Lane-clause-ok : goal.returns-in-Lane-clause-ok
returns-in-Lane-clause-ok c = rw (c.in-Lane.is, ← c.self.view_is) (on_ok_weaker c.raise-in-Lane.result (λ h. with_lanes more more_none _ c.in-Lane.lane c.raise-in-Lane.new.counts h) c.raise-in-Lane.ensures.ok)

pub returns-in-Vlan-clause-ok : goal.returns-in-Vlan-clause-ok
returns-in-Vlan-clause-ok c = rw (c.in-Vlan.is, ← c.self.view_is) (on_ok_weaker c.raise-in-Vlan.result (λ h. with_vlans more more_none _ c.in-Vlan.vlan c.raise-in-Vlan.new.counts h) c.raise-in-Vlan.ensures.ok)

pub returns-in-VirtualRouter-clause-ok : goal.returns-in-VirtualRouter-clause-ok
returns-in-VirtualRouter-clause-ok c = rw (c.in-VirtualRouter.is, ← c.self.view_is) (on_ok_weaker c.raise-in-VirtualRouter.result (λ h. with_routers more more_none _ c.in-VirtualRouter.label c.raise-in-VirtualRouter.new.counts h) c.raise-in-VirtualRouter.ensures.ok)

pub returns-in-BridgePort-clause-ok : goal.returns-in-BridgePort-clause-ok
returns-in-BridgePort-clause-ok c = rw (c.in-BridgePort.is, ← c.self.view_is) (on_ok_weaker c.raise-in-BridgePort.result (λ h. with_bridge_ports more more_none _ c.in-BridgePort.port c.raise-in-BridgePort.new.counts h) c.raise-in-BridgePort.ensures.ok)

pub returns-in-VlanMember-clause-ok : goal.returns-in-VlanMember-clause-ok
returns-in-VlanMember-clause-ok c = rw (c.in-VlanMember.is, ← c.self.view_is) (on_ok_weaker c.raise-in-VlanMember.result (λ h. with_vlan_members more more_none _ c.in-VlanMember.vlan c.in-VlanMember.port c.raise-in-VlanMember.new.counts h) c.raise-in-VlanMember.ensures.ok)

pub returns-in-Rif-clause-ok : goal.returns-in-Rif-clause-ok
returns-in-Rif-clause-ok c = rw (c.in-Rif.is, ← c.self.view_is) (on_ok_weaker c.raise-in-Rif.result (λ h. with_rifs more more_none _ c.in-Rif.on c.raise-in-Rif.new.counts h) c.raise-in-Rif.ensures.ok)

pub returns-in-NextHop-clause-ok : goal.returns-in-NextHop-clause-ok
returns-in-NextHop-clause-ok c = rw (c.in-NextHop.is, ← c.self.view_is) (on_ok_weaker c.raise-in-NextHop.result (λ h. with_next_hops more more_none _ c.in-NextHop.rif c.in-NextHop.ip c.raise-in-NextHop.new.counts h) c.raise-in-NextHop.ensures.ok)

pub returns-in-GroupMember-clause-ok : goal.returns-in-GroupMember-clause-ok
returns-in-GroupMember-clause-ok c = rw (c.in-GroupMember.is, ← c.self.view_is) (on_ok_weaker c.raise_member.result (λ h. with_group_members more more_none _ c.in-GroupMember.group c.in-GroupMember.next_hop c.in-GroupMember.weight c.raise_member.new.counts.entries h) c.raise_member.ensures.ok)
