use Rattle.sai_chip.proofs.Tallies.{less, less_none, with_kinds, with_references, with_lanes, with_vlans, with_routers, with_bridge_ports, with_vlan_members, with_rifs, with_next_hops, with_group_members}
use Rattle.sai_chip.proofs.counts.Counts.lower.Goals as goal

pub returns-in-Of : goal.returns-in-Of
returns-in-Of c = rw (c.in-Of.is, ← c.self.view_is) (with_kinds less less_none _ c.in-Of.kind c.lower.new.counts c.lower.ensures)

pub returns-in-RefersTo : goal.returns-in-RefersTo
returns-in-RefersTo c = rw (c.in-RefersTo.is, ← c.self.view_is) (with_references less less_none _ c.in-RefersTo.id c.lower-in-RefersTo.new.counts c.lower-in-RefersTo.ensures)

pub returns-in-Lane : goal.returns-in-Lane
returns-in-Lane c = rw (c.in-Lane.is, ← c.self.view_is) (with_lanes less less_none _ c.in-Lane.lane c.lower-in-Lane.new.counts c.lower-in-Lane.ensures)

pub returns-in-Vlan : goal.returns-in-Vlan
returns-in-Vlan c = rw (c.in-Vlan.is, ← c.self.view_is) (with_vlans less less_none _ c.in-Vlan.vlan c.lower-in-Vlan.new.counts c.lower-in-Vlan.ensures)

pub returns-in-VirtualRouter : goal.returns-in-VirtualRouter
returns-in-VirtualRouter c = rw (c.in-VirtualRouter.is, ← c.self.view_is) (with_routers less less_none _ c.in-VirtualRouter.label c.lower-in-VirtualRouter.new.counts c.lower-in-VirtualRouter.ensures)

pub returns-in-BridgePort : goal.returns-in-BridgePort
returns-in-BridgePort c = rw (c.in-BridgePort.is, ← c.self.view_is) (with_bridge_ports less less_none _ c.in-BridgePort.port c.lower-in-BridgePort.new.counts c.lower-in-BridgePort.ensures)

pub returns-in-VlanMember : goal.returns-in-VlanMember
returns-in-VlanMember c = rw (c.in-VlanMember.is, ← c.self.view_is) (with_vlan_members less less_none _ c.in-VlanMember.vlan c.in-VlanMember.port c.lower-in-VlanMember.new.counts c.lower-in-VlanMember.ensures)

pub returns-in-Rif : goal.returns-in-Rif
returns-in-Rif c = rw (c.in-Rif.is, ← c.self.view_is) (with_rifs less less_none _ c.in-Rif.on c.lower-in-Rif.new.counts c.lower-in-Rif.ensures)

pub returns-in-NextHop : goal.returns-in-NextHop
returns-in-NextHop c = rw (c.in-NextHop.is, ← c.self.view_is) (with_next_hops less less_none _ c.in-NextHop.rif c.in-NextHop.ip c.lower-in-NextHop.new.counts c.lower-in-NextHop.ensures)

pub returns-in-GroupMember : goal.returns-in-GroupMember
returns-in-GroupMember c = rw (c.in-GroupMember.is, ← c.self.view_is) (with_group_members less less_none _ c.in-GroupMember.group c.in-GroupMember.next_hop c.in-GroupMember.weight c.lower_member.new.counts.entries c.lower_member.ensures.less)
