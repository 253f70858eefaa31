use Rattle.std.proofs.Common.{◌∙◌, ap, sym}
use Rattle.std.specs.List.{list_any}
use Rattle.sai_chip.specs.declared.mark.TakenMark.TheVariants as mark
use Rattle.sai_chip.specs.Marks.{is_claimed}
use Rattle.sai_chip.proofs.Clashes.{clashes-by, clashes-never, clashes-port, clash-vlan, clash-router, clash-bridge_port, clash-vlan_member, clash-rif, clash-next_hop}
use Rattle.sai_chip.proofs.table.clashes.Goals as goal

pub returns-in-Port : goal.returns-in-Port
returns-in-Port c =
    rw c.in-Port.is (c.has_lane.ensures
    ∙ ap (list_any (λ lane. is_claimed (mark.Lane lane) c.args.held.now)) c.items.ensures.value
    ∙ sym (clashes-port c.in-Port.lanes c.in-Port.speed c.in-Port.mtu c.in-Port.up c.args.held.now))

pub returns-in-Group : goal.returns-in-Group
returns-in-Group c = clashes-never c.args.body.now c.args.held.now c.in-Group.is

pub returns-in-Vlan : goal.returns-in-Vlan
returns-in-Vlan c = clashes-by c.args.body.now _ (mark.Vlan c.in-Vlan.vlan) c.args.held.now c.has.result c.in-Vlan.is (clash-vlan c.in-Vlan.vlan) c.has.ensures

pub returns-in-VirtualRouter : goal.returns-in-VirtualRouter
returns-in-VirtualRouter c = clashes-by c.args.body.now _ (mark.VirtualRouter c.in-VirtualRouter.label) c.args.held.now c.has-in-VirtualRouter.result c.in-VirtualRouter.is (clash-router c.in-VirtualRouter.label) c.has-in-VirtualRouter.ensures

pub returns-in-BridgePort : goal.returns-in-BridgePort
returns-in-BridgePort c = clashes-by c.args.body.now _ (mark.BridgePort c.in-BridgePort.port) c.args.held.now c.has-in-BridgePort.result c.in-BridgePort.is (clash-bridge_port c.in-BridgePort.port) c.has-in-BridgePort.ensures

pub returns-in-VlanMember : goal.returns-in-VlanMember
returns-in-VlanMember c = clashes-by c.args.body.now _ (mark.VlanMember c.in-VlanMember.vlan c.in-VlanMember.bridge_port) c.args.held.now c.has-in-VlanMember.result c.in-VlanMember.is (clash-vlan_member c.in-VlanMember.vlan c.in-VlanMember.bridge_port c.in-VlanMember.tagging) c.has-in-VlanMember.ensures

pub returns-in-Rif : goal.returns-in-Rif
returns-in-Rif c = clashes-by c.args.body.now _ (mark.Rif c.in-Rif.on) c.args.held.now c.has-in-Rif.result c.in-Rif.is (clash-rif c.in-Rif.vr c.in-Rif.on) c.has-in-Rif.ensures

pub returns-in-NextHop : goal.returns-in-NextHop
returns-in-NextHop c = clashes-by c.args.body.now _ (mark.NextHop c.in-NextHop.rif c.in-NextHop.ip) c.args.held.now c.has-in-NextHop.result c.in-NextHop.is (clash-next_hop c.in-NextHop.rif c.in-NextHop.ip) c.has-in-NextHop.ensures

pub returns-in-GroupMember : goal.returns-in-GroupMember
returns-in-GroupMember c = rw c.in-GroupMember.is (c.has_member.ensures c.in-GroupMember.weight)
