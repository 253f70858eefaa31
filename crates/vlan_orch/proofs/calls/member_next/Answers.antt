use Rattle.std.proofs.Common.{subst}
use Rattle.orch_flight.specs.Calling.{KnowsIds}
use Rattle.vlan_orch.specs.Vlans.{member_operation}
use Rattle.vlan_orch.proofs.Nexts.{next-bridge, next-remove, next-remove-bridge, next-set}
use Rattle.vlan_orch.proofs.calls.member_next.Goals as goal

pub row_vid-requires : goal.row_vid-requires
row_vid-requires c = (subst (λ s. KnowsIds c.args.reg.now (member_operation 0 c.args.at s)) c.in-AddBridge.is (c.requires 0)).0

pub row_vid-requires-in-Add : goal.row_vid-requires-in-Add
row_vid-requires-in-Add c = (subst (λ s. KnowsIds c.args.reg.now (member_operation 0 c.args.at s)) c.in-Add.is (c.requires 0)).0

pub vid-requires : goal.vid-requires
vid-requires c = (subst (λ s. KnowsIds c.args.reg.now (member_operation 0 c.args.at s)) c.in-Add.is (c.requires 0)).1.0

pub row_vid-member-requires : goal.row_vid-member-requires
row_vid-member-requires c = (subst (λ s. KnowsIds c.args.reg.now (member_operation 0 c.args.at s)) c.in-Set.is (c.requires 0)).0

pub row_vid-member-requires-in-Remove : goal.row_vid-member-requires-in-Remove
row_vid-member-requires-in-Remove c = (subst (λ s. KnowsIds c.args.reg.now (member_operation 0 c.args.at s)) c.in-Remove.is (c.requires 0)).0

pub vid-bridge_port-requires : goal.vid-bridge_port-requires
vid-bridge_port-requires c = (subst (λ s. KnowsIds c.args.reg.now (member_operation 0 c.args.at s)) c.in-RemoveBridge.is (c.requires 0)).0

pub returns-in-AddBridge : goal.returns-in-AddBridge
returns-in-AddBridge c = λ worker plan.
    next-bridge plan c.args.at c.args.reg.now worker c.in-AddBridge.field-0 c.row_vid.result c.args.step c.in-AddBridge.is c.row_vid.ensures

pub returns-in-Set : goal.returns-in-Set
returns-in-Set c = λ worker plan.
    next-set plan c.args.at c.args.reg.now worker c.in-Set._old c.in-Set.new c.row_vid-member.result c.args.step c.in-Set.is c.row_vid-member.ensures

pub returns-in-Remove : goal.returns-in-Remove
returns-in-Remove c = λ worker plan.
    next-remove plan c.args.at c.args.reg.now worker c.in-Remove.field-0 c.row_vid-member-in-Remove.result c.args.step c.in-Remove.is c.row_vid-member-in-Remove.ensures

pub returns-in-RemoveBridge : goal.returns-in-RemoveBridge
returns-in-RemoveBridge c = λ worker plan.
    next-remove-bridge plan c.args.at c.args.reg.now worker c.in-RemoveBridge.field-0 c.vid-bridge_port.result c.args.step c.in-RemoveBridge.is c.vid-bridge_port.ensures
