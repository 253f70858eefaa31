use Rattle.std.proofs.Common.{subst}
use Rattle.orch_flight.specs.Calling.{KnowsIds}
use Rattle.vlan_orch.specs.Vlans.{vlan_operation}
use Rattle.vlan_orch.proofs.Nexts.{next-vlan}
use Rattle.vlan_orch.proofs.calls.vlan_next.Goals as goal

pub row_vid-requires : goal.row_vid-requires
row_vid-requires c = (subst (λ s. KnowsIds c.args.reg.now (vlan_operation 0 c.args.vlan s)) c.in-Remove.is (c.requires 0)).0

pub returns-in-Add : goal.returns-in-Add
returns-in-Add c = λ worker plan over. next-vlan plan c.args.reg.now worker c.args.vlan c.args.step c.in-Add.is
