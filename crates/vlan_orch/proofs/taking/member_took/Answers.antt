use Rattle.std.proofs.Common.{[], ◌∷◌, refl, ap}
use Rattle.table_schema.specs.declared.key.Key.TheVariants as key
use Rattle.sai_types.specs.declared.thing.Thing.TheVariants as thing
use Rattle.row_layout.specs.Operations.{Make}
use Rattle.ref_counts.specs.declared.name.Name.TheVariants as name
use Rattle.vlan_orch.specs.Vlans.{member_due, member_operation}
use Rattle.vlan_orch.proofs.Nexts.{has-builder, has-made, has-places}
use Rattle.vlan_orch.proofs.taking.member_took.Goals as goal

pub built-requires-clause-some : goal.built-requires-clause-some
built-requires-clause-some c =
    has-made c.args.reg.now (member_operation c.args.worker c.args.at c.args.step) c.args.made (thing.BridgePort c.args.at.lane) (Make (thing.VlanMember c.args.at.vlan c.args.at.lane c.in-AddBridge.tagging) ∷ []) (ap (member_due c.args.at) c.in-AddBridge.is) refl c.requires

pub built-requires-clause-places : goal.built-requires-clause-places
built-requires-clause-places c =
    has-places c.args.reg.now (member_operation c.args.worker c.args.at c.args.step) c.args.made (thing.BridgePort c.args.at.lane) (Make (thing.VlanMember c.args.at.vlan c.args.at.lane c.in-AddBridge.tagging) ∷ []) (name.BridgePort c.args.at.lane) (ap (member_due c.args.at) c.in-AddBridge.is) refl (λ h. h) c.requires

pub row_built-requires-clause-some : goal.row_built-requires-clause-some
row_built-requires-clause-some c =
    has-made c.args.reg.now (member_operation c.args.worker c.args.at c.args.step) c.args.made (thing.VlanMember c.args.at.vlan c.args.at.lane c.in-Add.tagging) [] (ap (member_due c.args.at) c.in-Add.is) refl c.requires

pub row_built-requires-clause-places : goal.row_built-requires-clause-places
row_built-requires-clause-places c =
    has-places c.args.reg.now (member_operation c.args.worker c.args.at c.args.step) c.args.made (thing.VlanMember c.args.at.vlan c.args.at.lane c.in-Add.tagging) [] (name.Row (key.Member c.args.at.vlan c.args.at.port)) (ap (member_due c.args.at) c.in-Add.is) refl (λ h. h) c.requires

pub built-requires-clause-builds : goal.built-requires-clause-builds
built-requires-clause-builds c =
    has-builder c.args.reg.now (member_operation c.args.worker c.args.at c.args.step) c.args.made (thing.BridgePort c.args.at.lane) (Make (thing.VlanMember c.args.at.vlan c.args.at.lane c.in-AddBridge.tagging) ∷ []) (name.BridgePort c.args.at.lane) (ap (member_due c.args.at) c.in-AddBridge.is) refl (λ h. h) c.requires

pub row_built-requires-clause-builds : goal.row_built-requires-clause-builds
row_built-requires-clause-builds c =
    has-builder c.args.reg.now (member_operation c.args.worker c.args.at c.args.step) c.args.made (thing.VlanMember c.args.at.vlan c.args.at.lane c.in-Add.tagging) [] (name.Row (key.Member c.args.at.vlan c.args.at.port)) (ap (member_due c.args.at) c.in-Add.is) refl (λ h. h) c.requires
