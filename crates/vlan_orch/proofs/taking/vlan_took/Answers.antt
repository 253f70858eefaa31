use Rattle.std.proofs.Common.{[], refl, ap}
use Rattle.table_schema.specs.declared.key.Key.TheVariants as key
use Rattle.sai_types.specs.declared.thing.Thing.TheVariants as thing
use Rattle.ref_counts.specs.declared.name.Name.TheVariants as name
use Rattle.vlan_orch.specs.Vlans.{vlan_due, vlan_operation}
use Rattle.vlan_orch.proofs.Nexts.{has-builder, has-made, has-places}
use Rattle.vlan_orch.proofs.taking.vlan_took.Goals as goal

pub row_built-requires-clause-some : goal.row_built-requires-clause-some
row_built-requires-clause-some c =
    has-made c.args.reg.now (vlan_operation c.args.worker c.args.vlan c.args.step) c.args.made (thing.Vlan c.args.vlan) [] (ap (vlan_due c.args.vlan) c.in-Add.is) refl c.requires

pub row_built-requires-clause-places : goal.row_built-requires-clause-places
row_built-requires-clause-places c =
    has-places c.args.reg.now (vlan_operation c.args.worker c.args.vlan c.args.step) c.args.made (thing.Vlan c.args.vlan) [] (name.Row (key.Vlan c.args.vlan)) (ap (vlan_due c.args.vlan) c.in-Add.is) refl (λ h. h) c.requires

pub row_built-requires-clause-builds : goal.row_built-requires-clause-builds
row_built-requires-clause-builds c =
    has-builder c.args.reg.now (vlan_operation c.args.worker c.args.vlan c.args.step) c.args.made (thing.Vlan c.args.vlan) [] (name.Row (key.Vlan c.args.vlan)) (ap (vlan_due c.args.vlan) c.in-Add.is) refl (λ h. h) c.requires
