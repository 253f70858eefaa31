use Rattle.std.proofs.Common.{refl}
use Rattle.swss_types.specs.declared.vrf.Vrf.TheVariants as vrf
use Rattle.switch_model.specs.Placed.{place}
use Rattle.vlan_orch.proofs.Starts.{rows, some-rows, vlan-start}
use Rattle.vlan_orch.proofs.starting.begin_vlan.Goals as goal

pub returns-clause-begun : goal.returns-clause-begun
returns-clause-begun c =
    vlan-start c.args._plan.now c.args.reg.now c.args.room.now c.args.used.now c.args.worker c.args.key.now (rows c.args.old) (place vrf.Default c.args._new.now) c.is_some-applied.result c.vlan_places-need.result.now c.start_row.new.reg c.start_row.new.room c.start_row.result
    c.requires.vlan c.requires.may.old_fits (c.requires.may.new_fits (place vrf.Default c.args._new.now) refl) (some-rows c.is_some-applied.result c.args.old c.is_some-applied.ensures) c.vlan_places-need.ensures
    (c.start_row.ensures.free, c.start_row.ensures.names, c.start_row.ensures.places, c.start_row.ensures.wait, c.start_row.ensures.none, c.start_row.ensures.none_room)
