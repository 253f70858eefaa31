use Rattle.std.proofs.Common.{[], true, Some, None, refl}
use Rattle.swss_types.specs.declared.vrf.Vrf.TheVariants as vrf
use Rattle.switch_model.specs.Placed.{place}
use Rattle.orch_flight.proofs.Begins.{begun-row, no_places}
use Rattle.port_orch.proofs.Starts.{changed-names, changed-places, no-names, port-reason}
use Rattle.port_orch.proofs.starting.change.Goals as goal

pub returns-clause-begun : goal.returns-clause-begun
returns-clause-begun c =
    let places = changed-places c.args._plan.now c.args.reg.now c.args.key.now (place vrf.Default c.args._old.now) (place vrf.Default c.args._new.now) c.requires.port (c.requires.may.old_fits (place vrf.Default c.args._old.now) refl) (c.requires.may.new_fits (place vrf.Default c.args._new.now) refl (no-names c.args.reg.now c.args.key.now (place vrf.Default c.args._new.now) c.requires.port)) in
    begun-row c.args._plan.now c.args.reg.now c.args.room.now c.args.used.now c.args.worker c.args.key.now (Some (place vrf.Default c.args._old.now)) (place vrf.Default c.args._new.now) [] true None no_places c.start_row.new.reg c.start_row.new.room c.start_row.result
    (port-reason c.args._plan.now c.args.reg.now c.args.room.now c.args.used.now c.args.worker c.args.key.now (Some (place vrf.Default c.args._old.now)) (place vrf.Default c.args._new.now) no_places c.requires.port places)
    (changed-names c.args._plan.now c.args.reg.now c.args.worker c.args.key.now (place vrf.Default c.args._old.now) (place vrf.Default c.args._new.now) c.requires.port) places
    c.start_row.ensures.free c.start_row.ensures.names c.start_row.ensures.places c.start_row.ensures.wait c.start_row.ensures.none c.start_row.ensures.none_room
