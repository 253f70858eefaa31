use Rattle.std.proofs.Common.{None, refl, Some}
use Rattle.swss_types.specs.declared.vrf.Vrf.TheVariants as vrf
use Rattle.switch_model.specs.Placed.{place}
use Rattle.table_schema.specs.declared.key.Key.TheVariants as key
use Rattle.orch_flight.proofs.Begins.{no_places}
use Rattle.orch_flight.proofs.Rows.{row-begins}
use Rattle.neigh_orch.proofs.Starts.{changed-places, leaves-nothing}
use Rattle.neigh_orch.proofs.starting.change.Goals as goal

pub returns-clause-begun : goal.returns-clause-begun
returns-clause-begun c =
    let old = Some (place vrf.Default c.args._old.now) in
    row-begins c.args._plan.now c.args.reg.now c.args.room.now c.args.used.now c.args.worker (key.Neigh c.args.on c.args.ip.now) old (place vrf.Default c.args._new.now) None no_places c.start_row.new.reg c.start_row.new.room c.start_row.result
    refl refl (λ none. leaves-nothing c.args._plan.now c.args.on c.args.ip.now old (Some (place vrf.Default c.args._new.now)))
    (λ none. changed-places c.args._plan.now c.args.on c.args.ip.now (place vrf.Default c.args._old.now) (place vrf.Default c.args._new.now) (c.requires.may.old_fits (place vrf.Default c.args._old.now) refl) (c.requires.may.new_fits (place vrf.Default c.args._new.now) refl none))
    c.start_row.ensures.free c.start_row.ensures.names c.start_row.ensures.places c.start_row.ensures.wait c.start_row.ensures.none c.start_row.ensures.none_room
