use Rattle.std.proofs.Common.{Ok, Some, if◌then◌else◌, refl, sym, ap, ap₂, ◌∙◌}
use Rattle.swss_types.specs.declared.vrf.Vrf.TheVariants as vrf
use Rattle.table_schema.specs.Names.{names_of}
use Rattle.switch_model.specs.Placed.{place}
use Rattle.switch_machine.proofs.Placing.{bare_placed}
use Rattle.row_layout.specs.Operations.{uses_of}
use Rattle.orch_flight.specs.Sharing.{lacks_shared}
use Rattle.orch_flight.proofs.Answered.{chosen, told-err, told-ok, told-same}
use Rattle.orch_flight.proofs.Rows.{may-share}
use Rattle.route_orch.specs.Routes.{places_needed}
use Rattle.route_orch.proofs.Begins.{brought, some-row}
use Rattle.route_orch.proofs.Operations.{rows}
use Rattle.route_orch.proofs.starting.bring.Goals as goal

pub start_sharing-requires-clause-shared : goal.start_sharing-requires-clause-shared
start_sharing-requires-clause-shared c = may-share c.args.reg.now (uses_of c.args._plan.now c.args.key.now (Some (place vrf.Default c.args.new.now))) c.args.group.now c.requires.shares c.requires.may.shares

pub returns-clause-begun : goal.returns-clause-begun
returns-clause-begun c =
    let builds = lacks_shared c.args.reg.now c.args.group.now in
    let r = c.in_ok-started.started in
    let told = c.in_ok-started.ensures in
    let is = c.and.ensures in
    brought c.args._plan.now c.args.reg.now c.args.room.now c.args.used.now c.args.worker c.args.key.now (rows c.args.old) (place vrf.Default c.args.new.now) c.args.group.now c.start_sharing.new.reg c.start_sharing.new.room (Ok c.and.result)
    c.as_slice.result.now c.is_some-applied.result (if builds then c.places_needed-need_built.result else c.places_needed-need.result)
    (c.as_slice.ensures.value ∙ c.in_ok-keys.ensures ∙ ap (names_of c.args.key.now) (sym (bare_placed vrf.Default c.args.new.now))) (c.is_some-applied.ensures ∙ some-row c.args.old)
    (ap₂ (λ a b. if builds then a else b) c.places_needed-need_built.ensures c.places_needed-need.ensures ∙ chosen (λ b. places_needed b c.args.group.now c.is_some-applied.result) builds)
    c.requires.key c.requires.may.old_fits (λ none. c.requires.may.new_fits (place vrf.Default c.args.new.now) refl none) c.requires.shares c.requires.groups
    (record { free = told-ok r c.and.result is _ told.free; begun = told-ok r c.and.result is _ told.names; places = told-ok r c.and.result is _ told.places; wait = told-err r c.and.result is _ told.wait; none = told-same r c.and.result is _ told.none; none_room = told-same r c.and.result is _ told.none_room })
