use Rattle.std.proofs.Common.{◌≡◌, ◌∙◌, Ok, option_map, ap, rules}
use Rattle.swss_types.specs.declared.vrf.Vrf.TheVariants as vrf
use Rattle.switch_model.specs.Placed.{bare}
use Rattle.switch_machine.proofs.Placing.{bares}
use Rattle.orch_flight.specs.Starting.{answered, in_place}
use Rattle.route_orch.specs.Routes.{operation_of_route}
use Rattle.flight_board.proofs.Begins.{told-default, told-seen}
use Rattle.flight_board.proofs.Events.{operation-is}
use Rattle.flight_board.proofs.row_flight.RowFlight.start.Goals as goal

pub returns-in-Ok-clause-started : goal.returns-in-Ok-clause-started
returns-in-Ok-clause-started c =
    let place : c.args.router.now ≡ vrf.Default = search rules in
    told-default c.args.plan.now c.args.reg.now c.args.room.now c.args.used.now c.args.worker c.args.key.now c.args.router.now place (option_map (λ r. r.now) c.args.old) _ c.args.new.now c.as_ref-given.ensures.value c.start.new.reg c.start.new.room c.in_ok-flight-in-Port.field-0 (Ok c.in-Ok.flight) c.in-Ok.is c.in_ok-flight-in-Port.ensures.started

pub returns-in-Ok-2-clause-started : goal.returns-in-Ok-2-clause-started
returns-in-Ok-2-clause-started c =
    let place : c.args.router.now ≡ vrf.Default = search rules in
    told-default c.args.plan.now c.args.reg.now c.args.room.now c.args.used.now c.args.worker c.args.key.now c.args.router.now place (option_map (λ r. r.now) c.args.old) _ c.args.new.now c.as_ref-given-in-Neigh.ensures.value c.start-in-Neigh.new.reg c.start-in-Neigh.new.room c.in_ok-flight-in-Neigh.field-0 (Ok c.in-Ok-2.flight) c.in-Ok-2.is c.in_ok-flight-in-Neigh.ensures.started

pub returns-in-Ok-4-clause-started : goal.returns-in-Ok-4-clause-started
returns-in-Ok-4-clause-started c =
    told-seen c.args.plan.now c.args.reg.now c.args.room.now c.args.used.now c.args.worker c.args.key.now c.args.router.now (option_map (λ r. r.now) c.args.old) _ c.args.new.now c.start-in-Intf.new.reg c.start-in-Intf.new.room c.in_ok-flight-in-Intf.field-0 (Ok c.in-Ok-4.flight) c.as_ref-given-in-Intf.ensures.value c.in-Ok-4.is c.in_ok-flight-in-Intf.ensures.started

pub returns-in-Ok-5-clause-started : goal.returns-in-Ok-5-clause-started
returns-in-Ok-5-clause-started c =
    let place : c.args.router.now ≡ vrf.Default = search rules in
    told-default c.args.plan.now c.args.reg.now c.args.room.now c.args.used.now c.args.worker c.args.key.now c.args.router.now place (option_map (λ r. r.now) c.args.old) _ c.args.new.now c.as_ref-given-in-Vlan.ensures.value c.start-in-Vlan.new.reg c.start-in-Vlan.new.room c.in_ok-flight-in-Vlan.field-0 (Ok c.in-Ok-5.flight) c.in-Ok-5.is c.in_ok-flight-in-Vlan.ensures.started

pub returns-in-Ok-3-clause-started : goal.returns-in-Ok-3-clause-started
returns-in-Ok-3-clause-started c =
    let place : c.args.router.now ≡ vrf.Default = search rules in
    told-default c.args.plan.now c.args.reg.now c.args.room.now c.args.used.now c.args.worker c.args.key.now c.args.router.now place (option_map (λ r. r.now) c.args.old) c.take-new.result c.args.new.now c.take-new.ensures.value c.start-in-Route.new.reg c.start-in-Route.new.room (answered operation_of_route c.in_ok-flight-in-Route.field-0) (Ok c.in-Ok-3.flight.operation) (ap (answered operation_of_route) c.in-Ok-3.is) c.in_ok-flight-in-Route.ensures.started

pub returns-in-Ok-3-clause-row : goal.returns-in-Ok-3-clause-row
returns-in-Ok-3-clause-row c =
    let place : c.args.router.now ≡ vrf.Default = search rules in
    let v = c.args.router.now in
    let old = option_map (λ r. r.now) c.args.old in
    let told = told-default c.args.plan.now c.args.reg.now c.args.room.now c.args.used.now c.args.worker c.args.key.now v place old c.take-new.result c.args.new.now c.take-new.ensures.value c.start-in-Route.new.reg c.start-in-Route.new.room (answered operation_of_route c.in_ok-flight-in-Route.field-0) (Ok c.in-Ok-3.flight.operation) (ap (answered operation_of_route) c.in-Ok-3.is) c.in_ok-flight-in-Route.ensures.started in
    ap (option_map bare) (operation-is c.args.plan.now c.args.reg.now c.args.room.now c.args.used.now c.args.worker c.args.key.now (in_place v c.args.new.now) c.start-in-Route.new.reg c.start-in-Route.new.room (in_place v old) c.in-Ok-3.flight.operation told).row ∙ bares v c.args.new.now
