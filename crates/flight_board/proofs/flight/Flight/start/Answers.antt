use Rattle.std.proofs.Common.{◌≡◌, option_map, IfOk, refl, sym, ap, subst}
use Rattle.switch_machine.proofs.Placing.{bares}
use Rattle.row_layout.specs.Operations.{uses_of}
use Rattle.ref_counts.specs.declared.name.Name.TheVariants as name
use Rattle.orch_flight.specs.Starting.{IsStartedBy, answered, in_place}
use Rattle.registry_laws.specs.Flown.{group_in}
use Rattle.flight_board.specs.Flights.{HasGroupsOnly, HasRow, HasTable, operation_of, shared_group}
use Rattle.flight_board.proofs.Begins.{is-flight}
use Rattle.flight_board.proofs.flight.Flight.start.Goals as goal

pub invariant_of-result : goal.invariant_of-result
invariant_of-result c =
    let v = c.args.router.now in
    let old = in_place v (option_map (λ r. r.now) c.args.old) in
    let new = in_place v c.args.new in
    is-flight c.args.plan.now c.args.reg.now c.args.room.now c.args.used.now c.args.worker c.args.key.now new c.start.new.reg c.start.new.room old (name.Row c.in_ok-copy.field-0) c.in-Ok.operation (ap name.Row c.in_ok-copy.ensures)
    (subst (λ a. IsStartedBy c.args.plan.now c.args.reg.now c.args.room.now c.args.used.now c.args.worker c.args.key.now old new (answered operation_of a) c.start.new.reg c.start.new.room) c.in-Ok.is c.in_ok-operation.ensures.started)
    (subst (λ a. IfOk a HasGroupsOnly) c.in-Ok.is c.in_ok-operation.ensures.groups)
    (subst (λ a. IfOk a HasTable) c.in-Ok.is c.in_ok-operation.ensures.table)
    (subst (HasRow c.in-Ok.operation) (sym (bares v c.args.new)) (subst (λ a. IfOk a (λ f. HasRow f c.args.new)) c.in-Ok.is c.in_ok-operation.ensures.row))

pub returns-in-Ok-clause-begun : goal.returns-in-Ok-clause-begun
returns-in-Ok-clause-begun c =
    let new = in_place c.args.router.now c.args.new in record {
      group = refl;
      named = c.in_ok-named.ensures c.args.router.now;
      shared = subst (λ a. IfOk a (λ f. group_in (uses_of c.args.plan.now c.args.key.now new) ≡ shared_group f)) c.in-Ok.is c.in_ok-operation.ensures.shared;
    }
