use Rattle.std.proofs.Common.{Some, None}
use Rattle.neigh_orch.proofs.Calls.{neigh_operation_told, next-made, next-set, next-taken}
use Rattle.neigh_orch.proofs.flight.NeighFlight.next.Goals as goal

pub returns-in-None-Some : goal.returns-in-None-Some
returns-in-None-Some c = λ plan.
    let i = c.self.inside in
    let mac = c.in-None-Some.mac in
    next-made plan c.args.reg.now i.worker i.on i.ip i.base i.left c.args.self.now c.next_made.result mac
    (neigh_operation_told c.args.self.now i.worker i.on i.ip i.base i.left i.current None i.target (Some mac) c.self.view_is c.in-None-Some.is-0 c.in-None-Some.is-1) c.next_made.ensures

pub returns-in-Some-Some : goal.returns-in-Some-Some
returns-in-Some-Some c = λ plan.
    let i = c.self.inside in
    let now = c.in-Some-Some.now in
    let mac = c.in-Some-Some.mac in
    next-set plan c.args.reg.now i.worker i.on i.ip i.base i.left c.args.self.now c.next_set.result now mac
    (neigh_operation_told c.args.self.now i.worker i.on i.ip i.base i.left i.current (Some now) i.target (Some mac) c.self.view_is c.in-Some-Some.is-0 c.in-Some-Some.is-1) c.next_set.ensures

pub returns-in-Some-None : goal.returns-in-Some-None
returns-in-Some-None c = λ plan.
    let i = c.self.inside in
    let now = c.in-Some-None.field-0-0 in
    next-taken plan c.args.reg.now i.worker i.on i.ip i.base i.left c.args.self.now c.next_taken.result now
    (neigh_operation_told c.args.self.now i.worker i.on i.ip i.base i.left i.current (Some now) i.target None c.self.view_is c.in-Some-None.is-0 c.in-Some-None.is-1) c.next_taken.ensures
