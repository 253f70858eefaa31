use Rattle.std.proofs.Common.{Ok, sym, ap, subst}
use Rattle.orch_flight.specs.Starting.{IsBegunBy, flown, in_default}
use Rattle.route_orch.specs.Routes.{IsFirst, operation_of_route, route_state}
use Rattle.route_orch.proofs.Operations.{new-route-row, route-row, rows, started-as}
use Rattle.route_orch.proofs.flight.RouteFlight.start.Goals as goal

pub body_of-requires-clause-old : goal.body_of-requires-clause-old
body_of-requires-clause-old c = route-row c.args.plan.now c.args.key.now (rows c.args.old) c.requires.key c.requires.may.old_fits

pub own_row-wanted-requires : goal.own_row-wanted-requires
own_row-wanted-requires c =
    let plan = c.args.plan.now in
    let k = c.args.key.now in
    let old = rows c.args.old in
    new-route-row plan c.args.reg.now c.args.room.now c.args.used.now c.args.worker k old (in_default c.args.new) c.in_ok-begin.field-0 c.begin.new.reg c.begin.new.room c.in-Ok.is c.requires.key c.requires.may
    (subst (λ o. IsBegunBy plan c.args.reg.now c.args.room.now c.args.used.now c.args.worker k old (in_default o) c.in_ok-begin.field-0 c.begin.new.reg c.begin.new.room) c.as_ref-given.ensures.value c.in_ok-begin.ensures.begun)

pub returns-in-Ok-clause-started : goal.returns-in-Ok-clause-started
returns-in-Ok-clause-started c =
    let plan = c.args.plan.now in
    let k = c.args.key.now in
    let old = rows c.args.old in
    let b = c.in_ok-body.body.value in
    let n = c.own_row-wanted.result in
    let f = operation_of_route (route_state n b) in
    let same = c.as_ref-given.ensures.value in
    started-as plan c.args.reg.now c.args.room.now c.args.used.now c.args.worker k old (in_default c.args.new) b n c.in_ok-begin.field-0 (Ok f) c.begin.new.reg c.begin.new.room
    (subst (λ o. IsFirst plan c.args.worker k old (in_default o) b) same c.in_ok-body.ensures) c.own_row-wanted.ensures (sym (ap (flown f) c.in-Ok.is)) c.requires.may
    (subst (λ o. IsBegunBy plan c.args.reg.now c.args.room.now c.args.used.now c.args.worker k old (in_default o) c.in_ok-begin.field-0 c.begin.new.reg c.begin.new.room) same c.in_ok-begin.ensures.begun)
