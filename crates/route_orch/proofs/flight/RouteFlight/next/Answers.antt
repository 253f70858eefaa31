use Rattle.std.proofs.Common.{Some, refl}
use Rattle.route_orch.specs.declared.flight.RouteStep.TheVariants as step
use Rattle.route_orch.proofs.Calls.{known-make, known-set, next-make, next-set, next-take, route_operation_told}
use Rattle.route_orch.proofs.flight.RouteFlight.next.Goals as goal

pub to-requires-clause-known : goal.to-requires-clause-known
to-requires-clause-known c =
    let i = c.as_ref-body.result.now in
    let r = c.in-Make-Some.row in
    known-make i.vrf i.prefix i.worker i.applied i.target i.leaves i.retires c.args.reg.now r c.args.self.now.operation
    (route_operation_told c.args.self.now c.self.inside.body.value i c.self.inside.wanted (Some r) step.Make c.self.view_is c.as_ref-body.ensures c.in-Make-Some.is-0 c.in-Make-Some.is-1) c.requires

pub to-to-requires-clause-known : goal.to-to-requires-clause-known
to-to-requires-clause-known c =
    let i = c.as_ref-body.result.now in
    let r = c.in-Set-Some.row in
    known-set i.vrf i.prefix i.worker i.applied i.target i.leaves i.retires c.args.reg.now r c.args.self.now.operation
    (route_operation_told c.args.self.now c.self.inside.body.value i c.self.inside.wanted (Some r) step.Set c.self.view_is c.as_ref-body.ensures c.in-Set-Some.is-0 c.in-Set-Some.is-1) c.requires

pub returns-in-Make-Some : goal.returns-in-Make-Some
returns-in-Make-Some c = λ plan over.
    let i = c.as_ref-body.result.now in
    let r = c.in-Make-Some.row in
    next-make plan i.vrf i.prefix i.worker i.applied i.target i.leaves i.retires c.args.reg.now c.router_vid-vr.result c.router_vid-vr.ensures r c.to.result c.to.ensures c.args.self.now.operation
    (route_operation_told c.args.self.now c.self.inside.body.value i c.self.inside.wanted (Some r) step.Make c.self.view_is c.as_ref-body.ensures c.in-Make-Some.is-0 c.in-Make-Some.is-1) c.requires over

pub returns-in-Set-Some : goal.returns-in-Set-Some
returns-in-Set-Some c = λ plan over.
    let i = c.as_ref-body.result.now in
    let r = c.in-Set-Some.row in
    next-set plan i.vrf i.prefix i.worker i.applied i.target i.leaves i.retires c.args.reg.now c.router_vid-vr.result c.router_vid-vr.ensures r c.to-to.result c.to-to.ensures c.args.self.now.operation
    (route_operation_told c.args.self.now c.self.inside.body.value i c.self.inside.wanted (Some r) step.Set c.self.view_is c.as_ref-body.ensures c.in-Set-Some.is-0 c.in-Set-Some.is-1) c.requires over

pub returns-in-Take-default : goal.returns-in-Take-default
returns-in-Take-default c = λ plan over.
    let i = c.as_ref-body.result.now in
    let wanted = c.self.inside.wanted in
    next-take plan i.vrf i.prefix i.worker i.applied i.target i.leaves i.retires c.args.reg.now c.router_vid-vr.result c.router_vid-vr.ensures wanted c.args.self.now.operation
    (route_operation_told c.args.self.now c.self.inside.body.value i wanted wanted step.Take c.self.view_is c.as_ref-body.ensures c.in-Take-default.is-0 refl) c.requires over
