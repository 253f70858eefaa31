use Rattle.std.proofs.Common.{Some, None, false, true, refl}
use Rattle.port_orch.proofs.Calls.{due-alike, due-done, due-none, knows-set, knows-take, next-make, next-set, next-take, port_operation_told}
use Rattle.port_orch.proofs.flight.PortFlight.next.Goals as goal

pub returns-then-self : goal.returns-then-self
returns-then-self c = λ plan over.
    let i = c.self.inside in
    due-done c.args.self.now i.worker i.port i.current i.target (port_operation_told c.args.self.now i.worker i.port i.done true i.current i.current i.target i.target c.self.view_is c.if-self.true refl refl)

pub returns-in_ok-body-in-None-Some : goal.returns-in_ok-body-in-None-Some
returns-in_ok-body-in-None-Some c = λ plan over.
    let i = c.self.inside in
    let r = c.in-None-Some.row in
    next-make c.args.reg.now i.worker i.port plan r c.in_ok-body-in-None-Some.field-0 c.args.self.now
    (port_operation_told c.args.self.now i.worker i.port i.done false i.current None i.target (Some r) c.self.view_is c.if-self.false c.in-None-Some.is-0 c.in-None-Some.is-1)
    c.in_ok-body-in-None-Some.ensures

pub entry-requires : goal.entry-requires
entry-requires c =
    let i = c.self.inside in
    let a = c.in-Some-Some.now in
    let r = c.in-Some-Some.new in
    knows-set c.args.reg.now i.worker i.port a r c.in-Some.attr c.args.self.now
    (port_operation_told c.args.self.now i.worker i.port i.done false i.current (Some a) i.target (Some r) c.self.view_is c.if-self.false c.in-Some-Some.is-0 c.in-Some-Some.is-1)
    c.in-Some.ensures c.requires

pub returns-in-Some : goal.returns-in-Some
returns-in-Some c = λ plan over.
    let i = c.self.inside in
    let a = c.in-Some-Some.now in
    let r = c.in-Some-Some.new in
    let is = port_operation_told c.args.self.now i.worker i.port i.done false i.current (Some a) i.target (Some r) c.self.view_is c.if-self.false c.in-Some-Some.is-0 c.in-Some-Some.is-1 in
    next-set c.args.reg.now i.worker i.port plan a r c.in-Some.attr c.entry.result c.args.self.now is c.in-Some.ensures
    (knows-set c.args.reg.now i.worker i.port a r c.in-Some.attr c.args.self.now is c.in-Some.ensures c.requires) c.entry.ensures over

pub returns-in-None : goal.returns-in-None
returns-in-None c = λ plan over.
    let i = c.self.inside in
    let a = c.in-Some-Some.now in
    let r = c.in-Some-Some.new in
    due-alike c.args.reg.now i.worker i.port a r c.args.self.now
    (port_operation_told c.args.self.now i.worker i.port i.done false i.current (Some a) i.target (Some r) c.self.view_is c.if-self.false c.in-Some-Some.is-0 c.in-Some-Some.is-1)
    c.in-None.ensures

pub entry-requires-in-Some-None : goal.entry-requires-in-Some-None
entry-requires-in-Some-None c =
    let i = c.self.inside in
    let a = c.in-Some-None.field-0-0 in
    knows-take c.args.reg.now i.worker i.port a c.args.self.now
    (port_operation_told c.args.self.now i.worker i.port i.done false i.current (Some a) i.target None c.self.view_is c.if-self.false c.in-Some-None.is-0 c.in-Some-None.is-1)
    c.requires

pub returns-in-Some-None : goal.returns-in-Some-None
returns-in-Some-None c = λ plan over.
    let i = c.self.inside in
    let a = c.in-Some-None.field-0-0 in
    let is = port_operation_told c.args.self.now i.worker i.port i.done false i.current (Some a) i.target None c.self.view_is c.if-self.false c.in-Some-None.is-0 c.in-Some-None.is-1 in
    next-take c.args.reg.now i.worker i.port plan a c.entry-in-Some-None.result c.args.self.now is
    (knows-take c.args.reg.now i.worker i.port a c.args.self.now is c.requires) c.entry-in-Some-None.ensures over

pub returns-in-None-None : goal.returns-in-None-None
returns-in-None-None c = λ plan over.
    let i = c.self.inside in
    due-none c.args.self.now i.worker i.port
    (port_operation_told c.args.self.now i.worker i.port i.done false i.current None i.target None c.self.view_is c.if-self.false c.in-None-None.is-0 c.in-None-None.is-1)
