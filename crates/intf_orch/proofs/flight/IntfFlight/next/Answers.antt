use Rattle.intf_orch.specs.declared.stage.Subject.TheVariants as subject
use Rattle.intf_orch.proofs.Calls.{intf_operation_told, knows-rif, next-own, next-rif}
use Rattle.intf_orch.proofs.Routers.{knows-router, next-router}
use Rattle.intf_orch.proofs.flight.IntfFlight.next.Goals as goal

pub next_router-requires : goal.next_router-requires
next_router-requires c =
    let i = c.self.inside in
    let w = c.in-Vrf in
    knows-router c.args.reg.now w.label i.worker i.applied i.wanted c.args.self.now w.stage (intf_operation_told c.args.self.now i.worker i.applied i.wanted i.subject (subject.Vrf w.label w.stage) c.self.view_is w.is) c.requires

pub next_rif-requires : goal.next_rif-requires
next_rif-requires c =
    let i = c.self.inside in
    let w = c.in-Intf in
    knows-rif c.args.reg.now i.worker i.applied i.wanted c.args.self.now w.on w.field-1 w.router w.stage (intf_operation_told c.args.self.now i.worker i.applied i.wanted i.subject (subject.Intf w.on w.field-1 w.router w.stage) c.self.view_is w.is) c.requires

pub returns-in-Intf : goal.returns-in-Intf
returns-in-Intf c = λ plan.
    let i = c.self.inside in
    let w = c.in-Intf in
    next-rif c.args.reg.now i.worker i.applied i.wanted c.args.self.now w.on w.field-1 w.router w.stage (intf_operation_told c.args.self.now i.worker i.applied i.wanted i.subject (subject.Intf w.on w.field-1 w.router w.stage) c.self.view_is w.is) plan c.next_rif.result c.next_rif.ensures c.requires

pub returns-in-Addr : goal.returns-in-Addr
returns-in-Addr c = λ plan over.
    let i = c.self.inside in
    let w = c.in-Addr in
    next-own c.args.reg.now i.worker i.applied i.wanted c.args.self.now w.router w.field-1 w.ip w.field-3 w.stage (intf_operation_told c.args.self.now i.worker i.applied i.wanted i.subject (subject.Addr w.router w.field-1 w.ip w.field-3 w.stage) c.self.view_is w.is) plan c.next_own.result c.next_own.ensures c.requires

pub returns-in-Vrf : goal.returns-in-Vrf
returns-in-Vrf c = λ plan.
    let i = c.self.inside in
    let w = c.in-Vrf in
    next-router c.args.reg.now w.label i.worker i.applied i.wanted c.args.self.now w.stage (intf_operation_told c.args.self.now i.worker i.applied i.wanted i.subject (subject.Vrf w.label w.stage) c.self.view_is w.is) plan c.next_router.result c.next_router.ensures
