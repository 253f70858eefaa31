use Rattle.intf_orch.specs.declared.stage.Subject.TheVariants as subject
use Rattle.intf_orch.proofs.Calls.{intf_operation_told}
use Rattle.intf_orch.proofs.Routers.{may-router}
use Rattle.intf_orch.proofs.Takes.{may-own, may-rif}
use Rattle.intf_orch.proofs.flight.IntfFlight.took.Goals as goal

pub took_rif-requires : goal.took_rif-requires
took_rif-requires c =
    let i = c.self.inside in
    let w = c.in-Intf in
    may-rif c.args.reg.now i.worker i.applied i.wanted c.args.made c.args.self.now c.requires w.on w.field-1 w.field-2 w.stage
    (intf_operation_told c.args.self.now i.worker i.applied i.wanted i.subject (subject.Intf w.on w.field-1 w.field-2 w.stage) c.self.view_is w.is)

pub took_router-requires : goal.took_router-requires
took_router-requires c =
    let i = c.self.inside in
    let w = c.in-Vrf in
    may-router c.args.reg.now w.label i.worker i.applied i.wanted c.args.self.now w.stage
    (intf_operation_told c.args.self.now i.worker i.applied i.wanted i.subject (subject.Vrf w.label w.stage) c.self.view_is w.is) c.args.made c.requires

pub took_own-requires : goal.took_own-requires
took_own-requires c =
    let i = c.self.inside in
    let w = c.in-Addr in
    may-own c.args.reg.now i.worker i.applied i.wanted c.args.made c.args.self.now c.requires w.router w.field-1 w.ip w.field-3 w.stage
    (intf_operation_told c.args.self.now i.worker i.applied i.wanted i.subject (subject.Addr w.router w.field-1 w.ip w.field-3 w.stage) c.self.view_is w.is)
