use Rattle.intf_orch.proofs.Addresses.{address-removed, live-later}
use Rattle.intf_orch.proofs.address.remove.Goals as goal

pub try_leave-requires-clause-live : goal.try_leave-requires-clause-live
try_leave-requires-clause-live c =
    live-later c.args.plan.now c.args.router.now c.args.on c.args.ip.now c.args.len c.args.reg.now c.args.room.now c.args.used.now c.args.worker c.args.old.now c.shared_by-shared.result c.shared_by-shared.ensures.value c.requires.may

pub returns-in-Ok-clause-started : goal.returns-in-Ok-clause-started
returns-in-Ok-clause-started c =
    address-removed c.args.plan.now c.args.router.now c.args.on c.args.ip.now c.args.len c.args.reg.now c.args.room.now c.args.used.now c.args.worker c.args.old.now c.shared_by-shared.result c.in-Ok.stage c.try_leave.new.reg
    c.shared_by-shared.ensures.value c.requires.may
    (rw c.in-Ok.is at c.in_ok-stage.ensures.free) (rw c.in-Ok.is at c.in_ok-stage.ensures.names) (rw c.in-Ok.is at c.in_ok-stage.ensures.stage)
