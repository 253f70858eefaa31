use Rattle.intf_orch.proofs.Interfaces.{interface-removed}
use Rattle.intf_orch.proofs.interface.remove.Goals as goal

pub returns-clause-started : goal.returns-clause-started
returns-clause-started c =
    interface-removed c.args.plan.now c.args.on c.args._router.now c.args.reg.now c.args.room.now c.args.used.now c.args.worker c.args.old.now c.base_of.result c.going.result c.try_remove.new.reg c.in_ok-begun.begun c.and.result
    c.base_of.ensures c.going.ensures (rw c.router_of-router.ensures at c.and.ensures) c.requires.may
    c.in_ok-begun.ensures.free c.in_ok-begun.ensures.ok c.in_ok-begun.ensures.wait c.in_ok-begun.ensures.none
