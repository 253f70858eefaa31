use Rattle.intf_orch.proofs.Interfaces.{interface-moved}
use Rattle.intf_orch.proofs.interface.go_over.Goals as goal

pub returns-clause-started : goal.returns-clause-started
returns-clause-started c =
    interface-moved c.args.plan.now c.args.on c.args._router.now c.args.reg.now c.args._room.now c.args._used.now c.args.worker c.args.old.now c.args.new.now c.base_of.result c.moving.result c.begin_moved.new.reg c.in_ok-begun.begun c.and.result
    c.base_of.ensures c.moving.ensures (rw (c.router_of-from.ensures, c.router_of-to.ensures) at c.and.ensures) c.requires.goes
    (rw c.router_of-to.ensures at c.in_ok-begun.ensures.free) (rw c.router_of-to.ensures at c.in_ok-begun.ensures.names) (rw c.router_of-to.ensures at c.in_ok-begun.ensures.wait) c.in_ok-begun.ensures.none
