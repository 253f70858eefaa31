use Rattle.intf_orch.proofs.Interfaces.{interface-kept}
use Rattle.intf_orch.proofs.interface.keep.Goals as goal

pub returns-clause-started : goal.returns-clause-started
returns-clause-started c =
    interface-kept c.args._plan.now c.args.on c.args._router.now c.args.reg.now c.args.room.now c.args.used.now c.args.worker c.args.old.now c.args.new.now c.begin.new.reg c.begin.new.room c.in_ok-begun.begun c.and.result
    (rw (c.router_of-from.ensures, c.router_of-to.ensures) at c.and.ensures) c.requires.may c.requires.stays
    (rw c.router_of-to.ensures at c.in_ok-begun.ensures.free) (rw c.router_of-to.ensures at c.in_ok-begun.ensures.names) c.in_ok-begun.ensures.places (rw c.router_of-to.ensures at c.in_ok-begun.ensures.wait) c.in_ok-begun.ensures.none c.in_ok-begun.ensures.none_room
