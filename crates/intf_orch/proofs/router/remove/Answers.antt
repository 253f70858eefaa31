use Rattle.switch_model.specs.Placed.{place}
use Rattle.intf_orch.proofs.Routers.{router-removed}
use Rattle.intf_orch.proofs.router.remove.Goals as goal

pub returns-clause-started : goal.returns-clause-started
returns-clause-started c =
    router-removed c.args._plan.now c.args.label c.args.reg.now c.args.room.now c.args.used.now c.args.worker (place c.args._router.now c.args._old.now) c.try_remove.new.reg c.in_ok-begun.begun c.and.result
    c.and.ensures c.requires.may
    c.in_ok-begun.ensures.free c.in_ok-begun.ensures.ok c.in_ok-begun.ensures.wait c.in_ok-begun.ensures.none
