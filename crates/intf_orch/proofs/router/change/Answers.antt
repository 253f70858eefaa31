use Rattle.switch_model.specs.Placed.{place}
use Rattle.intf_orch.proofs.Routers.{router-changed}
use Rattle.intf_orch.proofs.router.change.Goals as goal

pub returns-clause-started : goal.returns-clause-started
returns-clause-started c =
    router-changed c.args._plan.now c.args.label c.args.reg.now c.args.room.now c.args.used.now c.args.worker (place c.args._router.now c.args._old.now) (place c.args._router.now c.args._new.now) c.start_row.new.reg c.start_row.new.room c.in_ok-begun.begun c.and.result
    c.and.ensures c.requires.may
    c.in_ok-begun.ensures.free c.in_ok-begun.ensures.names c.in_ok-begun.ensures.places c.in_ok-begun.ensures.wait c.in_ok-begun.ensures.none c.in_ok-begun.ensures.none_room
