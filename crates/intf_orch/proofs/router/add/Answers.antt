use Rattle.switch_model.specs.Placed.{place}
use Rattle.intf_orch.proofs.Routers.{router-added}
use Rattle.intf_orch.proofs.router.add.Goals as goal

pub returns-clause-started : goal.returns-clause-started
returns-clause-started c =
    router-added c.args._plan.now c.args.label c.args.reg.now c.args.room.now c.args.used.now c.args.worker (place c.args._router.now c.args._new.now) c.router_places-need.result c.start_row.new.reg c.start_row.new.room c.in_ok-begun.begun c.and.result
    c.router_places-need.ensures c.and.ensures c.requires.may
    c.in_ok-begun.ensures.free c.in_ok-begun.ensures.names c.in_ok-begun.ensures.places c.in_ok-begun.ensures.wait c.in_ok-begun.ensures.none c.in_ok-begun.ensures.none_room
