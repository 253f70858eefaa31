use Rattle.std.proofs.Common.{ap, ◌∙◌}
use Rattle.orch_flight.specs.Needing.{places_for}
use Rattle.intf_orch.specs.Interfaces.{coming, rif_due}
use Rattle.intf_orch.proofs.Interfaces.{interface-added}
use Rattle.intf_orch.proofs.interface.add.Goals as goal

pub returns-clause-started : goal.returns-clause-started
returns-clause-started c =
    interface-added c.args.plan.now c.args.on c.args._router.now c.args.reg.now c.args.room.now c.args.used.now c.args.worker c.args.new.now c.base_of-base.result c.coming.result c.rif_places-need.result c.begin.new.reg c.begin.new.room c.in_ok-begun.begun c.and.result
    c.base_of-base.ensures c.coming.ensures (c.rif_places-need.ensures ∙ ap (λ w. places_for (rif_due w (coming c.base_of-base.result))) c.router_of-router.ensures) (rw c.router_of-router.ensures at c.and.ensures) c.requires.may
    (rw c.router_of-router.ensures at c.in_ok-begun.ensures.free) (rw c.router_of-router.ensures at c.in_ok-begun.ensures.names) c.in_ok-begun.ensures.places (rw c.router_of-router.ensures at c.in_ok-begun.ensures.wait) c.in_ok-begun.ensures.none c.in_ok-begun.ensures.none_room
