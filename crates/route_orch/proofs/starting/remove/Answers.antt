use Rattle.std.proofs.Common.{Some, refl}
use Rattle.swss_types.specs.declared.vrf.Vrf.TheVariants as vrf
use Rattle.switch_model.specs.Placed.{place}
use Rattle.orch_flight.proofs.Begins.{begun-removal}
use Rattle.route_orch.proofs.Begins.{removed-names, removed-places}
use Rattle.route_orch.proofs.starting.remove.Goals as goal

pub returns-clause-begun : goal.returns-clause-begun
returns-clause-begun c =
    begun-removal c.args._plan.now c.args.reg.now c.args.room.now c.args.used.now c.args.worker c.args.key.now (Some (place vrf.Default c.args._old.now)) c.try_remove.new.reg c.try_remove.result
    (removed-places c.args._plan.now c.args.key.now (place vrf.Default c.args._old.now) c.requires.key)
    (removed-names c.args._plan.now c.args.reg.now c.args.worker c.args.key.now (place vrf.Default c.args._old.now) c.requires.key (c.requires.may.old_fits (place vrf.Default c.args._old.now) refl))
    c.try_remove.ensures.free c.try_remove.ensures.ok c.try_remove.ensures.wait c.try_remove.ensures.none
