use Rattle.std.proofs.Common.{Some, refl}
use Rattle.swss_types.specs.declared.vrf.Vrf.TheVariants as vrf
use Rattle.switch_model.specs.Placed.{place}
use Rattle.orch_flight.proofs.Begins.{begun-removal}
use Rattle.port_orch.proofs.Starts.{removed-names, removed-places}
use Rattle.port_orch.proofs.starting.remove.Goals as goal

pub returns-clause-begun : goal.returns-clause-begun
returns-clause-begun c =
    begun-removal c.args._plan.now c.args.reg.now c.args.room.now c.args.used.now c.args.worker c.args.key.now (Some (place vrf.Default c.args._old.now)) c.try_remove.new.reg c.try_remove.result
    (removed-places c.args._plan.now c.args.reg.now c.args.key.now (place vrf.Default c.args._old.now) c.requires.port (c.requires.may.old_fits (place vrf.Default c.args._old.now) refl))
    (removed-names c.args._plan.now c.args.reg.now c.args.worker c.args.key.now (place vrf.Default c.args._old.now) c.requires.port)
    c.try_remove.ensures.free c.try_remove.ensures.ok c.try_remove.ensures.wait c.try_remove.ensures.none
