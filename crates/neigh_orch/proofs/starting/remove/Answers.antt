use Rattle.std.proofs.Common.{Some}
use Rattle.swss_types.specs.declared.vrf.Vrf.TheVariants as vrf
use Rattle.switch_model.specs.Placed.{place}
use Rattle.table_schema.specs.declared.key.Key.TheVariants as key
use Rattle.orch_flight.proofs.Begins.{begun-removal}
use Rattle.neigh_orch.proofs.Starts.{removed-names, removed-places}
use Rattle.neigh_orch.proofs.starting.remove.Goals as goal

pub returns-clause-begun : goal.returns-clause-begun
returns-clause-begun c =
    begun-removal c.args._plan.now c.args.reg.now c.args.room.now c.args.used.now c.args.worker (key.Neigh c.args.on c.args.ip.now) (Some (place vrf.Default c.args._old.now)) c.try_remove.new.reg c.try_remove.result
    (removed-places c.args._plan.now c.args.on c.args.ip.now (place vrf.Default c.args._old.now))
    (removed-names c.args._plan.now c.args.on c.args.ip.now c.args.reg.now c.args.worker (place vrf.Default c.args._old.now))
    c.try_remove.ensures.free c.try_remove.ensures.ok c.try_remove.ensures.wait c.try_remove.ensures.none
