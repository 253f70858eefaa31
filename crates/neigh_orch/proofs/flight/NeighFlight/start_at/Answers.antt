use Rattle.std.proofs.Common.{None, Some, ap}
use Rattle.swss_types.specs.declared.vrf.Vrf.TheVariants as vrf
use Rattle.switch_model.specs.Placed.{place}
use Rattle.neigh_orch.proofs.Operations.{rows, started-as}
use Rattle.neigh_orch.proofs.flight.NeighFlight.start_at.Goals as goal

pub returns-in_ok-begun-in-None-Some-clause-started : goal.returns-in_ok-begun-in-None-Some-clause-started
returns-in_ok-begun-in-None-Some-clause-started c =
    started-as c.args.plan.now c.args.reg.now c.args.room.now c.args.used.now c.args.worker c.args.on c.args.ip.now c.add.new.reg c.add.new.room (rows c.args.old) (rows c.args.new) None (Some (place vrf.Default c.in-None-Some.row.now)) c.in_ok-begun-in-None-Some.begun c.of.result
    (ap rows c.in-None-Some.is-0) (ap rows c.in-None-Some.is-1) c.of.ensures c.in_ok-begun-in-None-Some.ensures.begun

pub returns-in_ok-begun-in-Some-Some-clause-started : goal.returns-in_ok-begun-in-Some-Some-clause-started
returns-in_ok-begun-in-Some-Some-clause-started c =
    started-as c.args.plan.now c.args.reg.now c.args.room.now c.args.used.now c.args.worker c.args.on c.args.ip.now c.change.new.reg c.change.new.room (rows c.args.old) (rows c.args.new) (Some (place vrf.Default c.in-Some-Some.before.now)) (Some (place vrf.Default c.in-Some-Some.row.now)) c.in_ok-begun-in-Some-Some.begun c.of-in-Some-Some.result
    (ap rows c.in-Some-Some.is-0) (ap rows c.in-Some-Some.is-1) c.of-in-Some-Some.ensures c.in_ok-begun-in-Some-Some.ensures.begun

pub returns-in_ok-begun-in-Some-None-clause-started : goal.returns-in_ok-begun-in-Some-None-clause-started
returns-in_ok-begun-in-Some-None-clause-started c =
    started-as c.args.plan.now c.args.reg.now c.args.room.now c.args.used.now c.args.worker c.args.on c.args.ip.now c.remove.new.reg c.args.room.now (rows c.args.old) (rows c.args.new) (Some (place vrf.Default c.in-Some-None.before.now)) None c.in_ok-begun-in-Some-None.begun c.of-in-Some-None.result
    (ap rows c.in-Some-None.is-0) (ap rows c.in-Some-None.is-1) c.of-in-Some-None.ensures c.in_ok-begun-in-Some-None.ensures.begun
