use Rattle.std.proofs.Common.{Some, None, ap}
use Rattle.swss_types.specs.declared.vrf.Vrf.TheVariants as vrf
use Rattle.switch_model.specs.Placed.{place}
use Rattle.port_orch.proofs.Operations.{may-as, port-row, rows, started-as}
use Rattle.port_orch.proofs.Starts.{no-names}
use Rattle.port_orch.proofs.flight.PortFlight.start.Goals as goal

pub of-requires-clause-old : goal.of-requires-clause-old
of-requires-clause-old c = port-row c.args.plan.now c.args.key.now (rows c.args.old) c.requires.port c.requires.may.old_fits

pub of-requires-clause-new : goal.of-requires-clause-new
of-requires-clause-new c = port-row c.args.plan.now c.args.key.now (rows c.args.new) c.requires.port (λ r e. c.requires.may.new_fits r e (no-names c.args.reg.now c.args.key.now r c.requires.port))

pub add-requires-clause-may : goal.add-requires-clause-may
add-requires-clause-may c =
    may-as c.args.plan.now c.args.reg.now c.args.worker c.args.key.now (rows c.args.old) (rows c.args.new) None (Some (place vrf.Default c.in-None-Some.new.now)) (ap rows c.in-None-Some.is-0) (ap rows c.in-None-Some.is-1) c.requires.may

pub change-requires-clause-may : goal.change-requires-clause-may
change-requires-clause-may c =
    may-as c.args.plan.now c.args.reg.now c.args.worker c.args.key.now (rows c.args.old) (rows c.args.new) (Some (place vrf.Default c.in-Some-Some.old.now)) (Some (place vrf.Default c.in-Some-Some.new.now)) (ap rows c.in-Some-Some.is-0) (ap rows c.in-Some-Some.is-1) c.requires.may

pub remove-requires-clause-may : goal.remove-requires-clause-may
remove-requires-clause-may c =
    may-as c.args.plan.now c.args.reg.now c.args.worker c.args.key.now (rows c.args.old) (rows c.args.new) (Some (place vrf.Default c.in-Some-None.old.now)) None (ap rows c.in-Some-None.is-0) (ap rows c.in-Some-None.is-1) c.requires.may

pub unreachable-requires : goal.unreachable-requires
unreachable-requires c = c.requires.may.some (ap rows c.in-None-None.is-0) (ap rows c.in-None-None.is-1)

pub returns-in_ok-add-in-None-Some-clause-started : goal.returns-in_ok-add-in-None-Some-clause-started
returns-in_ok-add-in-None-Some-clause-started c =
    started-as c.args.plan.now c.args.reg.now c.args.room.now c.args.used.now c.args.worker c.args.key.now (rows c.args.old) (rows c.args.new) None (Some (place vrf.Default c.in-None-Some.new.now))
    c.in_ok-flight.flight c.in_ok-add-in-None-Some.field-0 c.begun.result c.add.new.reg c.add.new.room
    c.in_ok-flight.ensures (ap rows c.in-None-Some.is-0) (ap rows c.in-None-Some.is-1) c.begun.ensures c.requires.may c.in_ok-add-in-None-Some.ensures.begun

pub returns-in_ok-change-in-Some-Some-clause-started : goal.returns-in_ok-change-in-Some-Some-clause-started
returns-in_ok-change-in-Some-Some-clause-started c =
    started-as c.args.plan.now c.args.reg.now c.args.room.now c.args.used.now c.args.worker c.args.key.now (rows c.args.old) (rows c.args.new) (Some (place vrf.Default c.in-Some-Some.old.now)) (Some (place vrf.Default c.in-Some-Some.new.now))
    c.in_ok-flight.flight c.in_ok-change-in-Some-Some.field-0 c.begun-in-Some-Some.result c.change.new.reg c.change.new.room
    c.in_ok-flight.ensures (ap rows c.in-Some-Some.is-0) (ap rows c.in-Some-Some.is-1) c.begun-in-Some-Some.ensures c.requires.may c.in_ok-change-in-Some-Some.ensures.begun

pub returns-in_ok-remove-in-Some-None-clause-started : goal.returns-in_ok-remove-in-Some-None-clause-started
returns-in_ok-remove-in-Some-None-clause-started c =
    started-as c.args.plan.now c.args.reg.now c.args.room.now c.args.used.now c.args.worker c.args.key.now (rows c.args.old) (rows c.args.new) (Some (place vrf.Default c.in-Some-None.old.now)) None
    c.in_ok-flight.flight c.in_ok-remove-in-Some-None.field-0 c.begun-in-Some-None.result c.remove.new.reg c.args.room.now
    c.in_ok-flight.ensures (ap rows c.in-Some-None.is-0) (ap rows c.in-Some-None.is-1) c.begun-in-Some-None.ensures c.requires.may c.in_ok-remove-in-Some-None.ensures.begun
