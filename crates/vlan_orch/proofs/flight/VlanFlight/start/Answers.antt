use Rattle.vlan_orch.proofs.Starts.{begun-fits, rows, started-as}
use Rattle.vlan_orch.proofs.flight.VlanFlight.start.Goals as goal

pub first-requires-clause-new : goal.first-requires-clause-new
first-requires-clause-new c =
    begun-fits c.args.plan.now c.args.reg.now c.args.room.now c.args.used.now c.args.worker c.args.key.now (rows c.args.old) (rows c.args.new) c.begin.new.reg c.begin.new.room c.in_ok-begin.field-0 c.in-Ok.field-0 c.in-Ok.is c.requires.may c.in_ok-begin.ensures.begun

pub returns-in-Ok-clause-started : goal.returns-in-Ok-clause-started
returns-in-Ok-clause-started c =
    started-as c.args.plan.now c.args.reg.now c.args.room.now c.args.used.now c.args.worker c.args.key.now (rows c.args.old) (rows c.args.new) c.builds_bridge-builds.result c.first.result c.begin.new.reg c.begin.new.room c.in_ok-begin.field-0 c.in-Ok.field-0
    c.in-Ok.is c.requires.may c.builds_bridge-builds.ensures c.first.ensures c.in_ok-begin.ensures.begun
