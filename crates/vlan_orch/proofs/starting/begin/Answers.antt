use Rattle.std.proofs.Common.{ap}
use Rattle.vlan_orch.proofs.Starts.{removal-start, rows}
use Rattle.vlan_orch.proofs.starting.begin.Goals as goal

pub returns-in-None-clause-begun : goal.returns-in-None-clause-begun
returns-in-None-clause-begun c =
    removal-start c.args.plan.now c.args.reg.now c.args.room.now c.args.used.now c.args.worker c.args.key.now (rows c.args.old) (rows c.args.new) c.try_remove.new.reg c.args.room.now c.try_remove.result
    (ap rows c.in-None.is) c.requires.vlan c.requires.may.some c.requires.may.old_fits
    c.try_remove.ensures.free c.try_remove.ensures.ok c.try_remove.ensures.wait c.try_remove.ensures.none
