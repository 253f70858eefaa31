use Rattle.crm_counts.proofs.Followed.{alarms-made, alarms-removed, follows-made, follows-removed, follows-set}
use Rattle.crm_counts.proofs.counts.Counts.follow.Goals as goal

pub returns-in-Create-clause-counts : goal.returns-in-Create-clause-counts
returns-in-Create-clause-counts c = follows-made c.args.limits.now c.args.self.now c.make.new.self c.args.call.now c.args.made c.in-Create.body c.kind.result c.in-Create.is c.kind.ensures c.make.result c.make.ensures.counts c.make.ensures.kinds

pub returns-in-Create-clause-alarm : goal.returns-in-Create-clause-alarm
returns-in-Create-clause-alarm c = alarms-made c.args.limits.now c.args.self.now c.make.new.self c.args.call.now c.args.made c.in-Create.body c.kind.result c.in-Create.is c.kind.ensures c.make.result c.make.ensures.counts c.make.ensures.alarm

pub returns-in-Set-clause-counts : goal.returns-in-Set-clause-counts
returns-in-Set-clause-counts c = follows-set c.args.limits.now c.args.self.now c.args.self.now c.args.call.now c.args.made _ _ c.in-Set.is

pub returns-in-Remove-clause-counts : goal.returns-in-Remove-clause-counts
returns-in-Remove-clause-counts c = λ effects are next.
    follows-removed c.args.limits.now c.args.self.now c.remove.new.self c.args.call.now c.args.made c.in-Remove.entry c.in-Remove.is c.remove.ensures.counts effects are next c.remove.ensures.kinds c.remove.ensures.rising

pub returns-in-Remove-clause-alarm : goal.returns-in-Remove-clause-alarm
returns-in-Remove-clause-alarm c = λ effects are next.
    alarms-removed c.args.limits.now c.args.self.now c.remove.new.self c.args.call.now c.args.made c.in-Remove.entry c.in-Remove.is c.remove.ensures.counts effects are next c.remove.result c.remove.ensures.alarm
