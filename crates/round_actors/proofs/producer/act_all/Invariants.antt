use Rattle.std.proofs.Common.{drop}
use Rattle.round_actors.specs.Acts.{IsOnWay}
use Rattle.round_actors.proofs.producer.act_all.Given as goal

abbrev pub invariant-loop-one : goal.invariant-loop-one
invariant-loop-one g l = IsOnWay l.acts (drop l.one-index l.acts) l.fn.me l.me
