use Rattle.std.proofs.Common.{drop}
use Rattle.round_actors.specs.Acts.{IsOnWay, own_acts}
use Rattle.round_actors.proofs.producer.act_sections.Given as goal

abbrev pub invariant-loop-section : goal.invariant-loop-section
invariant-loop-section g l = IsOnWay (own_acts l.fn.me.number l.sections) (own_acts l.fn.me.number (drop l.section-index l.sections)) l.fn.me l.me
