use Rattle.sai_record.proofs.Effects.{AreRecorded}
use Rattle.sai_record.proofs.session.push_effects.Given as goal

-- the effects so far are recorded, and so many identifiers were made
abbrev pub invariant-loop-before : goal.invariant-loop-before
invariant-loop-before l = AreRecorded l.chip.effects l.before l.calls l.made
