use Rattle.std.proofs.Common.{◌≤◌, ◌-◌, vec_len}
use Rattle.swss_types.specs.Outside.{Gives}
use Rattle.swss_run.proofs.input.read_all.Given as goal

-- the bytes so far are those that the source gave, and at most one more than a script may have
abbrev pub invariant-loop-buffer : goal.invariant-loop-buffer
invariant-loop-buffer g l = Gives (g.S.Source.left l.initial.source) l.bytes.items (g.S.Source.left l.source) × (g.S.Source.faults l.initial.source ≤ g.S.Source.faults l.source) × (vec_len l.bytes ≤ 67108865)

abbrev pub decreases-loop-buffer : goal.decreases-loop-buffer
decreases-loop-buffer g l = 67108865 - vec_len l.bytes
