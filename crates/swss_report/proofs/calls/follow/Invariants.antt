use Rattle.std.proofs.Common.{◌≡◌}
use Rattle.sai_chip.specs.Replay.{IsReplayOf}
use Rattle.swss_report.proofs.calls.follow.Given as goal

-- so many effects were followed
abbrev pub invariant-loop-before : goal.invariant-loop-before
invariant-loop-before l = IsReplayOf l.fn.replay l.chip.effects → IsReplayOf l.replay l.chip.effects × (l.replay.at ≡ l._before)
