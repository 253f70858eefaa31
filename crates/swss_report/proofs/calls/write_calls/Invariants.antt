use Rattle.std.proofs.Common.{◌≡◌, ◌-◌, ◌++◌, length}
use Rattle.sai_chip.specs.Replay.{IsReplayOf}
use Rattle.swss_report.specs.Calls.{call_lines}
use Rattle.swss_report.proofs.calls.write_calls.Given as goal

-- so many effects were followed, and the lines so far, with those of the effects that are left, are all lines
abbrev pub invariant-loop-before : goal.invariant-loop-before
invariant-loop-before l =
    let effects = l.chip.effects in
    IsReplayOf l.fn.replay effects
    → IsReplayOf l.replay effects × (l.replay.at ≡ l.before)
    × (l.out.items ++ call_lines l.plan effects l.before (length effects - l.before) ≡ l.fn.out.items ++ call_lines l.plan effects l.fn.replay.at (length effects - l.fn.replay.at))
