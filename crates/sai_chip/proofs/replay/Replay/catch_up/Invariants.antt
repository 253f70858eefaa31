use Rattle.std.proofs.Common.{◌≡◌}
use Rattle.sai_chip.specs.Replay.{IsReplayOf}
use Rattle.sai_chip.proofs.replay.Replay.catch_up.Given as goal

-- the effects up to this one are made
abbrev pub invariant-loop-before : goal.invariant-loop-before
invariant-loop-before l =
    (l.self-inside.at ≡ l.fn.self.at) × (l._before-end ≡ l.fn.self.at)
    × (IsReplayOf l.fn.self l.chip.effects
    → IsReplayOf (record { at = l.self-inside.at; remade = l.self-inside.remade }) l.chip.effects × (l.self-inside.remade.at ≡ l._before))
