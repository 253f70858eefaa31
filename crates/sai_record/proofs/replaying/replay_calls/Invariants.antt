use Rattle.std.proofs.Common.{◌≡◌, count_by}
use Rattle.sai_types.specs.After.{makes_id}
use Rattle.sai_record.proofs.Replays.{IsFollowed}
use Rattle.sai_record.proofs.replaying.replay_calls.Given as goal

-- the calls so far were built, and the chip did not fail
abbrev pub invariant-loop-before : goal.invariant-loop-before
invariant-loop-before g l =
    let old = g.C.Chip.state l.fn.chip in
    let new = g.C.Chip.state l.chip in
    IsFollowed (count_by makes_id old.effects) old.capacities l.calls l.before l.numbers new
    × (new.faults ≡ old.faults) × (new.capacities ≡ old.capacities) × (new.fails ≡ old.fails)
