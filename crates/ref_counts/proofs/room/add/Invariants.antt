use Rattle.std.proofs.Common.{◌≡◌, ℕ, ◌+◌, ◌<◌, ◌≤◌, ◌⊎◌, get_or}
use Rattle.ref_counts.proofs.room.add.Given as goal

-- the numbers so far are the sums, and the others are what they were
abbrev pub invariant-loop-at : goal.invariant-loop-at
invariant-loop-at l =
    ((j : ℕ) → j < l.at → get_or l.reserved (l.first + j) 0 ≡ get_or l.initial.reserved (l.first + j) 0 + get_or l.need j 0)
    × ((i : ℕ) → i < l.first ⊎ l.first + l.at ≤ i → get_or l.reserved i 0 ≡ get_or l.initial.reserved i 0)
