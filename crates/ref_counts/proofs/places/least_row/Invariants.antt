use Rattle.std.proofs.Common.{◌≡◌}
use Rattle.ref_counts.specs.Kept.{users_in}
use Rattle.ref_counts.proofs.places.least_row.Given as goal

-- no user so far
abbrev pub invariant-loop-user : goal.invariant-loop-user
invariant-loop-user l = users_in l.user-iterator l.pins ≡ users_in l.rows l.pins
