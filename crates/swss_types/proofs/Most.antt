-- at most a number, or more
use Rattle.std.proofs.Common.{◌≡◌, ◌⊎◌, ℕ, ◌<◌, ◌≤◌, nat_le, true, arith}
use Rattle.std.proofs.lemmas.Bool.Decides.{nat_tests}

pub most_or_more : (m n : ℕ) → (m ≤ n) ⊎ (n < m)
most_or_more m n = grind arith

pub most_by_test : (m n : ℕ) → nat_le m n ≡ true → m ≤ n
most_by_test m n h = grind (arith, nat_tests)
