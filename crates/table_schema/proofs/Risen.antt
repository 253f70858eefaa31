-- names that rise pair by pair rise
use Rattle.std.proofs.Common.{◌≡◌, ℕ, zero, suc, ◌<◌, List, [], ◌∷◌, length, drop, get_or, arith}
use Rattle.std.specs.List.{AllByRecursion}
use Rattle.std.specs.declared.cmp.Ordering.TheVariants.{Less}
use Rattle.table_schema.specs.Fields.{Pairs, by_bytes, HasRisingNames}
use Rattle.table_schema.proofs.Merges.{order}

-- what is below a name is below all above it
below : (a b : List ℕ) (ys : Pairs) → by_bytes a b ≡ Less → AllByRecursion (λ y. by_bytes b y.0 ≡ Less) ys → AllByRecursion (λ y. by_bytes a y.0 ≡ Less) ys
below a b [] less h = tt
below a b (y ∷ ys) less h = (order.trans a b y.0 less h.0, below a b ys less h.1)

-- a pair more in front, its name below the first
pub rising-more : (x : List ℕ × List ℕ) (y : List ℕ × List ℕ) (ys : Pairs) → by_bytes x.0 y.0 ≡ Less → HasRisingNames (y ∷ ys) → HasRisingNames (x ∷ y ∷ ys)
rising-more x y ys less h = ((less, below x.0 y.0 ys less h.0), h)

-- the names behind a place rise, and that at the place is below them
pub rising-from : (ps : Pairs) (at : ℕ) (d : List ℕ × List ℕ) → at < length ps → (suc at < length ps → by_bytes (get_or ps at d).0 (get_or ps (suc at) d).0 ≡ Less) → HasRisingNames (drop (suc at) ps) → HasRisingNames (drop at ps)
rising-from [] at d lt less h = absurd (omega arith)
rising-from (x ∷ []) zero d lt less h = (tt, tt)
rising-from (x ∷ y ∷ ys) zero d lt less h = rising-more x y ys (less (omega arith)) h
rising-from (x ∷ ps) (suc at) d lt less h = rising-from ps at d (omega arith) (λ more. less (omega arith)) h

-- past the last pair there is none
pub rising-none : (ps : Pairs) → HasRisingNames (drop (length ps) ps)
rising-none [] = tt
rising-none (x ∷ ps) = rising-none ps
