-- a kind above its threshold, by its counts after effects
use Rattle.std.proofs.Common.{◌≡◌, ℕ, ◌*◌, ◌<◌, ◌==◌, Bool, true, false, not, ◌&&◌, ◌||◌, nat_le, nat_lt, List, [], ◌∷◌, ◌++◌, length, refl, ap, arith}
use Rattle.std.proofs.lemmas.Bool.{eqb-false, lt-leb}
use Rattle.std.proofs.lemmas.List.Sums.{fold_push}
use Rattle.std.proofs.Math.Nat.{mul-pos}
use Rattle.crm_counts.specs.Above.{is_above, is_above_after}

settled_by : (some high low before : Bool) → (some && (high || (some && (high || before && low)) && low)) ≡ (some && (high || before && low))
settled_by false high low before = refl
settled_by true true low before = refl
settled_by true false false false = refl
settled_by true false false true = refl
settled_by true false true false = refl
settled_by true false true true = refl

-- the same count once more leaves it as it is
pub after-after : (high low capacity : ℕ) (before : Bool) (count : ℕ) → is_above_after high low capacity (is_above_after high low capacity before count) count ≡ is_above_after high low capacity before count
after-after high low capacity before count = settled_by (not (capacity == 0)) (nat_le (high * capacity) (count * 100)) (nat_lt (low * capacity) (count * 100)) before

none_by : (high low capacity : ℕ) (empty : Bool) → low < high → (capacity == 0) ≡ empty → (not empty && (nat_le (high * capacity) 0 || false && nat_lt (low * capacity) 0)) ≡ false
none_by high low capacity true less is = refl
none_by high low capacity false less is =
    let some : 0 < capacity = let apart = eqb-false capacity 0 is in omega (arith, apart) in
    let most : 0 < high = omega arith in
    ap (λ b. b || false) (lt-leb (high * capacity) 0 (mul-pos most some))

-- where no object stands, it does not come above
pub after-none : (high low capacity : ℕ) → low < high → is_above_after high low capacity false 0 ≡ false
after-none high low capacity less = none_by high low capacity (capacity == 0) less refl

-- one count more
pub is_above-append : (high low capacity : ℕ) (counts : List ℕ) (count : ℕ) → 0 < length counts → is_above high low capacity (counts ++ count ∷ []) ≡ is_above_after high low capacity (is_above high low capacity counts) count
is_above-append high low capacity [] count some = absurd (omega (arith, some))
is_above-append high low capacity (start ∷ counts) count some = fold_push (is_above_after high low capacity) false counts count
