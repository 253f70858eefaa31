-- reading hexadecimal digits one at a time
use Rattle.std.proofs.Common.{◌≡◌, ℕ, ◌+◌, ◌*◌, ◌<◌, ◌≤◌, ◌^◌, ◌&&◌, true, false, leb, suc, List, [], ◌∷◌, length, drop, get_or, Option, None, Some, IfSome, refl, add-one, arith, lit≤}
use Rattle.std.proofs.Math.Seq.{drop-cons}
use Rattle.std.proofs.Math.Nat.{pow-le-pow_right, pow-suc}
use Rattle.std.proofs.lemmas.Bool.{ltb-true, leb-true, and_parts}
use Rattle.std.specs.Char.{is_digit, digit_value}
use Rattle.swss_types.specs.Hex.{hex_behind, hex_within}
use Rattle.swss_types.proofs.Choices.{behind_test}

-- the next digit
pub hex_behind_more : (n i : ℕ) (bs : List ℕ) → i < length bs → is_digit (get_or bs i 0) 16 ≡ true → hex_behind n (drop i bs) ≡ hex_behind (16 * n + digit_value (get_or bs i 0)) (drop (i + 1) bs)
hex_behind_more n i bs within digit = rw (add-one, drop-cons bs i 0, digit) refl

-- a byte that is no digit
pub hex_behind_stuck : (n i : ℕ) (bs : List ℕ) → i < length bs → is_digit (get_or bs i 0) 16 ≡ false → hex_behind n (drop i bs) ≡ None
hex_behind_stuck n i bs within other = rw (drop-cons bs i 0, other) refl

-- three digits leave room for a fourth
pub sixteenth_fits : (n i : ℕ) → n < 16 ^ i → i < 4 → n < 4096
sixteenth_fits n i small few = let few' : i ≤ 3 = omega arith in let most : 16 ^ i ≤ 16 ^ 3 = pow-le-pow_right (lit≤ tt) few' in omega arith

-- four digits fit in 16 bits
pub four_fit : (n i : ℕ) → n < 16 ^ i → i ≤ 4 → n < 65536
four_fit n i small few = let most : 16 ^ i ≤ 16 ^ 4 = pow-le-pow_right (lit≤ tt) few in omega arith

-- a number of few digits is below the bound of more
pub small_for_more : (o : Option ℕ) (few many : ℕ) → few ≤ many → IfSome o (λ n. n < 16 ^ few) → IfSome o (λ n. n < 16 ^ many)
small_for_more None few many le h = h
small_for_more (Some n) few many le h = let more : 16 ^ few ≤ 16 ^ many = pow-le-pow_right (lit≤ tt) le in omega arith

hex_behind-lt : (k n m : ℕ) (bs : List ℕ) → n < 16 ^ k → hex_behind n bs ≡ Some m → m < 16 ^ (k + length bs)
hex_behind-lt k n m [] small h = let same : n ≡ m = cc in rw (← same) (let e : k + 0 ≡ k = omega arith in rw e small)
hex_behind-lt k n m (b ∷ bs) small h =
    let (digit, later) = behind_test (is_digit b 16) (hex_behind (16 * n + digit_value b) bs) m h in
    let low : digit_value b < 16 = ltb-true _ _ digit in
    let more : 16 * n + digit_value b < 16 ^ suc k = rw (pow-suc 16 k) (omega arith) in
    let rest = hex_behind-lt (suc k) (16 * n + digit_value b) m bs more later in
    let e : suc k + length bs ≡ k + suc (length bs) = omega arith in
    rw (← e) rest

-- a number of at most so many digits
pub hex_within-lt : (least most : ℕ) (text : List ℕ) (m : ℕ) → hex_within least most text ≡ Some m → m < 16 ^ most
hex_within-lt least most text m h =
    let (fits, value) = behind_test (leb least (length text) && leb (length text) most) (hex_behind 0 text) m h in
    let few : length text ≤ most = leb-true (length text) most ((and_parts (leb least (length text)) (leb (length text) most) fits).1) in
    let small = hex_behind-lt 0 0 m text (lit≤ tt) value in
    let more : 16 ^ length text ≤ 16 ^ most = pow-le-pow_right (lit≤ tt) few in
    let e : 0 + length text ≡ length text = omega arith in
    let small' = rw e at small in
    omega arith
