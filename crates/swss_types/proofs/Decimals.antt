-- a number's decimal form reads as the number, and nothing else does
use Rattle.std.proofs.Common.{◌≡◌, ◌≢◌, ℕ, ◌+◌, ◌*◌, ◌-◌, ◌<◌, ◌≤◌, ◌^◌, ◌==◌, ltb, Bool, true, false, cond, List, [], ◌∷◌, length, get_or, Option, None, Some, refl, sym, ap, ◌∙◌, arith, inl, inr, lit≤}
use Rattle.std.proofs.lemmas.Bool.{cases_eq, ne_eqb, le-leb, ltb-false, and_parts, and_cases, eqb-false}
use Rattle.std.proofs.lemmas.Fmt.{digits_decimal, digits_value-decimal, first_decimal, decimal_digit, decimal-digits_value}
use Rattle.std.proofs.lemmas.List.Elements.{All-from_get_or}
use Rattle.std.proofs.lemmas.Str.Parse.{IsNumeralModel, numerals_by_fold, tells_all_ascii_digits, not_in_digits}
use Rattle.std.specs.Char.{is_ascii_digit}
use Rattle.std.specs.Fmt.{decimal}
use Rattle.std.specs.Int.{IsInRange}
use Rattle.std.specs.Str.{all_ascii_digits}
use Rattle.swss_types.proofs.Joins.{IsFree}
use Rattle.swss_types.proofs.Lists.{at_most-le}
use Rattle.swss_types.specs.Number.{value_behind, is_misspelt, number_of, number_within}
use Rattle.swss_types.proofs.Choices.{behind_test}

abbrev fold_digits : ℕ → List ℕ → ℕ
fold_digits n [] = n
fold_digits n (b ∷ bs) = fold_digits (10 * n + (b - 48)) bs

own : IsNumeralModel (λ ds. all_ascii_digits ds ≡ true) (fold_digits 0)
own = numerals_by_fold _ tells_all_ascii_digits fold_digits (record { empty = λ n. refl; more = λ n c cs digit. let same : 10 * n ≡ n * 10 = omega arith in ap (λ m. fold_digits (m + (c - 48)) cs) same })

value_of_digits : (n : ℕ) (bs : List ℕ) → all_ascii_digits bs ≡ true → value_behind n bs ≡ Some (fold_digits n bs)
value_of_digits n [] h = refl
value_of_digits n (b ∷ bs) h =
    let (digit, later) = and_parts (is_ascii_digit b) (all_ascii_digits bs) h in
    rw digit (value_of_digits (10 * n + (b - 48)) bs later)

digits_of_value : (n m : ℕ) (bs : List ℕ) → value_behind n bs ≡ Some m → (all_ascii_digits bs ≡ true) × (fold_digits n bs ≡ m)
digits_of_value n m [] h = (refl, cc)
digits_of_value n m (b ∷ bs) h =
    let (digit, rest) = behind_test (is_ascii_digit b) (value_behind (10 * n + (b - 48)) bs) m h in
    let later = digits_of_value (10 * n + (b - 48)) m bs rest in
    (rw digit later.0, later.1)

well_spelt : (ds : List ℕ) → 48 < get_or ds 0 0 → is_misspelt ds ≡ false
well_spelt [] h = absurd (omega arith)
well_spelt (d ∷ ds) h = let other : d ≢ 48 = omega arith in rw (ne_eqb d 48 other) refl

is_misspelt-decimal : (n : ℕ) → n < 2 ^ 64 → is_misspelt (decimal n) ≡ false
is_misspelt-decimal n small =
    elim (cases_eq n 0) [
      | inl none ↦ rw (none, decimal_digit 0 (lit≤ tt)) refl
      | inr some ↦ well_spelt (decimal n) (first_decimal n (omega arith) small)
    ]

pub number_of-decimal : (n : ℕ) → n < 2 ^ 64 → number_of (decimal n) ≡ Some n
number_of-decimal n small =
    rw (is_misspelt-decimal n small, value_of_digits 0 (decimal n) (digits_decimal own n small), digits_value-decimal own n small) refl

pub number_within-decimal : (most n : ℕ) → n ≤ most → n < 2 ^ 64 → number_within most (decimal n) ≡ Some n
number_within-decimal most n le small = rw (number_of-decimal n small, le-leb n most le) refl

spelt : (text : List ℕ) → is_misspelt text ≡ false → (0 < length text) × (get_or text 0 0 ≡ 48 → length text ≡ 1)
spelt [] h = cc
spelt (d ∷ ds) h = (
  omega arith,
  λ zero.
      elim (and_cases (d == 48) (ltb 0 (length ds)) h) [
        | inl other ↦ absurd (eqb-false d 48 other zero)
        | inr none ↦ let le = ltb-false 0 (length ds) none in omega arith
      ],
)

chosen_spelt : (b : Bool) (o : Option ℕ) (m : ℕ) → cond b None o ≡ Some m → (b ≡ false) × (o ≡ Some m)
chosen_spelt true o m h = cc
chosen_spelt false o m h = (refl, h)

-- only a number's decimal form reads as it
pub decimal-number_of : (n : ℕ) (text : List ℕ) → n < 2 ^ 64 → number_of text ≡ Some n → text ≡ decimal n
decimal-number_of n text small h =
    let (well, value) = chosen_spelt (is_misspelt text) (value_behind 0 text) n h in
    let (digits, same) = digits_of_value 0 n text value in
    let (some, lead) = spelt text well in
    let small' : fold_digits 0 text < 2 ^ 64 = omega arith in
    sym (ap decimal (sym same) ∙ decimal-digits_value own text digits some lead small')

-- a byte that is no digit stands nowhere in a decimal form
pub IsFree-decimal : (byte n : ℕ) → ¬ (IsInRange 48 57 byte) → n < 2 ^ 64 → IsFree byte (decimal n)
IsFree-decimal byte n other small =
    All-from_get_or (λ b. (b == byte) ≡ false) (decimal n) 0 (λ i within. ne_eqb _ _ (not_in_digits own (decimal n) byte (digits_decimal own n small) other i within))

pub number_within-le : (most n : ℕ) (text : List ℕ) → number_within most text ≡ Some n → n ≤ most
number_within-le most n text h = at_most-le most (number_of text) n h
