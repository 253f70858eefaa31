-- the bytes of an address of version 4, digit by digit
use Rattle.std.proofs.Common.{◌≡◌, ◌≢◌, ℕ, ◌+◌, ◌*◌, ◌-◌, ◌<◌, ◌≤◌, ◌==◌, Bool, true, false, cond, List, [], ◌∷◌, length, Option, None, Some, is_some, Bor, refl, sym, ap, ◌∙◌, arith}
use Rattle.std.proofs.lemmas.Bool.{le-leb, ne_eqb}
use Rattle.std.proofs.lemmas.Bool.Decides.{nat_tests}
use Rattle.std.proofs.lemmas.List.Splits.{length-slice_split, slice_split-cons_yes, slice_split-cons_no}
use Rattle.std.proofs.lemmas.Option.{cond_some}
use Rattle.std.specs.Char.{is_ascii_digit}
use Rattle.std.specs.List.{onto_first}
use Rattle.swss_types.specs.Ip.{ipv4_from}
use Rattle.swss_types.specs.Ipv4.{bytes_around, bytes_left, bytes_of, split_digit}
use Rattle.swss_types.specs.Number.{at_most, number_within, value_behind}
use Rattle.swss_types.specs.Parts.{each_of, parts_at, with_value}
use Rattle.swss_types.proofs.Choices.{chosen_none}
use Rattle.swss_types.proofs.Decimals.{number_within-le}
use Rattle.swss_types.proofs.Each.{AllBelow-each_of}
use Rattle.swss_types.proofs.Numbers.{at_most-value_behind_past}

-- the numbers of parts, where the digits of the first one stand behind the number n
abbrev pub bytes_behind : ℕ → List (List ℕ) → Option (List ℕ)
bytes_behind n [] = None
bytes_behind n (part ∷ parts) = with_value (at_most 255 (value_behind n part)) (each_of (number_within 255) parts)

some_parts : (text : List ℕ) → 0 < length (parts_at 46 text)
some_parts text = let many = length-slice_split (λ b. b == 46) text in omega arith

no_dot : (b : ℕ) → is_ascii_digit b ≡ true → (b == 46) ≡ false
no_dot b digit = grind (arith, nat_tests)

onto_digit : (n b : ℕ) (parts : List (List ℕ)) → 0 < length parts → is_ascii_digit b ≡ true → bytes_behind n (onto_first b parts) ≡ bytes_behind (10 * n + (b - 48)) parts
onto_digit n b [] some digit = absurd (omega arith)
onto_digit n b (part ∷ parts) some digit = rw digit refl

onto_other : (n b : ℕ) (parts : List (List ℕ)) → is_ascii_digit b ≡ false → 0 < length parts → bytes_behind n (onto_first b parts) ≡ None
onto_other n b [] other some = absurd (omega arith)
onto_other n b (part ∷ parts) other some = rw other refl

-- a number that is already too great stays so
pub bytes_behind_past : (n : ℕ) (parts : List (List ℕ)) → 255 < n → bytes_behind n parts ≡ None
bytes_behind_past n [] past = refl
bytes_behind_past n (part ∷ parts) past = rw (at_most-value_behind_past n 255 part past) refl

split : (b : ℕ) (bs : List ℕ) (d : ℕ) (rest : List ℕ) → split_digit (b ∷ bs) ≡ Some (d, rest) → (is_ascii_digit b ≡ true) × (b - 48 ≡ d) × (bs ≡ rest)
split b bs d rest h =
    let found = cond_some (is_ascii_digit b) (b - 48, bs) (d, rest) h in
    (found.0, ap (λ p. p.0) found.1, ap (λ p. p.1) found.1)

not_split : (b : ℕ) (bs : List ℕ) → split_digit (b ∷ bs) ≡ None → is_ascii_digit b ≡ false
not_split b bs h = chosen_none (is_ascii_digit b) (b - 48, bs) h

-- the next digit
bytes_behind_digit : (n : ℕ) (text : List ℕ) (d : ℕ) (rest : List ℕ) → split_digit text ≡ Some (d, rest) → bytes_behind n (parts_at 46 text) ≡ bytes_behind (10 * n + d) (parts_at 46 rest)
bytes_behind_digit n [] d rest h = cc
bytes_behind_digit n (b ∷ bs) d rest h =
    let (digit, value, same) = split b bs d rest h in
    rw (slice_split-cons_no (λ b. b == 46) b bs (no_dot b digit), ← value, ← same) (onto_digit n b (parts_at 46 bs) (some_parts bs) digit)

-- no digit more
bytes_behind_end : (n : ℕ) (text : List ℕ) → n < 256 → split_digit text ≡ None → bytes_behind n (parts_at 46 text) ≡ bytes_around n text
bytes_behind_end n [] small h = rw (le-leb n 255 (omega arith)) refl
bytes_behind_end n (b ∷ bs) small h = by (b == 46) refl
  where
    by : (dot : Bool) → (b == 46) ≡ dot → bytes_behind n (parts_at 46 (b ∷ bs)) ≡ cond dot (with_value (Some n) (bytes_of bs)) None
    by true dot = rw (slice_split-cons_yes (λ b. b == 46) b bs dot, le-leb n 255 (omega arith)) refl
    by false dot = rw (slice_split-cons_no (λ b. b == 46) b bs dot) (onto_other n b (parts_at 46 bs) (not_split b bs h) (some_parts bs))

around_digit : (n : ℕ) (text : List ℕ) (d : ℕ) (rest : List ℕ) → split_digit text ≡ Some (d, rest) → bytes_around n text ≡ None
around_digit n [] d rest h = cc
around_digit n (b ∷ bs) d rest h = rw (no_dot b (split b bs d rest h).0) refl

-- no number 0 to 255 has a digit behind three
pub bytes_behind_three : (n : ℕ) (text : List ℕ) → 26 ≤ n → n < 256 → bytes_behind n (parts_at 46 text) ≡ bytes_around n text
bytes_behind_three n text many small = by (split_digit text) refl
  where
    by : (o : Option (ℕ × List ℕ)) → split_digit text ≡ o → bytes_behind n (parts_at 46 text) ≡ bytes_around n text
    by None h = bytes_behind_end n text small h
    by (Some found) h = bytes_behind_digit n text found.0 found.1 h ∙ bytes_behind_past (10 * n + found.0) (parts_at 46 found.1) (omega arith) ∙ sym (around_digit n text found.0 found.1 h)

onto_first_digit : (b : ℕ) (parts : List (List ℕ)) → 0 < length parts → is_ascii_digit b ≡ true → b ≢ 48 → each_of (number_within 255) (onto_first b parts) ≡ bytes_behind (b - 48) parts
onto_first_digit b [] some digit other = absurd (omega arith)
onto_first_digit b (part ∷ parts) some digit other = let e : 10 * 0 + (b - 48) ≡ b - 48 = omega arith in rw (ne_eqb b 48 other, digit, e) refl

-- another digit
bytes_of_digit : (text : List ℕ) (d : ℕ) (rest : List ℕ) → split_digit text ≡ Some (d, rest) → d ≢ 0 → bytes_of text ≡ bytes_behind d (parts_at 46 rest)
bytes_of_digit [] d rest h other = cc
bytes_of_digit (b ∷ bs) d rest h other =
    let (digit, value, same) = split b bs d rest h in
    let other' : b ≢ 48 = omega arith in
    rw (slice_split-cons_no (λ b. b == 46) b bs (no_dot b digit), ← value, ← same) (onto_first_digit b (parts_at 46 bs) (some_parts bs) digit other')

-- three digits
pub bytes_of_three : (text : List ℕ) (a b c : ℕ) (r s t : List ℕ) → split_digit text ≡ Some (a, r) → split_digit r ≡ Some (b, s) → split_digit s ≡ Some (c, t) → a ≢ 0 → bytes_of text ≡ bytes_behind (10 * (10 * a + b) + c) (parts_at 46 t)
bytes_of_three text a b c r s t first second third other =
    bytes_of_digit text a r first other ∙ bytes_behind_digit a r b s second ∙ bytes_behind_digit (10 * a + b) s c t third

-- five numbers and more are no address
too_many : (a b c d : ℕ) (o : Option (List ℕ)) → ((ns : List ℕ) → o ≡ Some ns → 0 < length ns) → ipv4_from (with_value (Some a) (with_value (Some b) (with_value (Some c) (with_value (Some d) o)))) ≡ None
too_many a b c d None some = refl
too_many a b c d (Some ns) some = let more = some ns refl in let other : length (a ∷ b ∷ c ∷ d ∷ ns) ≢ 4 = omega arith in rw (ne_eqb (length (a ∷ b ∷ c ∷ d ∷ ns)) 4 other) refl

some_bytes : (text ns : List ℕ) → bytes_of text ≡ Some ns → 0 < length ns
some_bytes text ns h =
    let number = (AllBelow-each_of 256 (number_within 255) (λ part n e. let le = number_within-le 255 n part e in omega arith) (parts_at 46 text) ns h).1 in
    let some = some_parts text in
    omega arith

pub ipv4_from_five : (a b c d : ℕ) (behind : Option (Bor (List ℕ))) → is_some behind ≡ true → ipv4_from (with_value (Some a) (with_value (Some b) (with_value (Some c) (with_value (Some d) (bytes_left behind))))) ≡ None
ipv4_from_five a b c d None there = absurd cc
ipv4_from_five a b c d (Some text) there = too_many a b c d (bytes_of text.now) (some_bytes text.now)
