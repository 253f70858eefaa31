-- numbers that are written and read one after the other
use Rattle.std.proofs.Common.{◌≡◌, ℕ, zero, suc, ◌+◌, ◌-◌, ◌^◌, ◌<◌, ◌≤◌, List, [], ◌∷◌, ◌++◌, flat_map, length, map, set, take, take_all, Option, None, Some, option_and_then, option_map, refl, sym, ap, ◌∙◌, subst, append_assoc, arith}
use Rattle.std.specs.Fmt.{decimal}
use Rattle.std.proofs.lemmas.List.{append-nil, take_more_set}
use Rattle.swss_types.specs.Number.{number_within}
use Rattle.swss_types.specs.Parts.{AllBelow}
use Rattle.swss_types.proofs.Decimals.{number_within-le}
use Rattle.sai_record.specs.Line.{spaced}
use Rattle.sai_record.specs.Lines.{longs_at}
use Rattle.sai_record.specs.Words.{long_of, value_at, word_at}

pub numbers_spaced : (ns : List ℕ) → flat_map (λ n. 32 ∷ decimal n) ns ≡ spaced (map decimal ns)
numbers_spaced [] = refl
numbers_spaced (n ∷ ns) = ap (λ text. 32 ∷ decimal n ++ text) (numbers_spaced ns)

-- numbers, and those that are read behind them
abbrev pub behind_numbers : List ℕ → Option (List ℕ) → Option (List ℕ)
behind_numbers ns o = option_map (λ ms. ns ++ ms) o

pub longs-more : (ns : List ℕ) (m : ℕ) (text : List ℕ) (n : ℕ) (rest : List ℕ) → value_at long_of text ≡ Some (n, rest) → behind_numbers ns (longs_at (suc m) text) ≡ behind_numbers (ns ++ n ∷ []) (longs_at m rest)
unfolding longs_at
longs-more ns m text n rest h = rw h (by (longs_at m rest))
  where
    by : (o : Option (List ℕ)) → behind_numbers ns (option_and_then (λ ms. Some (n ∷ ms)) o) ≡ behind_numbers (ns ++ n ∷ []) o
    by None = refl
    by (Some ms) = ap Some (sym (append_assoc ns (n ∷ []) ms))

pub longs-stuck : (ns : List ℕ) (m : ℕ) (text : List ℕ) → value_at long_of text ≡ None → behind_numbers ns (longs_at (suc m) text) ≡ None
unfolding longs_at
longs-stuck ns m text h = rw h refl

-- ---- numbers read into places

pub long-next : (all : Option (List ℕ)) (ns : List ℕ) (size at : ℕ) (text : List ℕ) (n : ℕ) (rest : List ℕ) → at < size → length ns ≡ size → value_at long_of text ≡ Some (n, rest) → behind_numbers (take at ns) (longs_at (size - at) text) ≡ all
    → behind_numbers (take (at + 1) (set ns at n)) (longs_at (size - (at + 1)) rest) ≡ all
long-next all ns size at text n rest less len h so_far =
    let m = size - (at + 1) in
    let left : size - at ≡ suc m = omega (arith, less) in
    ap (λ l. behind_numbers l (longs_at m rest)) (take_more_set ns at n (omega (arith, less, len)))
    ∙ sym (longs-more (take at ns) m text n rest h)
    ∙ ap (λ k. behind_numbers (take at ns) (longs_at k text)) (sym left)
    ∙ so_far

pub long-missing : (all : Option (List ℕ)) (ns : List ℕ) (size at : ℕ) (text : List ℕ) → at < size → value_at long_of text ≡ None → behind_numbers (take at ns) (longs_at (size - at) text) ≡ all → None ≡ all
long-missing all ns size at text less h so_far =
    let left : size - at ≡ suc (size - (at + 1)) = omega (arith, less) in
    sym (longs-stuck (take at ns) (size - (at + 1)) text h) ∙ ap (λ k. behind_numbers (take at ns) (longs_at k text)) (sym left) ∙ so_far

pub longs-done : (all : Option (List ℕ)) (ns : List ℕ) (size at : ℕ) (text : List ℕ) → size ≤ at → length ns ≡ size → behind_numbers (take at ns) (longs_at (size - at) text) ≡ all → Some ns ≡ all
unfolding longs_at
longs-done all ns size at text end len so_far =
    let none : size - at ≡ 0 = omega (arith, end) in
    ap Some (sym (append-nil ns) ∙ ap (λ l. l ++ []) (sym (take_all at ns (omega (arith, end, len))))) ∙ ap (λ k. behind_numbers (take at ns) (longs_at k text)) (sym none) ∙ so_far

-- ---- what is read has 64 bits

abbrev first_or : ℕ → Option (ℕ × List ℕ) → ℕ
first_or n None = n
first_or n (Some p) = p.0

long_small : (o : Option ℕ) (word rest : List ℕ) (n : ℕ) (left : List ℕ) → number_within 18446744073709551615 word ≡ o → option_and_then {U = ℕ × List ℕ} (λ v. Some (v, rest)) o ≡ Some (n, left) → n < 2 ^ 64
long_small None word rest n left h same = absurd cc
long_small (Some v) word rest n left h same = let is : v ≡ n = ap (first_or 0) same in let most = number_within-le 18446744073709551615 v word h in omega (arith, most, is)

long_below : (text : List ℕ) (n : ℕ) (rest : List ℕ) → value_at long_of text ≡ Some (n, rest) → n < 2 ^ 64
unfolding value_at
long_below text n rest h = by (word_at text) h
  where
    by : (o : Option (List ℕ × List ℕ)) → option_and_then (λ w. option_and_then {U = ℕ × List ℕ} (λ v. Some (v, w.1)) (long_of w.0)) o ≡ Some (n, rest) → n < 2 ^ 64
    by None same = absurd cc
    by (Some w) same = long_small (long_of w.0) w.0 w.1 n rest refl same

-- so many numbers, of 64 bits each
abbrev pub AreLongs : ℕ → List ℕ → Type 0
AreLongs n ns = (length ns ≡ n) × AllBelow (2 ^ 64) ns

one_more : (n v : ℕ) (o : Option (List ℕ)) (ns : List ℕ) → v < 2 ^ 64 → ((vs : List ℕ) → o ≡ Some vs → AreLongs n vs) → option_and_then (λ vs. Some (v ∷ vs)) o ≡ Some ns → AreLongs (suc n) ns
one_more n v None ns small others same = absurd cc
one_more n v (Some vs) ns small others same =
    let x = others vs refl in
    let all : v ∷ vs ≡ ns = cc in
    subst (AreLongs (suc n)) all (ap suc x.0, (small, x.1))

first_and_more : (n : ℕ) (text ns : List ℕ) (o : Option (ℕ × List ℕ)) → value_at long_of text ≡ o → ((rest vs : List ℕ) → longs_at n rest ≡ Some vs → AreLongs n vs)
    → option_and_then (λ v. option_and_then (λ vs. Some (v.0 ∷ vs)) (longs_at n v.1)) o ≡ Some ns → AreLongs (suc n) ns
first_and_more n text ns None is others same = absurd cc
first_and_more n text ns (Some v) is others same = one_more n v.0 (longs_at n v.1) ns (long_below text v.0 v.1 is) (others v.1) same

pub longs-proper : (n : ℕ) (text ns : List ℕ) → longs_at n text ≡ Some ns → AreLongs n ns
unfolding longs_at
longs-proper zero text ns h = let is : [] ≡ ns = cc in subst (AreLongs 0) is (refl, tt)
longs-proper (suc n) text ns h = first_and_more n text ns (value_at long_of text) refl (λ rest vs. longs-proper n rest vs) h
