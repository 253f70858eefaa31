-- The lists of words that mean a command, written out.
use Rattle.std.proofs.Common.{◌≡◌, ◌∙◌, ◌≤◌, ◌<◌, ◌-◌, ◌^◌, ◌++◌, ℕ, Bool, cond, true, false, List, [], ◌∷◌, Option, Some, None, refl, sym, ap, ap₂, inl, inr, arith, codes, nat_le, unwrap_or}
use Rattle.std.specs.Fmt.{decimal}
use Rattle.std.proofs.lemmas.Bool.{le-leb, leb-true}
use Rattle.swss_types.specs.Number.{number_of, number_within}
use Rattle.swss_types.proofs.Decimals.{decimal-number_of, number_within-decimal, number_within-le}
use Rattle.swss_words.specs.Laws.{IsProper, AreWordsOf}
use Rattle.swss_words.specs.Words.{Text, not_below, command, routes_of, seed_of, workers_of}
use Rattle.swss_words.specs.declared.command.Command.{Command}
use Rattle.swss_words.specs.declared.command.Command.TheVariants.{Run, View, Load}
use Rattle.swss_words.proofs.Cases.{by_form}
use Rattle.swss_words.proofs.Numbers.{not_below-inverse, at_most-inverse}

-- ---- the lists mean the command

workers_of-decimal : (n : ℕ) → 1 ≤ n → n ≤ 4 → workers_of (decimal n) ≡ Some n
workers_of-decimal n low high = ap (not_below 1) (number_within-decimal 4 n high (omega arith)) ∙ ap (λ b. cond b (Some n) None) (le-leb 1 n low)

run_apart : (n : ℕ) → 1 ≤ n → n ≤ 4 → command (codes "run" ∷ codes "--workers" ∷ decimal n ∷ []) ≡ Some (Run n)
run_apart n low high = rw (workers_of-decimal n low high) refl

run_joined : (n : ℕ) → 1 ≤ n → n ≤ 4 → command (codes "run" ∷ (codes "--workers=" ++ decimal n) ∷ []) ≡ Some (Run n)
run_joined n low high = rw (workers_of-decimal n low high) refl

load : (n s : ℕ) → n ≤ 60000 → s < 2 ^ 64 → command (codes "load" ∷ decimal n ∷ decimal s ∷ []) ≡ Some (Load n s)
load n s most small =
    let count : routes_of (decimal n) ≡ Some n = number_within-decimal 60000 n most (omega arith) in
    let seed : seed_of (decimal s) ≡ Some s = number_within-decimal (2 ^ 64 - 1) s (omega arith) small in
    rw (count, seed) refl

pub command-written : (c : Command) (words : List Text) → IsProper c → AreWordsOf c words → command words ≡ Some c
command-written (Run n) words p (inl w) = ap command w.1 ∙ ap (λ k. Some (Run k)) (sym w.0)
command-written (Run n) words p (inr (inl w)) = ap command w ∙ run_apart n p.0 p.1
command-written (Run n) words p (inr (inr w)) = ap command w ∙ run_joined n p.0 p.1
command-written View words p w = ap command w
command-written (Load n s) words p w = ap command w ∙ load n s p.0 p.1

-- ---- and no other list does

decimal-number_within : (most n : ℕ) (text : Text) → most < 2 ^ 64 → number_within most text ≡ Some n → text ≡ decimal n
decimal-number_within most n text small h =
    let within = number_within-le most n text h in
    decimal-number_of n text (omega arith) (at_most-inverse most (number_of text) n h)

pub decimal-workers_of : (n : ℕ) (text : Text) → workers_of text ≡ Some n → (1 ≤ n) × (n ≤ 4) × (text ≡ decimal n)
decimal-workers_of n text h =
    let within = not_below-inverse 1 (number_within 4 text) n h in
    (low (number_within 4 text) h, number_within-le 4 n text within, decimal-number_within 4 n text (omega arith) within)
  where
    low : (o : Option ℕ) → not_below 1 o ≡ Some n → 1 ≤ n
    low None h = cc
    low (Some k) h = go (nat_le 1 k) refl h
      where
        go : (b : Bool) → nat_le 1 k ≡ b → cond b (Some k) None ≡ Some n → 1 ≤ n
        go false e h = cc
        go true e h =
            let same : k ≡ n = ap (λ o. unwrap_or o k) h in
            let k_low = leb-true 1 k e in
            omega arith

abbrev IsOf : List Text → Command → Type 0
IsOf words c = IsProper c × AreWordsOf c words

apart_of : (text : Text) (n : ℕ) → workers_of text ≡ Some n → IsOf (codes "run" ∷ codes "--workers" ∷ text ∷ []) (Run n)
apart_of text n h =
    let d = decimal-workers_of n text h in
    ((d.0, d.1), inr (inl (ap (λ t. codes "run" ∷ codes "--workers" ∷ t ∷ []) d.2)))

joined_of : (text : Text) (n : ℕ) → workers_of text ≡ Some n → IsOf (codes "run" ∷ (codes "--workers=" ++ text) ∷ []) (Run n)
joined_of text n h =
    let d = decimal-workers_of n text h in
    ((d.0, d.1), inr (inr (ap (λ t. codes "run" ∷ (codes "--workers=" ++ t) ∷ []) d.2)))

load_of : (count seed : Text) (n s : ℕ) → routes_of count ≡ Some n → seed_of seed ≡ Some s → IsOf (codes "load" ∷ count ∷ seed ∷ []) (Load n s)
load_of count seed n s h k =
    let most = number_within-le (2 ^ 64 - 1) s seed k in (
      (number_within-le 60000 n count h, omega arith),
      ap₂ (λ a b. codes "load" ∷ a ∷ b ∷ []) (decimal-number_within 60000 n count (omega arith) h) (decimal-number_within (2 ^ 64 - 1) s seed (omega arith) k),
    )

pub written-command : (words : List Text) (c : Command) → command words ≡ Some c → IsProper c × AreWordsOf c words
written-command = by_form IsOf ((omega arith, omega arith), inl (refl, refl)) apart_of joined_of (tt, refl) load_of
