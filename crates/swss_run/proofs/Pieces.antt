-- bytes that are given or taken in pieces
use Rattle.std.proofs.Common.{◌≡◌, ℕ, ◌+◌, ◌≤◌, ◌-◌, List, [], ◌++◌, length, take, drop, min, Option, Some, None, refl, sym, ap, ◌∙◌, inl, inr, ⊎_elim, append_assoc, length-drop, arith}
use Rattle.std.proofs.Math.Nat.{min-le_left}
use Rattle.std.proofs.Math.Seq.{take-add}
use Rattle.std.proofs.lemmas.List.{length-append, length-take, length-take-le, take_rest}
use Rattle.swss_types.specs.Outside.{Gives, Takes, HasRisen}
use Rattle.swss_run.specs.Input.{GaveFew}

-- one piece behind another
pub Gives-trans : (a b c : Option (List ℕ)) (x y : List ℕ) → Gives a x b → Gives b y c → Gives a (x ++ y) c
Gives-trans None None c x y g h = h
Gives-trans None (Some all) c x y g h = cc
Gives-trans (Some all) None c x y (rest, is, was) h = cc
Gives-trans (Some all) (Some left) c x y (rest, is, was) (rest', is', was') =
    let same : left ≡ rest = cc in
    (rest', is', was ∙ (ap (λ r. x ++ r) (sym same ∙ was') ∙ sym (append_assoc x y rest')))

pub Gives-none : (a : Option (List ℕ)) → Gives a [] a
Gives-none None = refl
Gives-none (Some all) = (all, refl, refl)

-- a piece that was given into a buffer, behind what was given before: no more than the buffer had room for
pub few-after : (a b c : Option (List ℕ)) (x into buffer : List ℕ) (n room : ℕ) → Gives a x b → Gives b (take n into) c → n ≤ length into → length into ≡ length (take room buffer) → room ≡ min (67108865 - length x) 4096 → length x ≤ 67108865 → GaveFew a c
few-after a b c x into buffer n room g h le is wide few = record {
  bytes = x ++ take n into;
  gives = Gives-trans a b c x (take n into) g h;
  few = omega (arith, length-append x (take n into), length-take-le n into le, le, is, length-take room buffer, min-le_left room (length buffer), wide, min-le_left (67108865 - length x) 4096, few);
}

pub Takes-trans : (a b c : Option (List ℕ)) (x y : List ℕ) → Takes a x b → Takes b y c → Takes a (x ++ y) c
Takes-trans None None c x y g h = h
Takes-trans None (Some all) c x y g h = cc
Takes-trans (Some all) None c x y g h = cc
Takes-trans (Some all) (Some held) c x y g h =
    let same : held ≡ all ++ x = cc in
    h ∙ ap Some (ap (λ l. l ++ y) same ∙ append_assoc all x y)

-- a count that rose in a part of a call rose in the whole
pub HasRisen-later : (a b c : ℕ) → a ≤ b → HasRisen b c → HasRisen a c
HasRisen-later a b c le rose = ⊎_elim (λ more. inl (omega (arith, more, le))) (λ most. inr most) rose

-- a front and the next piece are a longer front
pub take-more : (text : List ℕ) (at n : ℕ) → take at text ++ take n (take (length text - at) (drop at text)) ≡ take (at + n) text
take-more text at n = rw (take_rest text at) (sym (take-add at n text))

-- how long the rest behind a front is
pub take-rest_length : (text : List ℕ) (at : ℕ) → length (take (length text - at) (drop at text)) ≡ length text - at
take-rest_length text at = rw (take_rest text at) (length-drop at text)
