-- bytes that are given from the front of a list
use Rattle.std.proofs.Common.{◌≡◌, ℕ, zero, suc, ◌+◌, ◌-◌, ◌≤◌, List, [], ◌∷◌, ◌++◌, length, take, drop, refl, sym, ◌∙◌, ap, arith, length-append, Result, Ok, Err, OnErr}
use Rattle.std.proofs.Math.Seq.{take-append_seam, take-nil}
use Rattle.std.proofs.lemmas.List.{take_rest, drop-drop, take-append-drop}

pub gives-front : (bytes into : List ℕ) (at n : ℕ) → take n into ≡ take n (take (length bytes - at) (drop at bytes)) → drop at bytes ≡ take n into ++ drop (at + n) bytes
gives-front bytes into at n front = rw (front, take_rest bytes at, ← drop-drop n at bytes) (sym (take-append-drop n (drop at bytes)))

-- a front of a front
take-take : (m n : ℕ) (c : List ℕ) → m ≤ n → take m (take n c) ≡ take m c
take-take m n [] le = simp take-nil
take-take zero n (x ∷ c) le = refl
take-take (suc m) zero (x ∷ c) le = absurd (omega arith)
take-take (suc m) (suc n) (x ∷ c) le = ap (λ r. x ∷ r) (take-take m n c (omega arith))

-- what stands in front of a list stays in front of a longer one
pub take-front_kept : (a x b c : List ℕ) → take (length b) c ≡ b → b ≡ a ++ x → take (length a) c ≡ a
take-front_kept a x b c kept longer =
    let front : take (length a) (take (length b) c) ≡ take (length a) c = take-take (length a) (length b) c (omega (arith, ap length longer, length-append a x)) in
    sym front ∙ ap (take (length a)) (kept ∙ longer) ∙ take-append_seam a x

-- a fact holds at an error too
pub on_err : {T E P : Type 0} (r : Result T E) → P → OnErr r P
on_err (Ok x) p = tt
on_err (Err e) p = p
