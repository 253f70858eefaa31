-- the chip of effects, and its counts, where one effect more comes
use Rattle.std.proofs.Common.{◌≡◌, ℕ, zero, suc, ◌+◌, ◌<◌, ◌≤◌, Bool, true, false, cond, List, [], ◌∷◌, ◌++◌, length, take, count_by, Some, slice_get, refl, sym, ap, ap₂, ◌∙◌, subst, arith}
use Rattle.std.proofs.lemmas.List.{length-append, take-append-le, take_all}
use Rattle.std.proofs.lemmas.List.Sums.{sum_by-cons}
use Rattle.sai_types.specs.declared.ids.Rid.{Rid}
use Rattle.sai_types.specs.declared.kind.Kind.{Kind}
use Rattle.sai_types.specs.declared.body.Call.{Call}
use Rattle.sai_types.specs.After.{after_call, after_calls, chip_after, makes_id, next_id}
use Rattle.sai_types.specs.Made.{AreLegal, IsWhole, made_after, made_after_all}
use Rattle.sai_types.specs.Objects.{Objects, used}
use Rattle.sai_types.specs.Refusal.{IsLegal}
use Rattle.sai_types.proofs.Whole.{whole-after_calls, whole-empty}
use Rattle.crm_counts.specs.Above.{is_above, is_above_after}
use Rattle.crm_counts.specs.Effects.{chip_of, counts_along, counts_to}
use Rattle.crm_counts.proofs.Thresholds.{after-after, after-none, is_above-append}

-- how many identifiers are made after calls
count_more : (b : Bool) (made n : ℕ) → cond b (made + 1) made + n ≡ made + (cond b 1 0 + n)
count_more true made n = omega arith
count_more false made n = omega arith

made_all : (made : ℕ) (cs : List (Call Rid)) → made_after_all made cs ≡ made + count_by makes_id cs
made_all made [] = omega arith
made_all made (c ∷ cs) =
    made_all (made_after made c) cs
    ∙ count_more (makes_id c) made (count_by makes_id cs)
    ∙ ap (λ n. made + n) (sym (sum_by-cons (λ x. cond (makes_id x) 1 0) c cs))

made-counted : (cs : List (Call Rid)) → made_after_all 0 cs ≡ count_by makes_id cs
made-counted cs = made_all 0 cs ∙ omega arith

calls_more : (made : ℕ) (objects : Objects) (cs : List (Call Rid)) (c : Call Rid) → after_calls made objects (cs ++ c ∷ []) ≡ after_call (made_after_all made cs + 1) (after_calls made objects cs) c
calls_more made objects [] c = refl
calls_more made objects (d ∷ cs) c = calls_more (made_after made d) (after_call (made + 1) objects d) cs c

-- the chip behind one call more
pub chip_of-append : (effects : List (Call Rid)) (c : Call Rid) → chip_of (effects ++ c ∷ []) ≡ after_call (next_id effects) (chip_of effects) c
chip_of-append effects c = calls_more 0 [] effects c ∙ ap (λ n. after_call (n + 1) (chip_of effects) c) (made-counted effects)

-- what legal effects leave is whole
pub whole-behind : (capacities : List ℕ) (effects : List (Call Rid)) → AreLegal capacities 0 [] effects → IsWhole (count_by makes_id effects) (chip_of effects)
whole-behind capacities effects legal = subst (λ n. IsWhole n (chip_of effects)) (made-counted effects) (whole-after_calls capacities 0 [] effects whole-empty legal)

legal_more : (capacities : List ℕ) (made : ℕ) (objects : Objects) (cs : List (Call Rid)) (c : Call Rid) → AreLegal capacities made objects cs → IsLegal capacities (after_calls made objects cs) c → AreLegal capacities made objects (cs ++ c ∷ [])
legal_more capacities made objects [] c legal next = (next, tt)
legal_more capacities made objects (d ∷ cs) c legal next = (legal.0, legal_more capacities (made_after made d) (after_call (made + 1) objects d) cs c legal.1 next)

-- and one legal call more leaves them legal
pub legal-append : (capacities : List ℕ) (effects : List (Call Rid)) (c : Call Rid) → AreLegal capacities 0 [] effects → IsLegal capacities (chip_of effects) c → AreLegal capacities 0 [] (effects ++ c ∷ [])
legal-append capacities effects c legal next = legal_more capacities 0 [] effects c legal next

-- of legal calls those in front are, and the next one
pub legal-split : (capacities : List ℕ) (made : ℕ) (objects : Objects) (cs : List (Call Rid)) (c : Call Rid) (more : List (Call Rid)) → AreLegal capacities made objects (cs ++ c ∷ more) → AreLegal capacities made objects cs × IsLegal capacities (after_calls made objects cs) c
legal-split capacities made objects [] c more legal = (tt, legal.0)
legal-split capacities made objects (d ∷ cs) c more legal =
    let others = legal-split capacities (made_after made d) (after_call (made + 1) objects d) cs c more legal.1 in
    ((legal.0, others.0), others.1)

-- at each place
pub legal-at : (capacities : List ℕ) (made : ℕ) (objects : Objects) (cs : List (Call Rid)) (n : ℕ) (c : Call Rid) → AreLegal capacities made objects cs → slice_get cs n ≡ Some c → IsLegal capacities (after_calls made objects (take n cs)) c
legal-at capacities made objects [] n c legal at = absurd cc
legal-at capacities made objects (d ∷ cs) zero c legal at = let same : d ≡ c = cc in subst (IsLegal capacities objects) same legal.0
legal-at capacities made objects (d ∷ cs) (suc n) c legal at = legal-at capacities (made_after made d) (after_call (made + 1) objects d) cs n c legal.1 at

-- the chip after all effects
pub chip_after-all : (effects : List (Call Rid)) (n : ℕ) → length effects ≤ n → chip_after effects n ≡ chip_of effects
chip_after-all effects n all = ap (after_calls 0 []) (take_all n effects all)

counts_to-append : (k : Kind) (effects : List (Call Rid)) (c : Call Rid) (n : ℕ) → n ≤ length effects → counts_to k (effects ++ c ∷ []) n ≡ counts_to k effects n
counts_to-append k effects c zero within = refl
counts_to-append k effects c (suc n) within =
    ap₂ (λ counts objects. counts ++ used objects k ∷ []) (counts_to-append k effects c n (omega (arith, within))) (ap (after_calls 0 []) (take-append-le (suc n) effects (c ∷ []) within))

one_more : (effects : List (Call Rid)) (c : Call Rid) → length (effects ++ c ∷ []) ≡ suc (length effects)
one_more effects c = omega (arith, length-append effects (c ∷ []))

-- the counts behind one effect more
counts_along-append : (k : Kind) (effects : List (Call Rid)) (c : Call Rid) → counts_along k (effects ++ c ∷ []) ≡ counts_along k effects ++ used (chip_of (effects ++ c ∷ [])) k ∷ []
counts_along-append k effects c =
    ap (counts_to k (effects ++ c ∷ [])) (one_more effects c)
    ∙ ap₂ (λ counts objects. counts ++ used objects k ∷ []) (counts_to-append k effects c (length effects) (omega arith)) (chip_after-all (effects ++ c ∷ []) (suc (length effects)) (omega (arith, one_more effects c)))

some_count : (k : Kind) (effects : List (Call Rid)) (n : ℕ) → 0 < length (counts_to k effects n)
some_count k effects zero = omega arith
some_count k effects (suc n) = omega (arith, length-append (counts_to k effects n) (used (chip_after effects (suc n)) k ∷ []))

module _ (high low capacity : ℕ) (k : Kind) (effects : List (Call Rid)) where
  -- whether a kind is above behind one effect more
  pub above-append : (c : Call Rid) → is_above high low capacity (counts_along k (effects ++ c ∷ [])) ≡ is_above_after high low capacity (is_above high low capacity (counts_along k effects)) (used (chip_of (effects ++ c ∷ [])) k)
  above-append c =
      ap (is_above high low capacity) (counts_along-append k effects c)
      ∙ is_above-append high low capacity (counts_along k effects) (used (chip_of (effects ++ c ∷ [])) k) (some_count k effects (length effects))

  settled_to : (n : ℕ) → low < high → is_above_after high low capacity (is_above high low capacity (counts_to k effects n)) (used (chip_after effects n) k) ≡ is_above high low capacity (counts_to k effects n)
  settled_to zero less = after-none high low capacity less
  settled_to (suc n) less =
      let count = used (chip_after effects (suc n)) k in
      let last = is_above-append high low capacity (counts_to k effects n) count (some_count k effects n) in
      ap (λ b. is_above_after high low capacity b count) last ∙ after-after high low capacity (is_above high low capacity (counts_to k effects n)) count ∙ sym last

  -- the last count leaves it as it is
  pub settled : low < high → is_above_after high low capacity (is_above high low capacity (counts_along k effects)) (used (chip_of effects) k) ≡ is_above high low capacity (counts_along k effects)
  settled less = subst (λ objects. is_above_after high low capacity (is_above high low capacity (counts_along k effects)) (used objects k) ≡ is_above high low capacity (counts_along k effects)) (chip_after-all effects (length effects) (omega arith)) (settled_to (length effects) less)

  -- an effect that leaves the count leaves whether it is above
  pub above-stays : (c : Call Rid) → low < high → used (chip_of (effects ++ c ∷ [])) k ≡ used (chip_of effects) k → is_above high low capacity (counts_along k (effects ++ c ∷ [])) ≡ is_above high low capacity (counts_along k effects)
  above-stays c less same = above-append c ∙ ap (is_above_after high low capacity (is_above high low capacity (counts_along k effects))) same ∙ settled less
