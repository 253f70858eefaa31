-- the first key behind another
use Rattle.std.proofs.Common.{◌≡◌, ℕ, zero, suc, ◌+◌, ◌^◌, ◌<◌, ◌≤◌, Bool, true, false, cond, List, [], ◌∷◌, ◌++◌, length, get_or, take, drop, Option, None, Some, Result, Ok, Err, refl, sym, ap, ap₂, ◌∙◌, subst, append_assoc, add-one, drop-cons, arith}
use Rattle.std.proofs.Math.ListN.{drop_of_length-le}
use Rattle.std.proofs.Math.Seq.{take-suc}
use Rattle.std.proofs.lemmas.List.{take-append-drop}
use Rattle.std.specs.List.{AllByRecursion, filter, slice_get}
use Rattle.std.specs.Map.{keys_of}
use Rattle.std.specs.Ordering.{is_lt}
use Rattle.std.specs.Prelude.{Vec}
use Rattle.std.specs.declared.alloc.Global.{Global}
use Rattle.std.specs.declared.cmp.Ordering.{Ordering}
use Rattle.late_maps.specs.Chunks.{AreFilled, Chunks, IsRisingPlace, IsSpot, chunk_at, entries_of_chunks}
use Rattle.late_maps.specs.declared.chunks.Spot.{Spot}
use Rattle.late_maps.proofs.Edits.{chunk_read}
use Rattle.late_maps.proofs.Ends.{all_weaker}
use Rattle.late_maps.proofs.Risings.{chunk_at-read, filled-at, entries_of_chunks-at, some_of}
use Rattle.late_maps.proofs.Segments.{all-all_names}

-- the entries of a chunk are few enough to be counted
pub chunk_fits : {A : Type 0} (cs : Chunks A) (i : ℕ) → length (chunk_at cs i) < 2 ^ 64
chunk_fits [] i = omega arith
chunk_fits (c ∷ cs) zero = omega (arith, c.ok.0, c.ok.1, c.small)
chunk_fits (c ∷ cs) (suc i) = chunk_fits cs i

module _ {K X : Type 0} where
  -- the first key that passes a test, where all entries from some on pass it, and none before them
  first-past : (test : K → Bool) (xs ys : List (K × X)) → AllByRecursion (λ e. test e.0 ≡ false) xs → AllByRecursion (λ e. test e.0 ≡ true) ys → slice_get (filter test (keys_of (xs ++ ys))) 0 ≡ slice_get (keys_of ys) 0
  first-past test [] [] none all = refl
  first-past test [] (y ∷ ys) none all = ap (λ b. slice_get (cond b (y.0 ∷ filter test (keys_of ys)) (filter test (keys_of ys))) 0) all.0
  first-past test (x ∷ xs) ys none all = ap (λ b. slice_get (cond b (x.0 ∷ filter test (keys_of (xs ++ ys))) (filter test (keys_of (xs ++ ys)))) 0) none.0 ∙ first-past test xs ys none.1 all

  -- the first key from a place on
  first-at : (es : List (K × X)) (n : ℕ) (e : K × X) (ys : List (K × X)) → n < length es → e ≡ get_or es n e → Some e.0 ≡ slice_get (keys_of (drop n es ++ ys)) 0
  first-at es n e ys lt is = ap (λ x. Some x.0) is ∙ sym (ap (λ l. slice_get (keys_of (l ++ ys)) 0) (drop-cons es n e lt))

-- the place behind that of a key
abbrev pub past : Result ℕ ℕ → ℕ
past (Ok at) = at + 1
past (Err at) = at

module _ {K X : Type 0} (cmp : K → K → Ordering) (k : K) where
  -- no entry before that place is behind the key, and all from there on are
  parted : (es : List (K × X)) (p : Result ℕ ℕ) → IsRisingPlace cmp es k p → AllByRecursion (λ e. is_lt (cmp k e.0) ≡ false) (take (past p) es) × AllByRecursion (λ e. is_lt (cmp k e.0) ≡ true) (drop (past p) es)
  parted es (Ok at) (lt, found, put, removed, below, above, equal, written) =
      let d = some_of es (omega (arith, lt)) in
      let before = all-all_names (λ x. is_lt (cmp k x) ≡ false) (take at es) (get_or es at d ∷ []) (all_weaker (λ x h. ap is_lt h) (take at es) below) (ap is_lt (equal d), tt) in
      (subst (AllByRecursion (λ e. is_lt (cmp k e.0) ≡ false)) (sym (ap (λ j. take j es) (add-one at) ∙ take-suc es at d lt)) before, subst (λ j. AllByRecursion (λ e. is_lt (cmp k e.0) ≡ true) (drop j es)) (sym (add-one at)) (all_weaker (λ x h. ap is_lt h) (drop (suc at) es) above))
  parted es (Err at) (le, found, put, below, above) = (all_weaker (λ x h. ap is_lt h) (take at es) below, all_weaker (λ x h. ap is_lt h) (drop at es) above)

  -- so it is among all entries in chunks
  module _ (cs : Chunks (K × X)) (spot : Spot) (stands : IsSpot cmp cs k spot) (c : Vec (K × X) Global) (within : spot.chunk < length cs) (read : c ≡ get_or cs spot.chunk c) (es : List (K × X)) (value : es ≡ c.items) (at : ℕ) (is : at ≡ past spot.at) where
    abbrev pub first : Option K
    first = slice_get (filter (λ other. is_lt (cmp k other)) (keys_of (entries_of_chunks cs))) 0

    first-from : slice_get (keys_of (drop at es ++ entries_of_chunks (drop (suc spot.chunk) cs))) 0 ≡ first
    first-from =
        let i = spot.chunk in
        let all = chunk_at cs i in
        let p = past spot.at in
        let back = entries_of_chunks (drop (suc i) cs) in
        let parts = parted all spot.at stands.2 in
        let lesser = all-all_names (λ x. is_lt (cmp k x) ≡ false) (entries_of_chunks (take i cs)) (take p all) (all_weaker (λ x h. ap is_lt h) (entries_of_chunks (take i cs)) stands.0) parts.0 in
        let greater = all-all_names (λ x. is_lt (cmp k x) ≡ true) (drop p all) back parts.1 (all_weaker (λ x h. ap is_lt h) back stands.1) in
        let split = entries_of_chunks-at cs i within ∙ ap (λ l. entries_of_chunks (take i cs) ++ (l ++ back)) (sym (take-append-drop p all)) ∙ ap (λ l. entries_of_chunks (take i cs) ++ l) (append_assoc (take p all) (drop p all) back) ∙ sym (append_assoc (entries_of_chunks (take i cs)) (take p all) (drop p all ++ back)) in
        ap₂ (λ j l. slice_get (keys_of (drop j l ++ back)) 0) is (chunk_at-read cs i c es within read value)
        ∙ sym (ap (λ l. slice_get (filter (λ other. is_lt (cmp k other)) (keys_of l)) 0) split ∙ first-past (λ other. is_lt (cmp k other)) (entries_of_chunks (take i cs) ++ take p all) (drop p all ++ back) lesser greater)

    -- the first key behind this one stands in its chunk
    pub first-here : (e : K × X) → at < length es → e ≡ get_or es at e → Some e.0 ≡ first
    first-here e lt there = first-at es at e (entries_of_chunks (drop (suc spot.chunk) cs)) lt there ∙ first-from

    -- or it is the first one of the next chunk
    module _ (le : length es ≤ at) where
      ended : slice_get (keys_of (entries_of_chunks (drop (spot.chunk + 1) cs))) 0 ≡ first
      ended = ap (λ j. slice_get (keys_of (entries_of_chunks (drop j cs))) 0) (add-one spot.chunk) ∙ sym (ap (λ l. slice_get (keys_of (l ++ entries_of_chunks (drop (suc spot.chunk) cs))) 0) (drop_of_length-le es {i = at} le)) ∙ first-from

      pub first-next : AreFilled cs → (next : Vec (K × X) Global) (e : K × X) → spot.chunk + 1 < length cs → next ≡ get_or cs (spot.chunk + 1) next → e ≡ get_or next.items 0 e → Some e.0 ≡ first
      first-next filled next e lt is there =
          let some = subst (λ l. 0 < length l) (sym (chunk_read cs (spot.chunk + 1) next lt is)) (filled-at cs (spot.chunk + 1) filled lt) in
          let parts = drop-cons cs (spot.chunk + 1) next lt ∙ ap (λ c. c ∷ drop (suc (spot.chunk + 1)) cs) (sym is) in
          first-at next.items 0 e (entries_of_chunks (drop (suc (spot.chunk + 1)) cs)) some there ∙ sym (ap (λ l. slice_get (keys_of (entries_of_chunks l)) 0) parts) ∙ ended

      -- or there is none
      pub first-none : length cs ≤ spot.chunk + 1 → None ≡ first
      first-none le = sym (ap (λ l. slice_get (keys_of (entries_of_chunks l)) 0) (drop_of_length-le cs {i = spot.chunk + 1} le)) ∙ ended
