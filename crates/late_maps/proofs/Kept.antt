-- what an edit at a key's spot keeps: the keys rise, and the entries are counted
use Rattle.std.proofs.Common.{◌≡◌, ℕ, suc, ◌+◌, ◌<◌, ◌≤◌, List, [], ◌∷◌, ◌++◌, length, drop, take, refl, sym, ap, ◌∙◌, cond, true, false, arith, length-append, append-nil, Bool, None, Ok, Err, subst}
use Rattle.std.specs.Prelude.{slice_index_or, slice_set}
use Rattle.std.specs.BTreeMap.{insert_entry, is_at}
use Rattle.std.specs.Cmp.{IsTotalOrder}
use Rattle.std.specs.List.{insert, remove}
use Rattle.std.specs.List.Sorted.{IsStrictlySortedBy}
use Rattle.std.specs.Map.{keys_of, lookup, remove_entry}
use Rattle.std.specs.Ordering.{match_ordering, ordering_reverse}
use Rattle.std.specs.declared.cmp.Ordering.{Ordering}
use Rattle.std.specs.declared.cmp.Ordering.TheVariants.{Less, Equal, Greater}
use Rattle.std.proofs.Math.ListN.{length-set}
use Rattle.std.proofs.lemmas.List.Edits.{length-insert, length-remove}
use Rattle.std.proofs.lemmas.Map.{none_passes_from_lookup}
use Rattle.late_maps.specs.Chunks.{AreFilled, HaveRisingKeys, Chunks, IsSpot, chunk_at, entries_of_chunks, with_chunk}
use Rattle.late_maps.specs.declared.chunks.Spot.{Spot}
use Rattle.late_maps.proofs.Edits.{with_chunk-same}
use Rattle.late_maps.proofs.Ends.{all_weaker, remove-past}
use Rattle.late_maps.proofs.Segments.{all-inserted, all-removed}
use Rattle.late_maps.proofs.Spots.{gap_put, gap_within, spot_removed, spot_set, spot_within}

module _ {K X : Type 0} {cmp : K → K → Ordering} (o : IsTotalOrder cmp) where
  -- an entry in its place
  pub sorted-put : (es : List (K × X)) (k : K) (v : X) → IsStrictlySortedBy cmp (keys_of es) → IsStrictlySortedBy cmp (keys_of (insert_entry cmp es k v))
  unfolding IsStrictlySortedBy
  sorted-put [] k v s = (tt, tt)
  sorted-put (e ∷ es) k v s =
      let rest = sorted-put es k v s.1 in
      let by : (r : Ordering) → cmp k e.0 ≡ r → IsStrictlySortedBy cmp (keys_of (match_ordering r ((k, v) ∷ e ∷ es) ((e.0, v) ∷ es) (e ∷ insert_entry cmp es k v))) =
      λ r. elim r as (λ r. cmp k e.0 ≡ r → IsStrictlySortedBy cmp (keys_of (match_ordering r ((k, v) ∷ e ∷ es) ((e.0, v) ∷ es) (e ∷ insert_entry cmp es k v)))) [
        | Less ↦ λ is. ((is, all_weaker (λ y less. o.trans k e.0 y is less) (keys_of es) s.0), s)
        | Equal ↦ λ is. s
        | Greater ↦ λ is. (all-inserted cmp k (λ y. cmp e.0 y ≡ Less) (o.antisymm e.0 k ∙ ap ordering_reverse is) es v s.0, rest)
      ] in
      by (cmp k e.0) refl

  -- an entry taken away
  pub sorted-out : (es : List (K × X)) (k : K) → IsStrictlySortedBy cmp (keys_of es) → IsStrictlySortedBy cmp (keys_of (remove_entry (is_at (cmp k)) es))
  unfolding IsStrictlySortedBy
  sorted-out [] k s = tt
  sorted-out (e ∷ es) k s =
      let rest = sorted-out es k s.1 in
      let all = all-removed cmp k (λ y. cmp e.0 y ≡ Less) es s.0 in
      elim (is_at (cmp k) e.0) as (λ b. IsStrictlySortedBy cmp (keys_of (cond b es (e ∷ remove_entry (is_at (cmp k)) es)))) [ true ↦ s.1 | false ↦ (all, rest) ]

-- where the key is not there, nothing is taken away
pub removed-absent : {K X : Type 0} (test : K → Bool) (es : List (K × X)) → lookup test es ≡ None → remove_entry test es ≡ es
removed-absent test es none = ap (remove_entry test) (sym (append-nil es)) ∙ remove-past test es [] (none_passes_from_lookup test es none) ∙ append-nil es

-- how many entries there are with others in the place of those of a chunk
module _ {A : Type 0} (cs : Chunks A) (i : ℕ) where
  length-with : (es : List A) → length (with_chunk cs i es) + length (chunk_at cs i) ≡ length (entries_of_chunks cs) + length es
  length-with es =
      let parts : (l : List A) → length (with_chunk cs i l) ≡ length (entries_of_chunks (take i cs)) + length l + length (entries_of_chunks (drop (suc i) cs)) = λ l. length-append (entries_of_chunks (take i cs) ++ l) (entries_of_chunks (drop (suc i) cs)) ∙ ap (λ n. n + length (entries_of_chunks (drop (suc i) cs))) (length-append (entries_of_chunks (take i cs)) l) in
      omega (arith, parts es, parts (chunk_at cs i), ap length (with_chunk-same cs i))

  pub length-set_in : (at : ℕ) (e : A) → length (with_chunk cs i (slice_set (chunk_at cs i) at e)) ≡ length (entries_of_chunks cs)
  length-set_in at e = omega (arith, length-with (slice_set (chunk_at cs i) at e), length-set (chunk_at cs i) at e)

  pub length-put_in : (at : ℕ) (e : A) → at ≤ length (chunk_at cs i) → length (with_chunk cs i (insert (chunk_at cs i) at e)) ≡ length (entries_of_chunks cs) + 1
  length-put_in at e h = omega (arith, length-with (insert (chunk_at cs i) at e), length-insert (chunk_at cs i) at e h)

  pub length-out_in : (at : ℕ) → at < length (chunk_at cs i) → length (with_chunk cs i (remove (chunk_at cs i) at)) + 1 ≡ length (entries_of_chunks cs)
  length-out_in at h = omega (arith, length-with (remove (chunk_at cs i) at), length-remove (chunk_at cs i) at h)

-- no chunks
pub rising-none : {K X : Type 0} (cmp : K → K → Ordering) (cs : Chunks (K × X)) → cs ≡ [] → HaveRisingKeys cmp cs × (0 ≡ length (entries_of_chunks cs))
unfolding IsStrictlySortedBy
rising-none cmp cs none = subst (λ l. HaveRisingKeys cmp l × (0 ≡ length (entries_of_chunks l))) (sym none) ((tt, tt), refl)

module _ {A : Type 0} where
  -- where there are entries, the first chunk has some
  pub first-filled : (cs : Chunks A) → AreFilled cs → 0 < length (entries_of_chunks cs) → 0 < length (chunk_at cs 0)
  first-filled [] filled h = absurd (omega (arith, h))
  first-filled (c ∷ cs) filled h = filled.0

  first-off : (es ys : List A) (e : A) → 0 < length es → e ≡ slice_index_or es 0 e → es ++ ys ≡ e ∷ (remove es 0 ++ ys)
  first-off [] ys e h is = absurd (omega (arith, h))
  first-off (x ∷ es) ys e h is = ap (λ y. y ∷ (es ++ ys)) (sym is)

  -- and its first one is the first of all
  pub first-out : (cs : Chunks A) (e : A) (new : List A) → 0 < length (chunk_at cs 0) → e ≡ slice_index_or (chunk_at cs 0) 0 e → new ≡ with_chunk cs 0 (remove (chunk_at cs 0) 0) → entries_of_chunks cs ≡ e ∷ new
  first-out [] e new h is after = absurd (omega (arith, h))
  first-out (c ∷ cs) e new h is after = first-off c.items (entries_of_chunks cs) e h is ∙ ap (λ l. e ∷ l) (sym after)

-- after an edit at a key's spot
module _ {K X : Type 0} {cmp : K → K → Ordering} (o : IsTotalOrder cmp) (k : K) (cs : Chunks (K × X)) (spot : Spot) (is : IsSpot cmp cs k spot) (rising : IsStrictlySortedBy cmp (keys_of (entries_of_chunks cs))) (at : ℕ) (new : List (K × X)) where
  pub set-kept : spot.at ≡ Ok at → (v : X) → ((d : K × X) → new ≡ with_chunk cs spot.chunk (slice_set (chunk_at cs spot.chunk) at ((slice_index_or (chunk_at cs spot.chunk) at d).0, v))) → IsStrictlySortedBy cmp (keys_of new) × (length (entries_of_chunks cs) ≡ length new)
  set-kept here v after = (subst (λ l. IsStrictlySortedBy cmp (keys_of l)) (sym (spot_set cmp k cs spot is at here new v (k, v) (after (k, v)))) (sorted-put o (entries_of_chunks cs) k v rising), sym (ap length (after (k, v)) ∙ length-set_in cs spot.chunk at _))

  pub put-kept : spot.at ≡ Err at → (v : X) → new ≡ with_chunk cs spot.chunk (insert (chunk_at cs spot.chunk) at (k, v)) → IsStrictlySortedBy cmp (keys_of new) × (length new ≡ length (entries_of_chunks cs) + 1)
  put-kept here v after = (subst (λ l. IsStrictlySortedBy cmp (keys_of l)) (sym (gap_put cmp k cs spot is at here new v after)) (sorted-put o (entries_of_chunks cs) k v rising), ap length after ∙ length-put_in cs spot.chunk at (k, v) (gap_within cmp k cs spot is at here))

  pub out-kept : spot.at ≡ Ok at → new ≡ with_chunk cs spot.chunk (remove (chunk_at cs spot.chunk) at) → IsStrictlySortedBy cmp (keys_of new) × (length new + 1 ≡ length (entries_of_chunks cs))
  out-kept here after = (subst (λ l. IsStrictlySortedBy cmp (keys_of l)) (sym (spot_removed cmp k cs spot is at here new after)) (sorted-out o (entries_of_chunks cs) k rising), ap (λ l. length l + 1) after ∙ length-out_in cs spot.chunk at (spot_within cmp k cs spot is at here))
