-- the place of a key among entries whose keys rise
use Rattle.std.proofs.Common.{◌≡◌, ℕ, zero, suc, ◌+◌, ◌-◌, ◌<◌, ◌≤◌, false, cond, List, [], ◌∷◌, ◌++◌, length, get_or, set, take, drop, None, Some, Result, Ok, Err, refl, sym, ap, subst, ◌∙◌, add-one, arith}
use Rattle.std.specs.BTreeMap.{insert_entry, is_at}
use Rattle.std.specs.Cmp.{IsTotalOrder}
use Rattle.std.specs.List.Sorted.{IsStrictlySortedBy}
use Rattle.std.specs.Map.{keys_of, lookup, remove_entry, set_value}
use Rattle.std.specs.Ordering.{is_eq, is_gt, is_lt, match_ordering}
use Rattle.std.proofs.lemmas.List.{get_or_default, take-append-drop}
use Rattle.std.proofs.Math.ListN.{drop_of_length-le}
use Rattle.std.proofs.Math.Seq.{drop-length, take-length}
use Rattle.std.specs.Prelude.{Vec}
use Rattle.std.specs.declared.alloc.Global.{Global}
use Rattle.std.specs.declared.cmp.Ordering.{Ordering}
use Rattle.std.specs.declared.cmp.Ordering.TheVariants.{Less, Equal, Greater}
use Rattle.late_maps.specs.Chunks.{AreFilled, HaveRisingKeys, Chunks, IsOrderAt, IsRisingPlace, IsSpot, chunk_at, entries_of_chunks}
use Rattle.late_maps.specs.declared.chunks.Place.{Place}
use Rattle.late_maps.proofs.Segments.{AllAbove, AllBelow, StandsIn, StandsIn-above, StandsIn-below, StandsIn-itself, all-all_names}
use Rattle.late_maps.proofs.Risings.{above-all, above-past, above-with, an_entry, below-all, below-chunk, below-chunks, below-to, below-with, chunk_at-read, entries_of_chunks-from, last-within, parted-at, rising-chunk, rising-chunk_at, some_of}

-- another element at a place
set-at : {A : Type 0} (xs : List A) (i : ℕ) (a : A) → i < length xs → take i xs ++ a ∷ drop (suc i) xs ≡ set xs i a
set-at [] i a lt = absurd (omega arith)
set-at (x ∷ xs) zero a lt = refl
set-at (x ∷ xs) (suc i) a lt = ap (λ l. x ∷ l) (set-at xs i a (omega arith))

module _ {K X : Type 0} (cmp : K → K → Ordering) (k : K) where
  -- entries with lesser keys before them and greater ones behind them
  pub StandsIn-between : (xs part ys : List (K × X)) → AllBelow cmp k xs → AllAbove cmp k ys → StandsIn cmp k cmp k part (λ l. xs ++ (l ++ ys))
  StandsIn-between xs part ys below above = StandsIn-below (StandsIn-above (StandsIn-itself cmp k part) ys above) xs below

  -- where the keys before a place are lesser, and those from there on greater, the key is to be put there
  pub IsRisingPlace-between : (es : List (K × X)) (at : ℕ) → at ≤ length es → AllBelow cmp k (take at es) → AllAbove cmp k (drop at es) → IsRisingPlace cmp es k (Err at)
  IsRisingPlace-between es at le below above =
      let s = StandsIn-between (take at es) [] (drop at es) below above in
      (le, ap (lookup (is_at (cmp k))) (sym (take-append-drop at es)) ∙ sym s.found, λ v. ap (λ l. insert_entry cmp l k v) (sym (take-append-drop at es)) ∙ sym (s.put ((k, v) ∷ []) v refl), below, above)

-- where the key at a place is equal, it stands there
pub IsRisingPlace-found : {K X : Type 0} {cmp : K → K → Ordering} (o : IsTotalOrder cmp) (k : K) (es : List (K × X)) (at : ℕ) → at < length es → IsStrictlySortedBy cmp (keys_of es) → (r : Ordering) (d : K × X) → r ≡ cmp k (get_or es at d).0 → r ≡ Equal → IsRisingPlace cmp es k (Ok at)
IsRisingPlace-found {K = K} {X = X} {cmp = cmp} o k es at lt rising r d is tie =
    let e = get_or es at d in
    let parted = parted-at es at d lt in
    let below = below-to o k es at lt rising r d is (ap is_lt tie) in
    let above = above-past o k es at lt rising r d is (ap is_gt tie) in
    let s = StandsIn-between cmp k (take at es) (e ∷ []) (drop (suc at) es) below above in
    let equal : cmp k e.0 ≡ Equal = sym is ∙ tie in
    let found = λ (x : K × X). ap (lookup (is_at (cmp k))) parted ∙ sym s.found ∙ ap (λ o. cond (is_eq o) (Some e.1) None) equal ∙ ap (λ y. Some y.1) (get_or_default es at d x lt) in
    let changed = λ (v : X) (x : K × X). set-at es at (e.0, v) lt ∙ ap (λ y. set es at (y.0, v)) (get_or_default es at d x lt) in
    let put = λ (v : X) (x : K × X). ap (λ l. insert_entry cmp l k v) parted ∙ sym (s.put ((e.0, v) ∷ []) v (sym (ap (λ o. match_ordering o ((k, v) ∷ e ∷ []) ((e.0, v) ∷ []) (e ∷ insert_entry cmp [] k v)) equal))) ∙ changed v x in
    let written = λ (v : X) (x : K × X). ap (λ l. set_value (is_at (cmp k)) l v) parted ∙ sym (s.set ((e.0, v) ∷ []) v (sym (ap (λ o. cond (is_eq o) ((e.0, v) ∷ []) (e ∷ [])) equal))) ∙ changed v x in
    let removed = ap (remove_entry (is_at (cmp k))) parted ∙ sym (s.removed [] (sym (ap (λ o. cond (is_eq o) [] (e ∷ [])) equal))) in
    (lt, found, put, removed, below, above, (λ x. ap (λ y. cmp k y.0) (sym (get_or_default es at d x lt)) ∙ equal), written)

-- where a chunk has no entry, there is none
pub none-behind : {A : Type 0} (cs : Chunks A) (i : ℕ) → AreFilled cs → length (chunk_at cs i) ≤ 0 → length cs ≤ i
none-behind [] i filled none = omega arith
none-behind (c ∷ cs) zero filled none = absurd (omega (arith, filled.0, none))
none-behind (c ∷ cs) (suc i) filled none = let rest = none-behind cs i filled.1 none in omega (arith, rest)

-- where a key stands that is as one in a chunk, or between two of it, or between two chunks, or behind the last one of all
module _ {K X : Type 0} {cmp : K → K → Ordering} (o : IsTotalOrder cmp) (k : K) (cs : Chunks (K × X)) (rising : HaveRisingKeys cmp cs) where
  pub IsSpot-found : (place : Place) → IsOrderAt cmp cs place k Equal → IsSpot cmp cs k (record { chunk = place.chunk; at = Ok place.at })
  IsSpot-found place is =
      let d = some_of (chunk_at cs place.chunk) (omega (arith, is.1)) in (
        below-all o k cs place.chunk is.0 rising place.at is.1 Equal d (is.2 d) refl,
        above-all o k cs place.chunk is.0 rising place.at is.1 Equal d (is.2 d) refl,
        IsRisingPlace-found o k (chunk_at cs place.chunk) place.at is.1 (rising-chunk_at o k cs place.chunk is.0 rising) Equal d (is.2 d) refl,
        λ _. is.0,
      )

  module _ (place : Place) (past : IsOrderAt cmp cs place k Greater) where
    -- the entries up to that place have lesser keys
    up-to : (above : AllAbove cmp k (entries_of_chunks (drop (suc place.chunk) cs))) → AllAbove cmp k (drop (place.at + 1) (chunk_at cs place.chunk)) → IsSpot cmp cs k (record { chunk = place.chunk; at = Err (place.at + 1) })
    up-to above here =
        let d = some_of (chunk_at cs place.chunk) (omega (arith, past.1)) in (
          below-all o k cs place.chunk past.0 rising place.at past.1 Greater d (past.2 d) refl,
          above,
          IsRisingPlace-between cmp k (chunk_at cs place.chunk) (place.at + 1) (omega (arith, past.1)) (below-with o k (chunk_at cs place.chunk) place.at past.1 (rising-chunk_at o k cs place.chunk past.0 rising) Greater d (past.2 d) refl) here,
          λ _. past.0,
        )

    pub IsSpot-between : IsOrderAt cmp cs (record { chunk = place.chunk; at = place.at + 1 }) k Less → IsSpot cmp cs k (record { chunk = place.chunk; at = Err (place.at + 1) })
    IsSpot-between is =
        let d = some_of (chunk_at cs place.chunk) (omega (arith, past.1)) in
        up-to
        (above-all o k cs place.chunk is.0 rising (place.at + 1) is.1 Less d (is.2 d) refl)
        (above-with o k (chunk_at cs place.chunk) (place.at + 1) is.1 (rising-chunk_at o k cs place.chunk is.0 rising) Less d (is.2 d) refl)

    pub IsSpot-before : length (chunk_at cs place.chunk) ≤ place.at + 1 → IsOrderAt cmp cs (record { chunk = place.chunk + 1; at = 0 }) k Less → IsSpot cmp cs k (record { chunk = place.chunk; at = Err (place.at + 1) })
    IsSpot-before end is =
        let i = place.chunk + 1 in
        let d = some_of (chunk_at cs i) is.1 in
        let first = above-with o k (chunk_at cs i) 0 is.1 (rising-chunk_at o k cs i is.0 rising) Less d (is.2 d) refl in
        let others = above-all o k cs i is.0 rising 0 is.1 Less d (is.2 d) refl in
        let all = all-all_names (λ x. cmp k x ≡ Less) (chunk_at cs i) (entries_of_chunks (drop (suc i) cs)) first others in
        up-to
        (subst (AllAbove cmp k) (sym (ap (λ j. entries_of_chunks (drop j cs)) (sym (add-one place.chunk)) ∙ entries_of_chunks-from cs i is.0)) all)
        (subst (AllAbove cmp k) (sym (drop_of_length-le (chunk_at cs place.chunk) {i = place.at + 1} end)) tt)

    pub IsSpot-end : length (chunk_at cs place.chunk) ≤ place.at + 1 → length cs ≤ suc place.chunk → IsSpot cmp cs k (record { chunk = place.chunk; at = Err (place.at + 1) })
    IsSpot-end end last =
        up-to
        (subst (λ l. AllAbove cmp k (entries_of_chunks l)) (sym (drop_of_length-le cs {i = suc place.chunk} last)) tt)
        (subst (AllAbove cmp k) (sym (drop_of_length-le (chunk_at cs place.chunk) {i = place.at + 1} end)) tt)

-- where a key that is not less than the last one of all stands: in the last chunk
module _ {K X : Type 0} {cmp : K → K → Ordering} (o : IsTotalOrder cmp) (k : K) (cs : Chunks (K × X)) (i : ℕ) (within : i < length cs) (rising : HaveRisingKeys cmp cs) (c : Vec (K × X) Global) (read : c ≡ get_or cs i c) (es : List (K × X)) (value : es ≡ c.items) (r : Ordering) (is : (d : K × X) → r ≡ cmp k (get_or es (length es - 1) d).0) (last : length cs ≤ suc i) where
  in_last : (at : Result ℕ ℕ) → IsRisingPlace cmp es k at → is_lt r ≡ false → IsSpot cmp cs k (record { chunk = i; at = at })
  in_last at place fits = (
    below-chunks o k cs i within rising c read es value r is fits,
    subst (λ l. AllAbove cmp k (entries_of_chunks l)) (sym (drop_of_length-le cs {i = suc i} last)) tt,
    subst (λ l. IsRisingPlace cmp l k at) (chunk_at-read cs i c es within read value) place,
    λ _. within,
  )

  pub IsSpot-behind : r ≡ Greater → IsSpot cmp cs k (record { chunk = i; at = Err (length es) })
  IsSpot-behind more =
      let below = subst (AllBelow cmp k) (sym (take-length es)) (below-chunk o k cs i within rising c read es value r is more) in
      in_last (Err (length es)) (IsRisingPlace-between cmp k es (length es) (omega arith) below (subst (AllAbove cmp k) (sym (drop-length es)) tt)) (ap is_lt more)

  pub IsSpot-last : r ≡ Equal → IsSpot cmp cs k (record { chunk = i; at = Ok (length es - 1) })
  IsSpot-last tie =
      let d = an_entry o k cs i within rising c read es value in
      in_last (Ok (length es - 1)) (IsRisingPlace-found o k es (length es - 1) (last-within o k cs i within rising c read es value) (rising-chunk o k cs i within rising c read es value) r d (is d) tie) (ap is_lt tie)
