-- rising entries, one list or in chunks: what one entry says of those before and behind it
use Rattle.std.proofs.Common.{◌≡◌, ℕ, zero, suc, ◌+◌, ◌-◌, ◌<◌, true, false, List, [], ◌∷◌, ◌++◌, length, get_or, take, drop, refl, sym, ap, ◌∙◌, subst, append_assoc, drop-cons, add-one, arith}
use Rattle.std.proofs.Math.Seq.{take-length, take-suc}
use Rattle.std.specs.Cmp.{IsTotalOrder}
use Rattle.std.specs.List.{AllByRecursion}
use Rattle.std.specs.List.Sorted.{IsStrictlySortedBy}
use Rattle.std.specs.Map.{keys_of}
use Rattle.std.specs.Ordering.{is_gt, is_lt, ordering_reverse}
use Rattle.std.proofs.lemmas.List.{append-nil, take-append-drop}
use Rattle.std.proofs.Math.Bool.{true≢false}
use Rattle.std.specs.Prelude.{Vec}
use Rattle.std.specs.declared.alloc.Global.{Global}
use Rattle.std.specs.declared.cmp.Ordering.{Ordering}
use Rattle.std.specs.declared.cmp.Ordering.TheVariants.{Less, Equal, Greater}
use Rattle.late_maps.specs.Chunks.{AreFilled, HaveRisingKeys, Chunks, chunk_at, entries_of_chunks}
use Rattle.late_maps.proofs.Ends.{all_weaker}
use Rattle.late_maps.proofs.Segments.{AllAbove, AllBelow, all-all_names, all-kept}

pub Greater-from_is_gt : (r : Ordering) → is_gt r ≡ true → r ≡ Greater
Greater-from_is_gt Less h = absurd (true≢false (sym h))
Greater-from_is_gt Equal h = absurd (true≢false (sym h))
Greater-from_is_gt Greater h = refl

-- a list, parted at a place
pub parted-at : {A : Type 0} (xs : List A) (i : ℕ) (d : A) → i < length xs → xs ≡ take i xs ++ get_or xs i d ∷ drop (suc i) xs
parted-at xs i d lt = sym (take-append-drop i xs) ∙ ap (λ l. take i xs ++ l) (drop-cons xs i d lt)

-- an element of a list that is not empty
pub some_of : {A : Type 0} (xs : List A) → 0 < length xs → A
some_of [] lt = absurd (omega arith)
some_of (x ∷ xs) lt = x

-- what holds of all holds of a front, and of those behind it
module _ {A : Type 0} (P : A → Type 0) where
  all-front : (xs ys : List A) → AllByRecursion P (xs ++ ys) → AllByRecursion P xs
  all-front [] ys h = tt
  all-front (x ∷ xs) ys h = (h.0, all-front xs ys h.1)

  all-back : (xs ys : List A) → AllByRecursion P (xs ++ ys) → AllByRecursion P ys
  all-back [] ys h = h
  all-back (x ∷ xs) ys h = all-back xs ys h.1

-- of all keys, those of a front and that behind it
module _ {K X : Type 0} (P : K → Type 0) where
  keys-front : (xs ys : List (K × X)) → AllByRecursion P (keys_of (xs ++ ys)) → AllByRecursion P (keys_of xs)
  keys-front [] ys h = tt
  keys-front (x ∷ xs) ys h = (h.0, keys-front xs ys h.1)

  key-behind : (xs : List (K × X)) (e : K × X) (ys : List (K × X)) → AllByRecursion P (keys_of (xs ++ e ∷ ys)) → P e.0
  key-behind [] e ys h = h.0
  key-behind (x ∷ xs) e ys h = key-behind xs e ys h.1

module _ {K X : Type 0} (cmp : K → K → Ordering) where
  -- a part of rising entries rises
  rising-part : (xs es ys : List (K × X)) → IsStrictlySortedBy cmp (keys_of (xs ++ (es ++ ys))) → IsStrictlySortedBy cmp (keys_of es)
  unfolding IsStrictlySortedBy
  rising-part [] [] ys h = tt
  rising-part [] (e ∷ es) ys h = (keys-front (λ k. cmp e.0 k ≡ Less) es ys h.0, rising-part [] es ys h.1)
  rising-part (x ∷ xs) es ys h = rising-part xs es ys h.1

  lesser-before : (xs : List (K × X)) (e : K × X) (ys : List (K × X)) → IsStrictlySortedBy cmp (keys_of (xs ++ e ∷ ys)) → AllByRecursion (λ x. cmp x.0 e.0 ≡ Less) xs
  unfolding IsStrictlySortedBy
  lesser-before [] e ys h = tt
  lesser-before (x ∷ xs) e ys h = (key-behind (λ k. cmp x.0 k ≡ Less) xs e ys h.0, lesser-before xs e ys h.1)

  greater-behind : (xs : List (K × X)) (e : K × X) (ys : List (K × X)) → IsStrictlySortedBy cmp (keys_of (xs ++ e ∷ ys)) → AllByRecursion (λ k. cmp e.0 k ≡ Less) (keys_of ys)
  unfolding IsStrictlySortedBy
  greater-behind [] e ys h = h.0
  greater-behind (x ∷ xs) e ys h = greater-behind xs e ys h.1

-- a key that is not less than another is greater than what is less than that, and one that is not greater is less than what is greater than that
module _ {K : Type 0} {cmp : K → K → Ordering} (o : IsTotalOrder cmp) (k e : K) where
  turned : (a b : K) (r : Ordering) → cmp a b ≡ r → cmp b a ≡ ordering_reverse r
  turned a b r h = o.antisymm b a ∙ ap ordering_reverse h

  below-by : (x : K) (r : Ordering) → cmp k e ≡ r → is_lt r ≡ false → cmp x e ≡ Less → cmp k x ≡ Greater
  below-by x Less h fits less = absurd (true≢false fits)
  below-by x Equal h fits less = o.congr k e x h ∙ turned x e Less less
  below-by x Greater h fits less = turned x k Less (o.trans x e k less (turned k e Greater h))

  above-by : (y : K) (r : Ordering) → cmp k e ≡ r → is_gt r ≡ false → cmp e y ≡ Less → cmp k y ≡ Less
  above-by y Less h fits less = o.trans k e y h less
  above-by y Equal h fits less = o.congr k e y h ∙ less
  above-by y Greater h fits less = absurd (true≢false fits)

-- so it is with the entries before an entry, and those behind it
module _ {K X : Type 0} {cmp : K → K → Ordering} (o : IsTotalOrder cmp) (k : K) (es xs : List (K × X)) (e : K × X) (ys : List (K × X)) (r : Ordering) (parts : es ≡ xs ++ e ∷ ys) (rising : IsStrictlySortedBy cmp (keys_of es)) (at : cmp k e.0 ≡ r) where
  below-before : is_lt r ≡ false → AllBelow cmp k xs
  below-before fits = all_weaker (λ x less. below-by o k e.0 x.0 r at fits less) xs (lesser-before cmp xs e ys (subst (λ l. IsStrictlySortedBy cmp (keys_of l)) parts rising))

  above-behind : is_gt r ≡ false → AllAbove cmp k ys
  above-behind fits = all-kept (λ x. cmp k x ≡ Less) (λ x. cmp e.0 x ≡ Less) (λ y less. above-by o k e.0 y r at fits less) ys (greater-behind cmp xs e ys (subst (λ l. IsStrictlySortedBy cmp (keys_of l)) parts rising))

-- what a key's order to the one at a place says of those before it and behind it
module _ {K X : Type 0} {cmp : K → K → Ordering} (o : IsTotalOrder cmp) (k : K) (es : List (K × X)) (at : ℕ) (lt : at < length es) (rising : IsStrictlySortedBy cmp (keys_of es)) (r : Ordering) (d : K × X) (is : r ≡ cmp k (get_or es at d).0) where
  pub below-to : is_lt r ≡ false → AllBelow cmp k (take at es)
  below-to fits = below-before o k es (take at es) (get_or es at d) (drop (suc at) es) r (parted-at es at d lt) rising (sym is) fits

  pub above-past : is_gt r ≡ false → AllAbove cmp k (drop (suc at) es)
  above-past fits = above-behind o k es (take at es) (get_or es at d) (drop (suc at) es) r (parted-at es at d lt) rising (sym is) fits

  pub below-with : r ≡ Greater → AllBelow cmp k (take (at + 1) es)
  below-with more = subst (AllBelow cmp k) (sym (ap (λ j. take j es) (add-one at) ∙ take-suc es at d lt)) (all-all_names (λ x. cmp k x ≡ Greater) (take at es) (get_or es at d ∷ []) (below-to (ap is_lt more)) (sym is ∙ more, tt))

  pub above-with : r ≡ Less → AllAbove cmp k (drop at es)
  above-with less = subst (AllAbove cmp k) (sym (drop-cons es at d lt)) (sym is ∙ less, above-past (ap is_gt less))

-- the entries of a chunk among all
module _ {A : Type 0} where
  pub entries_of_chunks-at : (cs : Chunks A) (i : ℕ) → i < length cs → entries_of_chunks cs ≡ entries_of_chunks (take i cs) ++ (chunk_at cs i ++ entries_of_chunks (drop (suc i) cs))
  entries_of_chunks-at [] i lt = absurd (omega arith)
  entries_of_chunks-at (c ∷ cs) zero lt = refl
  entries_of_chunks-at (c ∷ cs) (suc i) lt = ap (λ l. c.items ++ l) (entries_of_chunks-at cs i (omega arith)) ∙ sym (append_assoc c.items (entries_of_chunks (take i cs)) (chunk_at cs i ++ entries_of_chunks (drop (suc i) cs)))

  pub entries_of_chunks-from : (cs : Chunks A) (i : ℕ) → i < length cs → entries_of_chunks (drop i cs) ≡ chunk_at cs i ++ entries_of_chunks (drop (suc i) cs)
  entries_of_chunks-from [] i lt = absurd (omega arith)
  entries_of_chunks-from (c ∷ cs) zero lt = refl
  entries_of_chunks-from (c ∷ cs) (suc i) lt = entries_of_chunks-from cs i (omega arith)

  pub entries_of_chunks-more : (cs : Chunks A) (i : ℕ) → i < length cs → entries_of_chunks (take (suc i) cs) ≡ entries_of_chunks (take i cs) ++ chunk_at cs i
  entries_of_chunks-more [] i lt = absurd (omega arith)
  entries_of_chunks-more (c ∷ cs) zero lt = append-nil c.items
  entries_of_chunks-more (c ∷ cs) (suc i) lt = ap (λ l. c.items ++ l) (entries_of_chunks-more cs i (omega arith)) ∙ sym (append_assoc c.items (entries_of_chunks (take i cs)) (chunk_at cs i))

  pub filled-at : (cs : Chunks A) (i : ℕ) → AreFilled cs → i < length cs → 0 < length (chunk_at cs i)
  filled-at [] i filled lt = absurd (omega arith)
  filled-at (c ∷ cs) zero filled lt = filled.0
  filled-at (c ∷ cs) (suc i) filled lt = filled-at cs i filled.1 (omega arith)

  pub chunk_at-read : (cs : Chunks A) (i : ℕ) (c : Vec A Global) (es : List A) → i < length cs → c ≡ get_or cs i c → es ≡ c.items → es ≡ chunk_at cs i
  chunk_at-read [] i c es lt read value = absurd (omega arith)
  chunk_at-read (b ∷ cs) zero c es lt read value = value ∙ ap (λ x. x.items) read
  chunk_at-read (b ∷ cs) (suc i) c es lt read value = chunk_at-read cs i c es (omega arith) read value

-- what a key's order to one of a chunk says of that chunk, of all before it, and of all behind it
module _ {K X : Type 0} {cmp : K → K → Ordering} (o : IsTotalOrder cmp) (k : K) (cs : Chunks (K × X)) (i : ℕ) (within : i < length cs) (rising : HaveRisingKeys cmp cs) where
  pub rising-chunk_at : IsStrictlySortedBy cmp (keys_of (chunk_at cs i))
  rising-chunk_at = rising-part cmp (entries_of_chunks (take i cs)) (chunk_at cs i) (entries_of_chunks (drop (suc i) cs)) (subst (λ l. IsStrictlySortedBy cmp (keys_of l)) (entries_of_chunks-at cs i within) rising.0)

  module _ (at : ℕ) (lt : at < length (chunk_at cs i)) (r : Ordering) (d : K × X) (is : r ≡ cmp k (get_or (chunk_at cs i) at d).0) where
    parts : entries_of_chunks cs ≡ (entries_of_chunks (take i cs) ++ take at (chunk_at cs i)) ++ get_or (chunk_at cs i) at d ∷ (drop (suc at) (chunk_at cs i) ++ entries_of_chunks (drop (suc i) cs))
    parts =
        let back = entries_of_chunks (drop (suc i) cs) in
        let rest = get_or (chunk_at cs i) at d ∷ drop (suc at) (chunk_at cs i) in
        entries_of_chunks-at cs i within
        ∙ ap (λ l. entries_of_chunks (take i cs) ++ (l ++ back)) (parted-at (chunk_at cs i) at d lt)
        ∙ ap (λ l. entries_of_chunks (take i cs) ++ l) (append_assoc (take at (chunk_at cs i)) rest back)
        ∙ sym (append_assoc (entries_of_chunks (take i cs)) (take at (chunk_at cs i)) (rest ++ back))

    pub below-all : is_lt r ≡ false → AllBelow cmp k (entries_of_chunks (take i cs))
    below-all fits = all-front (λ e. cmp k e.0 ≡ Greater) (entries_of_chunks (take i cs)) _ (below-before o k (entries_of_chunks cs) _ _ _ r parts rising.0 (sym is) fits)

    pub above-all : is_gt r ≡ false → AllAbove cmp k (entries_of_chunks (drop (suc i) cs))
    above-all fits = all-back (λ e. cmp k e.0 ≡ Less) (drop (suc at) (chunk_at cs i)) _ (above-behind o k (entries_of_chunks cs) _ _ _ r parts rising.0 (sym is) fits)

-- the same of the last one of a chunk
module _ {K X : Type 0} {cmp : K → K → Ordering} (o : IsTotalOrder cmp) (k : K) (cs : Chunks (K × X)) (i : ℕ) (within : i < length cs) (rising : HaveRisingKeys cmp cs) (c : Vec (K × X) Global) (read : c ≡ get_or cs i c) (es : List (K × X)) (value : es ≡ c.items) where
  here : es ≡ chunk_at cs i
  here = chunk_at-read cs i c es within read value

  pub rising-chunk : IsStrictlySortedBy cmp (keys_of es)
  rising-chunk = subst (λ l. IsStrictlySortedBy cmp (keys_of l)) (sym here) (rising-chunk_at o k cs i within rising)

  filled-chunk : 0 < length es
  filled-chunk = subst (λ l. 0 < length l) (sym here) (filled-at cs i rising.1 within)

  pub last-within : length es - 1 < length es
  last-within = let filled = filled-chunk in omega arith

  pub an_entry : K × X
  an_entry = some_of es filled-chunk

  module _ (r : Ordering) (is : (d : K × X) → r ≡ cmp k (get_or es (length es - 1) d).0) where
    lt : length es - 1 < length (chunk_at cs i)
    lt = subst (λ l. length es - 1 < length l) here last-within

    is-there : r ≡ cmp k (get_or (chunk_at cs i) (length es - 1) an_entry).0
    is-there = is an_entry ∙ ap (λ l. cmp k (get_or l (length es - 1) an_entry).0) here

    pub below-chunks : is_lt r ≡ false → AllBelow cmp k (entries_of_chunks (take i cs))
    below-chunks fits = below-all o k cs i within rising (length es - 1) lt r an_entry is-there fits

    pub above-chunks : is_gt r ≡ false → AllAbove cmp k (entries_of_chunks (drop (suc i) cs))
    above-chunks fits = above-all o k cs i within rising (length es - 1) lt r an_entry is-there fits

    pub below-chunk : r ≡ Greater → AllBelow cmp k es
    below-chunk more =
        let filled = filled-chunk in
        let all : length es - 1 + 1 ≡ length es = omega arith in
        subst (AllBelow cmp k) (ap (λ j. take j es) all ∙ take-length es) (below-with o k es (length es - 1) last-within rising-chunk r an_entry (is an_entry) more)

    pub below-chunks_with : r ≡ Greater → AllBelow cmp k (entries_of_chunks (take (i + 1) cs))
    below-chunks_with more =
        let both = ap (λ j. entries_of_chunks (take j cs)) (add-one i) ∙ entries_of_chunks-more cs i within ∙ ap (λ l. entries_of_chunks (take i cs) ++ l) (sym here) in
        subst (AllBelow cmp k) (sym both) (all-all_names (λ x. cmp k x ≡ Greater) (entries_of_chunks (take i cs)) es (below-chunks (ap is_lt more)) (below-chunk more))
