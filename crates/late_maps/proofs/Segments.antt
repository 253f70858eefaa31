-- entries in order one after another, and under other keys: what is found, changed, put and removed in a part of them
use Rattle.std.proofs.Common.{◌≡◌, true, false, cond, List, [], ◌∷◌, ◌++◌, None, Some, refl, sym, ap, ap₂, ◌∙◌}
use Rattle.std.specs.BTreeMap.{insert_entry, is_at}
use Rattle.std.specs.List.{AllByRecursion}
use Rattle.std.specs.List.Sorted.{IsStrictlySortedBy}
use Rattle.std.specs.Map.{keys_of, lookup, remove_entry, set_value}
use Rattle.std.specs.Ordering.{is_eq, match_ordering}
use Rattle.std.specs.declared.cmp.Ordering.{Ordering}
use Rattle.std.specs.declared.cmp.Ordering.TheVariants.{Less, Equal, Greater}
use Rattle.late_maps.specs.Segments.{renamed}

-- what is found, changed, put and removed at a key of a part is so at its name in the whole
pub record StandsIn {K L X : Type 0} (own : K → K → Ordering) (k : K) (cmp : L → L → Ordering) (n : L) (part : List (K × X)) (whole : List (K × X) → List (L × X)) : Type 0 where
  pub found : lookup (is_at (own k)) part ≡ lookup (is_at (cmp n)) (whole part)
  pub set : (new : List (K × X)) (w : X) → new ≡ set_value (is_at (own k)) part w → whole new ≡ set_value (is_at (cmp n)) (whole part) w
  pub put : (new : List (K × X)) (w : X) → new ≡ insert_entry own part k w → whole new ≡ insert_entry cmp (whole part) n w
  pub removed : (new : List (K × X)) → new ≡ remove_entry (is_at (own k)) part → whole new ≡ remove_entry (is_at (cmp n)) (whole part)

module _ {K X : Type 0} (cmp : K → K → Ordering) (n : K) where
  -- the key is below all keys, or above them
  abbrev pub AllAbove : List (K × X) → Type 0
  AllAbove es = AllByRecursion (λ e. cmp n e.0 ≡ Less) es

  abbrev pub AllBelow : List (K × X) → Type 0
  AllBelow es = AllByRecursion (λ e. cmp n e.0 ≡ Greater) es

  -- or it is none of them
  abbrev pub AllApart : List (K × X) → Type 0
  AllApart es = AllByRecursion (λ e. is_at (cmp n) e.0 ≡ false) es

  apart-above : (es : List (K × X)) → AllAbove es → AllApart es
  apart-above [] h = tt
  apart-above (e ∷ es) h = (ap is_eq h.0, apart-above es h.1)

  -- in entries that are all below, nothing happens before the others
  pub lookup-below : (xs ys : List (K × X)) → AllBelow xs → lookup (is_at (cmp n)) (xs ++ ys) ≡ lookup (is_at (cmp n)) ys
  lookup-below [] ys h = refl
  lookup-below (a ∷ xs) ys h = ap (λ o. cond (is_eq o) (Some a.1) (lookup (is_at (cmp n)) (xs ++ ys))) h.0 ∙ lookup-below xs ys h.1

  pub set-below : (xs ys : List (K × X)) (w : X) → AllBelow xs → set_value (is_at (cmp n)) (xs ++ ys) w ≡ xs ++ set_value (is_at (cmp n)) ys w
  set-below [] ys w h = refl
  set-below (a ∷ xs) ys w h = ap (λ o. cond (is_eq o) ((a.0, w) ∷ xs ++ ys) (a ∷ set_value (is_at (cmp n)) (xs ++ ys) w)) h.0 ∙ ap (λ l. a ∷ l) (set-below xs ys w h.1)

  pub remove-below : (xs ys : List (K × X)) → AllBelow xs → remove_entry (is_at (cmp n)) (xs ++ ys) ≡ xs ++ remove_entry (is_at (cmp n)) ys
  remove-below [] ys h = refl
  remove-below (a ∷ xs) ys h = ap (λ o. cond (is_eq o) (xs ++ ys) (a ∷ remove_entry (is_at (cmp n)) (xs ++ ys))) h.0 ∙ ap (λ l. a ∷ l) (remove-below xs ys h.1)

  pub insert-below : (xs ys : List (K × X)) (w : X) → AllBelow xs → insert_entry cmp (xs ++ ys) n w ≡ xs ++ insert_entry cmp ys n w
  insert-below [] ys w h = refl
  insert-below (a ∷ xs) ys w h = ap (λ o. match_ordering o ((n, w) ∷ a ∷ xs ++ ys) ((a.0, w) ∷ xs ++ ys) (a ∷ insert_entry cmp (xs ++ ys) n w)) h.0 ∙ ap (λ l. a ∷ l) (insert-below xs ys w h.1)

  -- in entries at other keys, nothing happens
  lookup-apart : (ys : List (K × X)) → AllApart ys → lookup (is_at (cmp n)) ys ≡ None
  lookup-apart [] h = refl
  lookup-apart (b ∷ ys) h = ap (λ t. cond t (Some b.1) (lookup (is_at (cmp n)) ys)) h.0 ∙ lookup-apart ys h.1

  set-apart : (ys : List (K × X)) (w : X) → AllApart ys → set_value (is_at (cmp n)) ys w ≡ ys
  set-apart [] w h = refl
  set-apart (b ∷ ys) w h = ap (λ t. cond t ((b.0, w) ∷ ys) (b ∷ set_value (is_at (cmp n)) ys w)) h.0 ∙ ap (λ l. b ∷ l) (set-apart ys w h.1)

  remove-apart : (ys : List (K × X)) → AllApart ys → remove_entry (is_at (cmp n)) ys ≡ ys
  remove-apart [] h = refl
  remove-apart (b ∷ ys) h = ap (λ t. cond t ys (b ∷ remove_entry (is_at (cmp n)) ys)) h.0 ∙ ap (λ l. b ∷ l) (remove-apart ys h.1)

  insert-first : (ys : List (K × X)) (w : X) → AllAbove ys → insert_entry cmp ys n w ≡ (n, w) ∷ ys
  insert-first [] w h = refl
  insert-first (b ∷ ys) w h = ap (λ o. match_ordering o ((n, w) ∷ b ∷ ys) ((b.0, w) ∷ ys) (b ∷ insert_entry cmp ys n w)) h.0

  -- what holds of all keys holds of them after a change
  pub all-inserted : (P : K → Type 0) → P n → (es : List (K × X)) (w : X) → AllByRecursion P (keys_of es) → AllByRecursion P (keys_of (insert_entry cmp es n w))
  all-inserted P here [] w h = (here, tt)
  all-inserted P here (e ∷ es) w h =
      let rest = all-inserted P here es w h.1 in
      elim (cmp n e.0) as (λ o. AllByRecursion P (keys_of (match_ordering o ((n, w) ∷ e ∷ es) ((e.0, w) ∷ es) (e ∷ insert_entry cmp es n w)))) [ Less ↦ (here, h) | Equal ↦ h | Greater ↦ (h.0, rest) ]

  pub all-removed : (P : K → Type 0) (es : List (K × X)) → AllByRecursion P (keys_of es) → AllByRecursion P (keys_of (remove_entry (is_at (cmp n)) es))
  all-removed P [] h = tt
  all-removed P (e ∷ es) h =
      let rest = all-removed P es h.1 in
      elim (is_at (cmp n) e.0) as (λ b. AllByRecursion P (keys_of (cond b es (e ∷ remove_entry (is_at (cmp n)) es)))) [ true ↦ h.1 | false ↦ (h.0, rest) ]

  pub lookup-before : (xs ys : List (K × X)) → AllApart ys → lookup (is_at (cmp n)) (xs ++ ys) ≡ lookup (is_at (cmp n)) xs
  lookup-before [] ys h = lookup-apart ys h
  lookup-before (a ∷ xs) ys h = ap (λ l. cond (is_at (cmp n) a.0) (Some a.1) l) (lookup-before xs ys h)

  pub set-before : (xs ys : List (K × X)) (w : X) → AllApart ys → set_value (is_at (cmp n)) (xs ++ ys) w ≡ set_value (is_at (cmp n)) xs w ++ ys
  set-before [] ys w h = set-apart ys w h
  set-before (a ∷ xs) ys w h =
      let rest = set-before xs ys w h in
      elim (is_at (cmp n) a.0) as (λ b. cond b ((a.0, w) ∷ xs ++ ys) (a ∷ set_value (is_at (cmp n)) (xs ++ ys) w) ≡ cond b ((a.0, w) ∷ xs) (a ∷ set_value (is_at (cmp n)) xs w) ++ ys) [ true ↦ refl | false ↦ ap (λ l. a ∷ l) rest ]

  pub remove-before : (xs ys : List (K × X)) → AllApart ys → remove_entry (is_at (cmp n)) (xs ++ ys) ≡ remove_entry (is_at (cmp n)) xs ++ ys
  remove-before [] ys h = remove-apart ys h
  remove-before (a ∷ xs) ys h =
      let rest = remove-before xs ys h in
      elim (is_at (cmp n) a.0) as (λ b. cond b (xs ++ ys) (a ∷ remove_entry (is_at (cmp n)) (xs ++ ys)) ≡ cond b xs (a ∷ remove_entry (is_at (cmp n)) xs) ++ ys) [ true ↦ refl | false ↦ ap (λ l. a ∷ l) rest ]

  pub insert-above : (xs ys : List (K × X)) (w : X) → AllAbove ys → insert_entry cmp (xs ++ ys) n w ≡ insert_entry cmp xs n w ++ ys
  insert-above [] ys w h = insert-first ys w h
  insert-above (a ∷ xs) ys w h =
      let rest = insert-above xs ys w h in
      elim (cmp n a.0) as (λ o. match_ordering o ((n, w) ∷ a ∷ xs ++ ys) ((a.0, w) ∷ xs ++ ys) (a ∷ insert_entry cmp (xs ++ ys) n w) ≡ match_ordering o ((n, w) ∷ a ∷ xs) ((a.0, w) ∷ xs) (a ∷ insert_entry cmp xs n w) ++ ys) [ Less ↦ refl | Equal ↦ refl | Greater ↦ ap (λ l. a ∷ l) rest ]

-- a part stands with entries that are all below before it, or with entries that are all above behind it
module _ {K L X : Type 0} {own : K → K → Ordering} {k : K} {cmp : L → L → Ordering} {n : L} {part : List (K × X)} {whole : List (K × X) → List (L × X)} (s : StandsIn own k cmp n part whole) where
  pub StandsIn-below : (xs : List (L × X)) → AllBelow cmp n xs → StandsIn own k cmp n part (λ l. xs ++ whole l)
  StandsIn-below xs h = record {
    found = s.found ∙ sym (lookup-below cmp n xs (whole part) h);
    set = λ new w is. ap (λ l. xs ++ l) (s.set new w is) ∙ sym (set-below cmp n xs (whole part) w h);
    put = λ new w is. ap (λ l. xs ++ l) (s.put new w is) ∙ sym (insert-below cmp n xs (whole part) w h);
    removed = λ new is. ap (λ l. xs ++ l) (s.removed new is) ∙ sym (remove-below cmp n xs (whole part) h);
  }

  pub StandsIn-above : (ys : List (L × X)) → AllAbove cmp n ys → StandsIn own k cmp n part (λ l. whole l ++ ys)
  StandsIn-above ys h = record {
    found = s.found ∙ sym (lookup-before cmp n (whole part) ys (apart-above cmp n ys h));
    set = λ new w is. ap (λ l. l ++ ys) (s.set new w is) ∙ sym (set-before cmp n (whole part) ys w (apart-above cmp n ys h));
    put = λ new w is. ap (λ l. l ++ ys) (s.put new w is) ∙ sym (insert-above cmp n (whole part) ys w h);
    removed = λ new is. ap (λ l. l ++ ys) (s.removed new is) ∙ sym (remove-before cmp n (whole part) ys (apart-above cmp n ys h));
  }

-- a part is a whole of its own
pub StandsIn-itself : {K X : Type 0} (cmp : K → K → Ordering) (n : K) (part : List (K × X)) → StandsIn cmp n cmp n part (λ l. l)
StandsIn-itself cmp n part = record { found = refl; set = λ new w is. is; put = λ new w is. is; removed = λ new is. is }

-- entries under other keys in the same order
module _ {K L X : Type 0} (own : K → K → Ordering) (cmp : L → L → Ordering) (g : K → L) (same : (a b : K) → cmp (g a) (g b) ≡ own a b) (n : K) where
  pub lookup-renamed : (es : List (K × X)) → lookup (is_at (cmp (g n))) (renamed g es) ≡ lookup (is_at (own n)) es
  lookup-renamed [] = refl
  lookup-renamed (e ∷ es) = ap₂ (λ o l. cond (is_eq o) (Some e.1) l) (same n e.0) (lookup-renamed es)

  pub set-renamed : (es : List (K × X)) (w : X) → set_value (is_at (cmp (g n))) (renamed g es) w ≡ renamed g (set_value (is_at (own n)) es w)
  set-renamed [] w = refl
  set-renamed (e ∷ es) w =
      let rest = set-renamed es w in
      ap₂ (λ o l. cond (is_eq o) ((g e.0, w) ∷ renamed g es) ((g e.0, e.1) ∷ l)) (same n e.0) rest
      ∙ elim (own n e.0) as (λ o. cond (is_eq o) ((g e.0, w) ∷ renamed g es) ((g e.0, e.1) ∷ renamed g (set_value (is_at (own n)) es w)) ≡ renamed g (cond (is_eq o) ((e.0, w) ∷ es) (e ∷ set_value (is_at (own n)) es w))) [ Less ↦ refl | Equal ↦ refl | Greater ↦ refl ]

  pub remove-renamed : (es : List (K × X)) → remove_entry (is_at (cmp (g n))) (renamed g es) ≡ renamed g (remove_entry (is_at (own n)) es)
  remove-renamed [] = refl
  remove-renamed (e ∷ es) =
      let rest = remove-renamed es in
      ap₂ (λ o l. cond (is_eq o) (renamed g es) ((g e.0, e.1) ∷ l)) (same n e.0) rest
      ∙ elim (own n e.0) as (λ o. cond (is_eq o) (renamed g es) ((g e.0, e.1) ∷ renamed g (remove_entry (is_at (own n)) es)) ≡ renamed g (cond (is_eq o) es (e ∷ remove_entry (is_at (own n)) es))) [ Less ↦ refl | Equal ↦ refl | Greater ↦ refl ]

  pub insert-renamed : (es : List (K × X)) (w : X) → insert_entry cmp (renamed g es) (g n) w ≡ renamed g (insert_entry own es n w)
  insert-renamed [] w = refl
  insert-renamed (e ∷ es) w =
      let rest = insert-renamed es w in
      ap₂ (λ o l. match_ordering o ((g n, w) ∷ (g e.0, e.1) ∷ renamed g es) ((g e.0, w) ∷ renamed g es) ((g e.0, e.1) ∷ l)) (same n e.0) rest
      ∙ elim (own n e.0) as (λ o. match_ordering o ((g n, w) ∷ (g e.0, e.1) ∷ renamed g es) ((g e.0, w) ∷ renamed g es) ((g e.0, e.1) ∷ renamed g (insert_entry own es n w)) ≡ renamed g (match_ordering o ((n, w) ∷ e ∷ es) ((e.0, w) ∷ es) (e ∷ insert_entry own es n w))) [ Less ↦ refl | Equal ↦ refl | Greater ↦ refl ]

  pub StandsIn-renamed : (es : List (K × X)) → StandsIn own n cmp (g n) es (renamed g)
  StandsIn-renamed es = record {
    found = sym (lookup-renamed es);
    set = λ new w is. ap (renamed g) is ∙ sym (set-renamed es w);
    put = λ new w is. ap (renamed g) is ∙ sym (insert-renamed es w);
    removed = λ new is. ap (renamed g) is ∙ sym (remove-renamed es);
  }

-- what holds of the keys holds of all entries: of those before and behind, and of entries under other keys
module _ {L X : Type 0} (P : L → Type 0) where
  pub all-all_names : (xs ys : List (L × X)) → AllByRecursion (λ e. P e.0) xs → AllByRecursion (λ e. P e.0) ys → AllByRecursion (λ e. P e.0) (xs ++ ys)
  all-all_names [] ys h more = more
  all-all_names (x ∷ xs) ys h more = (h.0, all-all_names xs ys h.1 more)

  pub all-kept : (Q : L → Type 0) → ((n : L) → Q n → P n) → (es : List (L × X)) → AllByRecursion Q (keys_of es) → AllByRecursion (λ e. P e.0) es
  all-kept Q by [] h = tt
  all-kept Q by (e ∷ es) h = (by e.0 h.0, all-kept Q by es h.1)

  module _ {K : Type 0} (g : K → L) where
    pub all-renamed : (Q : K → Type 0) → ((k : K) → Q k → P (g k)) → (es : List (K × X)) → AllByRecursion Q (keys_of es) → AllByRecursion (λ e. P e.0) (renamed g es)
    all-renamed Q by [] h = tt
    all-renamed Q by (e ∷ es) h = (by e.0 h.0, all-renamed Q by es h.1)

    pub all-named : ((k : K) → P (g k)) → (es : List (K × X)) → AllByRecursion (λ e. P e.0) (renamed g es)
    all-named by [] = tt
    all-named by (e ∷ es) = (by e.0, all-named by es)

-- order
module _ {K X : Type 0} (cmp : K → K → Ordering) where
  above-both : (n : K) (xs ys : List (K × X)) → AllByRecursion (λ k. cmp n k ≡ Less) (keys_of xs) → AllAbove cmp n ys → AllByRecursion (λ k. cmp n k ≡ Less) (keys_of (xs ++ ys))
  above-both n [] [] h more = tt
  above-both n [] (b ∷ ys) h more = (more.0, above-both n [] ys h more.1)
  above-both n (a ∷ xs) ys h more = (h.0, above-both n xs ys h.1 more)

  -- entries in order, all of which are below the others
  pub sorted-all_names : (xs ys : List (K × X)) → IsStrictlySortedBy cmp (keys_of xs) → IsStrictlySortedBy cmp (keys_of ys) → AllByRecursion (λ a. AllAbove cmp a.0 ys) xs → IsStrictlySortedBy cmp (keys_of (xs ++ ys))
  unfolding IsStrictlySortedBy
  sorted-all_names [] ys sa sb h = sb
  sorted-all_names (a ∷ xs) ys sa sb h = (above-both a.0 xs ys sa.0 h.0, sorted-all_names xs ys sa.1 sb h.1)

module _ {K L X : Type 0} (own : K → K → Ordering) (cmp : L → L → Ordering) (g : K → L) (same : (a b : K) → cmp (g a) (g b) ≡ own a b) where
  above-renamed : (n : K) (es : List (K × X)) → AllByRecursion (λ k. own n k ≡ Less) (keys_of es) → AllByRecursion (λ k. cmp (g n) k ≡ Less) (keys_of (renamed g es))
  above-renamed n [] h = tt
  above-renamed n (e ∷ es) h = (same n e.0 ∙ h.0, above-renamed n es h.1)

  pub sorted-renamed : (es : List (K × X)) → IsStrictlySortedBy own (keys_of es) → IsStrictlySortedBy cmp (keys_of (renamed g es))
  unfolding IsStrictlySortedBy
  sorted-renamed [] h = tt
  sorted-renamed (e ∷ es) h = (above-renamed e.0 es h.0, sorted-renamed es h.1)
