-- what entries have of each key: how it is found, and what becomes of it with an entry more
use Rattle.std.proofs.Common.{◌≡◌, Bool, true, false, cond, ◌||◌, List, [], ◌∷◌, Option, None, Some, is_some, option_and_then, unwrap_or, refl, sym, ap, ◌∙◌}
use Rattle.std.specs.declared.cmp.Ordering.TheVariants.{Less, Equal, Greater}
use Rattle.std.specs.Ordering.{match_ordering}
use Rattle.std.specs.BTreeMap.{insert_entry, is_at}
use Rattle.std.specs.BTreeSet.{insert_key}
use Rattle.std.specs.List.{AllByRecursion, list_any}
use Rattle.std.specs.Map.{keys_of, lookup, remove_entry}
use Rattle.swss_types.proofs.Maps.{lookup-insert_entry}
use Rattle.table_schema.specs.Fields.{HasRisingKeys}
use Rattle.table_schema.specs.Key.{key_cmp}
use Rattle.table_schema.specs.declared.key.Key.{Key}
use Rattle.table_schema.proofs.Keys.{key_exact, key_total, tied_keys_same}
use Rattle.table_schema.proofs.Places.{HasRisingKeys-insert_entry}
use Rattle.table_schema.proofs.RowLists.{HasRisingKeys-remove_entry}
use Rattle.producer_table.proofs.Found.{lookup-above, lookup-removed, same_entries}
use Rattle.app_restart.specs.Entry.{CacheEntries, chosen, known_at, no_entry, with_choice}
use Rattle.app_restart.specs.declared.entry.Entry.{Entry}

-- ---- any entries by keys

module _ {X : Type 0} where
  -- an entry put, or the one that is there taken away
  abbrev pub put : Key → Option X → List (Key × X) → List (Key × X)
  put k None es = remove_entry (is_at (key_cmp k)) es
  put k (Some x) es = insert_entry key_cmp es k x

  HasRisingKeys-put : (k : Key) (o : Option X) (es : List (Key × X)) → HasRisingKeys key_cmp es → HasRisingKeys key_cmp (put k o es)
  HasRisingKeys-put k None es h = HasRisingKeys-remove_entry key_cmp (is_at (key_cmp k)) es h
  HasRisingKeys-put k (Some x) es h = HasRisingKeys-insert_entry key_cmp key_total es k x h

  lookup-put : (q k : Key) (o : Option X) (es : List (Key × X)) → HasRisingKeys key_cmp es → lookup (is_at (key_cmp q)) (put k o es) ≡ cond (is_at (key_cmp q) k) o (lookup (is_at (key_cmp q)) es)
  lookup-put q k None es h = lookup-removed key_cmp key_total es k q h
  lookup-put q k (Some x) es h = lookup-insert_entry key_cmp key_total es k x q

  at_key : (b : Bool) (q k : Key) (es : List (Key × X)) → (b ≡ true → q ≡ k) → cond b (lookup (is_at (key_cmp k)) es) (lookup (is_at (key_cmp q)) es) ≡ lookup (is_at (key_cmp q)) es
  at_key true q k es same = ap (λ x. lookup (is_at (key_cmp x)) es) (sym (same refl))
  at_key false q k es same = refl

  -- what is there, put there
  pub put-same : (k : Key) (es : List (Key × X)) → HasRisingKeys key_cmp es → put k (lookup (is_at (key_cmp k)) es) es ≡ es
  put-same k es h =
      let there = lookup (is_at (key_cmp k)) es in
      same_entries key_cmp key_total key_exact (put k there es) es (HasRisingKeys-put k there es h) h
      (λ q. lookup-put q k there es h ∙ at_key (is_at (key_cmp q) k) q k es (tied_keys_same q k))

  -- the keys with an entry more
  pub keys_of-insert_entry : (es : List (Key × X)) (k : Key) (x : X) → keys_of (insert_entry key_cmp es k x) ≡ insert_key key_cmp (keys_of es) k
  keys_of-insert_entry [] k x = refl
  keys_of-insert_entry (e ∷ es) k x =
      let more = keys_of-insert_entry es k x in
      elim (key_cmp k e.0) as (λ r. keys_of (match_ordering r ((k, x) ∷ e ∷ es) ((e.0, x) ∷ es) (e ∷ insert_entry key_cmp es k x)) ≡ match_ordering r (k ∷ e.0 ∷ keys_of es) (e.0 ∷ keys_of es) (e.0 ∷ insert_key key_cmp (keys_of es) k)) [ Less ↦ refl | Equal ↦ refl | Greater ↦ ap (λ l. e.0 ∷ l) more ]

  any_step : (b c : Bool) (x : X) (o : Option X) → c ≡ is_some o → (b || c) ≡ is_some (cond b (Some x) o)
  any_step true c x o h = refl
  any_step false c x o h = h

  -- a key is among those of the entries exactly where it is found there
  pub any-keys_of : (test : Key → Bool) (es : List (Key × X)) → list_any test (keys_of es) ≡ is_some (lookup test es)
  any-keys_of test [] = refl
  any-keys_of test (e ∷ es) = any_step (test e.0) (list_any test (keys_of es)) e.1 (lookup test es) (any-keys_of test es)

-- ---- what entries have of each key

module _ {X : Type 0} (f : Entry → Option X) where
  above-choice : (k j : Key) (o : Option X) (rest : List (Key × X)) → key_cmp k j ≡ Less → AllByRecursion (λ e. key_cmp k e.0 ≡ Less) rest → AllByRecursion (λ e. key_cmp k e.0 ≡ Less) (with_choice j o rest)
  above-choice k j None rest less h = h
  above-choice k j (Some x) rest less h = (less, h)

  pub above-chosen : (k : Key) (es : CacheEntries) → AllByRecursion (λ e. key_cmp k e.0 ≡ Less) es → AllByRecursion (λ e. key_cmp k e.0 ≡ Less) (chosen f es)
  above-chosen k [] h = tt
  above-chosen k (e ∷ es) h = above-choice k e.0 (f e.1) (chosen f es) h.0 (above-chosen k es h.1)

  rising-choice : (j : Key) (o : Option X) (rest : List (Key × X)) → AllByRecursion (λ e. key_cmp j e.0 ≡ Less) rest → HasRisingKeys key_cmp rest → HasRisingKeys key_cmp (with_choice j o rest)
  rising-choice j None rest above h = h
  rising-choice j (Some x) rest above h = (above, h)

  pub HasRisingKeys-chosen : (es : CacheEntries) → HasRisingKeys key_cmp es → HasRisingKeys key_cmp (chosen f es)
  HasRisingKeys-chosen [] h = tt
  HasRisingKeys-chosen (e ∷ es) h = rising-choice e.0 (f e.1) (chosen f es) (above-chosen e.0 es h.0) (HasRisingKeys-chosen es h.1)

  found-choice : (b : Bool) (o rest : Option X) → (b ≡ true → rest ≡ None) → cond b None rest ≡ rest
  found-choice true o rest none = sym (none refl)
  found-choice false o rest none = refl

  lookup-choice : (q j : Key) (o : Option X) (rest : List (Key × X)) → (is_at (key_cmp q) j ≡ true → lookup (is_at (key_cmp q)) rest ≡ None) → lookup (is_at (key_cmp q)) (with_choice j o rest) ≡ cond (is_at (key_cmp q) j) o (lookup (is_at (key_cmp q)) rest)
  lookup-choice q j None rest none = sym (found-choice (is_at (key_cmp q) j) None (lookup (is_at (key_cmp q)) rest) none)
  lookup-choice q j (Some x) rest none = refl

  chosen_at : (b : Bool) (e : Entry) (o : Option Entry) → cond b (f e) (option_and_then f o) ≡ option_and_then f (cond b (Some e) o)
  chosen_at true e o = refl
  chosen_at false e o = refl

  -- what is found of a key is what its entry has
  pub lookup-chosen : (q : Key) (es : CacheEntries) → HasRisingKeys key_cmp es → lookup (is_at (key_cmp q)) (chosen f es) ≡ option_and_then f (lookup (is_at (key_cmp q)) es)
  lookup-chosen q [] h = refl
  lookup-chosen q (e ∷ es) h =
      lookup-choice q e.0 (f e.1) (chosen f es) (λ here. lookup-above key_cmp key_total e.0 q (chosen f es) here (above-chosen e.0 es h.0))
      ∙ ap (cond (is_at (key_cmp q) e.0) (f e.1)) (lookup-chosen q es h.1)
      ∙ chosen_at (is_at (key_cmp q) e.0) e.1 (lookup (is_at (key_cmp q)) es)

  chosen_with : (b : Bool) (e : Entry) (o : Option Entry) (found : Option X) → found ≡ option_and_then f o → option_and_then f (cond b (Some e) o) ≡ cond b (f e) found
  chosen_with true e o found h = refl
  chosen_with false e o found h = sym h

  -- an entry more
  pub chosen-insert_entry : (es : CacheEntries) (k : Key) (e : Entry) → HasRisingKeys key_cmp es → chosen f (insert_entry key_cmp es k e) ≡ put k (f e) (chosen f es)
  chosen-insert_entry es k e h =
      let more = insert_entry key_cmp es k e in
      let rising = HasRisingKeys-insert_entry key_cmp key_total es k e h in
      let before = HasRisingKeys-chosen es h in
      same_entries key_cmp key_total key_exact (chosen f more) (put k (f e) (chosen f es)) (HasRisingKeys-chosen more rising) (HasRisingKeys-put k (f e) (chosen f es) before)
      (λ q. lookup-chosen q more rising
      ∙ ap (option_and_then f) (lookup-insert_entry key_cmp key_total es k e q)
      ∙ chosen_with (is_at (key_cmp q) k) e (lookup (is_at (key_cmp q)) es) (lookup (is_at (key_cmp q)) (chosen f es)) (lookup-chosen q es h)
      ∙ sym (lookup-put q k (f e) (chosen f es) before))

  or_none : (o : Option Entry) → f no_entry ≡ None → f (unwrap_or o no_entry) ≡ option_and_then f o
  or_none None none = none
  or_none (Some e) none = refl

  -- what the entry of a key has, where it is none of a key without one
  pub chosen-known_at : (es : CacheEntries) (k : Key) → f no_entry ≡ None → HasRisingKeys key_cmp es → f (known_at es k) ≡ lookup (is_at (key_cmp k)) (chosen f es)
  chosen-known_at es k none h = or_none (lookup (is_at (key_cmp k)) es) none ∙ sym (lookup-chosen k es h)
