-- what reconciliation makes of rows
use Rattle.std.proofs.Common.{◌≡◌, ◌≢◌, ◌⊎◌, inl, inr, ℕ, Bool, true, false, cond, not, ◌||◌, List, [], ◌∷◌, ◌++◌, Option, None, Some, filter, is_some, unwrap_or, refl, sym, ap, ◌∙◌, subst, true≢false}
use Rattle.std.specs.BTreeMap.{is_at}
use Rattle.std.specs.List.{AllByRecursion, flat_map, list_any}
use Rattle.std.proofs.lemmas.Map.Entries.{lookup-filter-keys}
use Rattle.std.proofs.lemmas.Slice.Eq.{bytes_eq-Decides}
use Rattle.table_schema.specs.Key.{key_cmp}
use Rattle.table_schema.specs.Fields.{Pairs, merged}
use Rattle.table_schema.specs.Rows.{HasRisingRows, Rows, after_writes, fields_at, rows_of}
use Rattle.table_schema.specs.declared.key.Key.{Key}
use Rattle.table_schema.specs.declared.write.Write.{Write}
use Rattle.table_schema.specs.declared.write.Write.TheVariants.{Set, Del}
use Rattle.table_schema.proofs.Keys.{key_exact, key_total, tied_keys_same}
use Rattle.table_schema.proofs.RowLists.{HasRisingRows-after_writes, HasRisingRows-rows_of}
use Rattle.producer_table.proofs.Found.{same_entries}
use Rattle.producer_table.proofs.RowWrites.{row_after}
use Rattle.app_restart.specs.Difference.{difference}
use Rattle.app_restart.specs.Reconcile.{AreOfOtherRows, IsReconciled, differences, keys_of_both}
use Rattle.app_restart.specs.TableName.{AreOn, is_on, rows_elsewhere, rows_of_table, table_name, key_of_write}
use Rattle.app_restart.proofs.Differences.{HasNames, difference-away, difference-differs, difference-here, fields_at-after_writes, names-after_all, row_after_all, row_after_all-append}
use Rattle.app_restart.proofs.Keeping.{HasRisingRows-filter}
use Rattle.app_restart.proofs.Unions.{any-keys_of_both}

split : {P : Type 0} (b : Bool) → (b ≡ true → P) → (b ≡ false → P) → P
split true is not = is refl
split false is not = not refl

-- ---- the differences over keys, seen from one key

module _ (old new : Rows) (q : Key) where
  abbrev at : Key → List Write
  at k = difference k (fields_at old k) (fields_at new k)

  -- one key more
  one_more : (k : Key) (ks : List Key) (row : Option Pairs) → row_after_all q (flat_map at (k ∷ ks)) row ≡ row_after_all q (flat_map at ks) (row_after_all q (at k) row)
  one_more k ks row = row_after_all-append q (at k) (flat_map at ks) row

  -- the differences of a key that has none leave any row
  untouched : at q ≡ [] → (ks : List Key) (row : Option Pairs) → row_after_all q (flat_map at ks) row ≡ row
  untouched none [] row = refl
  untouched none (k ∷ ks) row =
      let first : row_after_all q (at k) row ≡ row =
      split (is_at (key_cmp q) k) (λ here. ap (λ ws. row_after_all q ws row) (ap at (sym (tied_keys_same q k here)) ∙ none)) (λ away. difference-away q k (fields_at old k) (fields_at new k) row away) in
      one_more k ks row ∙ ap (row_after_all q (flat_map at ks)) first ∙ untouched none ks row

  module _ (ho : HasNames (fields_at old q)) (hn : HasNames (fields_at new q)) where
    here : (k : Key) (row : Option Pairs) → is_at (key_cmp q) k ≡ true → (row ≡ fields_at old q) ⊎ (row ≡ fields_at new q) → row_after_all q (at k) row ≡ fields_at new q
    here k row is from = ap (λ j. row_after_all q (at j) row) (sym (tied_keys_same q k is)) ∙ difference-here q (fields_at old q) (fields_at new q) row ho hn from

    -- the new row stays
    stays : (ks : List Key) (row : Option Pairs) → row ≡ fields_at new q → row_after_all q (flat_map at ks) row ≡ fields_at new q
    stays [] row is = is
    stays (k ∷ ks) row is =
        let first : row_after_all q (at k) row ≡ fields_at new q =
        split (is_at (key_cmp q) k) (λ tied. here k row tied (inr is)) (λ away. difference-away q k (fields_at old k) (fields_at new k) row away ∙ is) in
        one_more k ks row ∙ stays ks (row_after_all q (at k) row) first

    -- the old row becomes the new one where the key is among these
    reached : (ks : List Key) (row : Option Pairs) → list_any (is_at (key_cmp q)) ks ≡ true → row ≡ fields_at old q → row_after_all q (flat_map at ks) row ≡ fields_at new q
    reached [] row among is = absurd cc
    reached (k ∷ ks) row among is =
        one_more k ks row
        ∙ split (is_at (key_cmp q) k)
        (λ tied. stays ks (row_after_all q (at k) row) (here k row tied (inl is)))
        (λ away. reached ks (row_after_all q (at k) row) (ap (λ b. b || list_any (is_at (key_cmp q)) ks) (sym away) ∙ among) (difference-away q k (fields_at old k) (fields_at new k) row away ∙ is))

    none_here : (o n : Option Pairs) → (is_some o || is_some n) ≡ false → o ≡ n
    none_here None None none = refl
    none_here None (Some v) none = absurd cc
    none_here (Some v) n none = absurd cc

    -- the old row becomes the new one
    brought : (row : Option Pairs) → row ≡ fields_at old q → row_after_all q (differences old new) row ≡ fields_at new q
    brought row is =
        split (list_any (is_at (key_cmp q)) (keys_of_both old new))
        (λ among. reached (keys_of_both old new) row among is)
        (λ none. stays (keys_of_both old new) row (is ∙ none_here (fields_at old q) (fields_at new q) (sym (any-keys_of_both q old new) ∙ none)))

-- ---- the rows of a table

on_at : (p : Key → Bool) (rows : Rows) (q : Key) → fields_at (filter (λ row. p row.0) rows) q ≡ cond (p q) (fields_at rows q) None
on_at p rows q = lookup-filter-keys (is_at (key_cmp q)) p (p q) (λ k tied. ap p (sym (tied_keys_same q k tied))) rows

-- rows that a table had, those that it is to have, and all rows before
pub record AreToReconcile (table : List ℕ) (before old new : Rows) : Type 0 where
  pub rising : HasRisingRows before
  pub rising_new : HasRisingRows new
  pub old_is : rows_of_table table before ≡ old
  pub names : (q : Key) → HasNames (fields_at before q)
  pub names_new : (q : Key) → HasNames (fields_at new q)
  pub on : (q : Key) → is_on table q ≡ false → fields_at new q ≡ None

module _ (table : List ℕ) (before old new : Rows) (h : AreToReconcile table before old new) where
  abbrev after : Rows
  after = after_writes before (differences old new)

  old_at : (q : Key) (b : Bool) → is_on table q ≡ b → fields_at old q ≡ cond b (fields_at before q) None
  old_at q b is = ap (λ rows. fields_at rows q) (sym h.old_is) ∙ on_at (is_on table) before q ∙ ap (λ b. cond b (fields_at before q) None) is

  by_key : (q : Key) (b : Bool) → is_on table q ≡ b → fields_at after q ≡ cond b (fields_at new q) (fields_at before q)
  by_key q true is =
      let same : fields_at old q ≡ fields_at before q = old_at q true is in
      fields_at-after_writes before (differences old new) q h.rising
      ∙ brought old new q (subst HasNames (sym same) (h.names q)) (h.names_new q) (fields_at before q) (sym same)
  by_key q false is =
      fields_at-after_writes before (differences old new) q h.rising
      ∙ untouched old new q (ap (λ o. difference q o (fields_at new q)) (old_at q false is) ∙ ap (difference q None) (h.on q is)) (keys_of_both old new) (fields_at before q)

  -- the row of each key
  pub reconciled-by_key : (q : Key) → fields_at after q ≡ cond (is_on table q) (fields_at new q) (fields_at before q)
  reconciled-by_key q = by_key q (is_on table q) refl

  there_at : (q : Key) (b : Bool) → is_on table q ≡ b → cond b (cond b (fields_at new q) (fields_at before q)) None ≡ fields_at new q
  there_at q true is = refl
  there_at q false is = sym (h.on q is)

  elsewhere_at : (b : Bool) (x y : Option Pairs) → cond (not b) (cond b x y) None ≡ cond (not b) y None
  elsewhere_at true x y = refl
  elsewhere_at false x y = refl

  pub reconciled-rows : IsReconciled table before new after
  reconciled-rows =
      let rising = HasRisingRows-after_writes before (differences old new) h.rising in
      let off : Key → Bool = λ k. not (is_on table k) in
      record {
        there = same_entries key_cmp key_total key_exact (rows_of_table table after) new (HasRisingRows-filter (is_on table) after rising) h.rising_new
            (λ q. on_at (is_on table) after q ∙ ap (λ o. cond (is_on table q) o None) (reconciled-by_key q) ∙ there_at q (is_on table q) refl);
        elsewhere = same_entries key_cmp key_total key_exact (rows_elsewhere table after) (rows_elsewhere table before) (HasRisingRows-filter off after rising) (HasRisingRows-filter off before h.rising)
            (λ q. on_at off after q ∙ ap (λ o. cond (off q) o None) (reconciled-by_key q) ∙ elsewhere_at (is_on table q) (fields_at new q) (fields_at before q) ∙ sym (on_at off before q));
      }

-- ---- writes

-- a key of another table is no key of this one
pub apart : (table : List ℕ) (q k : Key) → is_on table q ≡ false → table_name k ≡ table → is_at (key_cmp q) k ≡ false
apart table q k off on =
    split (is_at (key_cmp q) k)
    (λ tied. absurd (true≢false (sym ((bytes_eq-Decides (table_name q) table).1 (ap table_name (tied_keys_same q k tied) ∙ on)) ∙ off)))
    (λ away. away)

-- writes of a table leave the keys of other tables
away_from : (q : Key) (table : List ℕ) (w : Write) (row : Option Pairs) → is_on table q ≡ false → table_name (key_of_write w) ≡ table → row_after q w row ≡ row
away_from q table (Set k fields) row off on = ap (λ c. cond c (Some (merged (unwrap_or row []) fields)) row) (apart table q k off on)
away_from q table (Del k) row off on = ap (λ c. cond c None row) (apart table q k off on)

off_after_all : (q : Key) (table : List ℕ) (ws : List Write) (row : Option Pairs) → is_on table q ≡ false → AreOn table ws → row_after_all q ws row ≡ row
off_after_all q table [] row off on = refl
off_after_all q table (w ∷ ws) row off on = ap (row_after_all q ws) (away_from q table w row off on.0) ∙ off_after_all q table ws row off on.1

pub names-rows_of : (ws : List Write) (q : Key) → HasNames (fields_at (rows_of ws) q)
names-rows_of ws q = subst HasNames (sym (fields_at-after_writes [] ws q tt)) (names-after_all q ws None tt)

pub off-rows_of : (table : List ℕ) (ws : List Write) (q : Key) → AreOn table ws → is_on table q ≡ false → fields_at (rows_of ws) q ≡ None
off-rows_of table ws q on off = fields_at-after_writes [] ws q tt ∙ off_after_all q table ws None off on

-- rows of writes, to be reconciled with those of writes of the table
pub to-reconcile : (before : List Write) (table : List ℕ) (writes : List Write) → AreOn table writes → AreToReconcile table (rows_of before) (rows_of_table table (rows_of before)) (rows_of writes)
to-reconcile before table writes on = record {
  rising = HasRisingRows-rows_of before;
  rising_new = HasRisingRows-rows_of writes;
  old_is = refl;
  names = names-rows_of before;
  names_new = names-rows_of writes;
  on = λ q off. off-rows_of table writes q on off;
}

-- ---- the keys of the writes

both-all : {X : Type 0} (P : X → Type 0) (xs ys : List X) → AllByRecursion P xs → AllByRecursion P ys → AllByRecursion P (xs ++ ys)
both-all P [] ys h g = g
both-all P (x ∷ xs) ys h g = (h.0, both-all P xs ys h.1 g)

flat-differ : (old new : Rows) (ks : List Key) → AreOfOtherRows old new (flat_map (λ k. difference k (fields_at old k) (fields_at new k)) ks)
flat-differ old new [] = tt
flat-differ old new (k ∷ ks) =
    both-all (λ w. fields_at old (key_of_write w) ≢ fields_at new (key_of_write w)) (difference k (fields_at old k) (fields_at new k)) (flat_map (λ k. difference k (fields_at old k) (fields_at new k)) ks)
    (difference-differs (λ k. fields_at old k ≢ fields_at new k) k (fields_at old k) (fields_at new k) (λ apart. apart)) (flat-differ old new ks)

pub differences-differ : (old new : Rows) → AreOfOtherRows old new (differences old new)
differences-differ old new = flat-differ old new (keys_of_both old new)
