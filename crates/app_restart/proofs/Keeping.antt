-- the rows of a table, put into no entries
use Rattle.std.proofs.Common.{◌≡◌, Bool, true, false, cond, List, ℕ, [], ◌∷◌, unwrap_or, filter, refl, sym, ap, subst, ◌∙◌}
use Rattle.std.specs.declared.cmp.Ordering.{Ordering}
use Rattle.std.specs.declared.cmp.Ordering.TheVariants.{Less, Greater}
use Rattle.std.specs.Ordering.{ordering_reverse}
use Rattle.std.specs.BTreeMap.{insert_entry}
use Rattle.std.specs.List.{AllByRecursion, fold}
use Rattle.std.proofs.lemmas.Slice.Eq.{bytes_eq-Decides}
use Rattle.table_schema.specs.Fields.{HasRisingKeys, HasRisingNames, Pairs}
use Rattle.table_schema.specs.Key.{key_cmp}
use Rattle.table_schema.specs.Rows.{HasRisingRows, Rows}
use Rattle.table_schema.specs.declared.key.Key.{Key}
use Rattle.table_schema.proofs.Keys.{key_total}
use Rattle.table_schema.proofs.Places.{put_step}
use Rattle.app_restart.specs.Cached.{cache_restored}
use Rattle.app_restart.specs.Entry.{CacheEntries, IsCacheInOrder, cached_in, entries_with, kept_entry, kept_in, row_since, sent_in, written_keys_in}
use Rattle.app_restart.specs.TableName.{is_on, rows_of_table, table_name}
use Rattle.app_restart.specs.declared.entry.Entry.{Entry}

-- ---- rows that a test of their keys parts

above-filter : (k : Key) (p : Key → Bool) (rows : Rows) → AllByRecursion (λ e. key_cmp k e.0 ≡ Less) rows → AllByRecursion (λ e. key_cmp k e.0 ≡ Less) (filter (λ row. p row.0) rows)
above-filter k p [] h = tt
above-filter k p (row ∷ rows) h =
    let rest = above-filter k p rows h.1 in
    elim (p row.0) as (λ b. AllByRecursion (λ e. key_cmp k e.0 ≡ Less) (cond b (row ∷ filter (λ row. p row.0) rows) (filter (λ row. p row.0) rows))) [ true ↦ (h.0, rest) | false ↦ rest ]

pub HasRisingRows-filter : (p : Key → Bool) (rows : Rows) → HasRisingRows rows → HasRisingRows (filter (λ row. p row.0) rows)
HasRisingRows-filter p [] h = tt
HasRisingRows-filter p (row ∷ rows) h =
    let above = above-filter row.0 p rows h.0 in
    let rest = HasRisingRows-filter p rows h.1 in
    elim (p row.0) as (λ b. HasRisingRows (cond b (row ∷ filter (λ row. p row.0) rows) (filter (λ row. p row.0) rows))) [ true ↦ (above, rest) | false ↦ rest ]

-- the rows of a table are of it
pub on-rows_of_table : (table : List ℕ) (rows : Rows) → AllByRecursion (λ row. table_name row.0 ≡ table) (rows_of_table table rows)
on-rows_of_table table [] = tt
on-rows_of_table table (row ∷ rows) =
    let here = (bytes_eq-Decides (table_name row.0) table).0 in
    let rest = on-rows_of_table table rows in
    let by : (b : Bool) → (b ≡ true → table_name row.0 ≡ table) → AllByRecursion (λ row. table_name row.0 ≡ table) (cond b (row ∷ rows_of_table table rows) (rows_of_table table rows)) =
    λ b. elim b as (λ b. (b ≡ true → table_name row.0 ≡ table) → AllByRecursion (λ row. table_name row.0 ≡ table) (cond b (row ∷ rows_of_table table rows) (rows_of_table table rows))) [ true ↦ λ is. (is refl, rest) | false ↦ λ is. rest ] in
    by (is_on table row.0) here

-- ---- rows that are kept one after the other

abbrev pub with_kept : CacheEntries → Key × Pairs → CacheEntries
with_kept es row = insert_entry key_cmp es row.0 (kept_entry row.1)

abbrev kept_each : Rows → CacheEntries
kept_each [] = []
kept_each (row ∷ rows) = (row.0, kept_entry row.1) ∷ kept_each rows

turned : (a b : Key) (r : Ordering) → key_cmp a b ≡ r → key_cmp b a ≡ ordering_reverse r
turned a b r h = key_total.antisymm b a ∙ ap ordering_reverse h

-- an entry whose key is below all others stays in front
fold-past : (x : Key × Entry) (xs : CacheEntries) (rows : Rows) → AllByRecursion (λ y. key_cmp x.0 y.0 ≡ Less) rows → fold with_kept (x ∷ xs) rows ≡ x ∷ fold with_kept xs rows
fold-past x xs [] h = refl
fold-past x xs (row ∷ rows) h =
    ap (λ l. fold with_kept l rows) (put_step key_cmp x xs row.0 (kept_entry row.1) Greater (turned x.0 row.0 Less h.0)) ∙ fold-past x (with_kept xs row) rows h.1

fold-rising : (rows : Rows) → HasRisingRows rows → fold with_kept [] rows ≡ kept_each rows
fold-rising [] h = refl
fold-rising (row ∷ rows) h = fold-past (row.0, kept_entry row.1) [] rows h.0 ∙ ap (λ l. (row.0, kept_entry row.1) ∷ l) (fold-rising rows h.1)

kept-each : (rows : Rows) → kept_in (kept_each rows) ≡ rows
kept-each [] = refl
kept-each (row ∷ rows) = ap (λ l. row ∷ l) (kept-each rows)

sent-each : (rows : Rows) → sent_in (kept_each rows) ≡ []
sent-each [] = refl
sent-each (row ∷ rows) = sent-each rows

written-each : (rows : Rows) → written_keys_in (kept_each rows) ≡ []
written-each [] = refl
written-each (row ∷ rows) = written-each rows

above-each : (k : Key) (rows : Rows) → AllByRecursion (λ row. key_cmp k row.0 ≡ Less) rows → AllByRecursion (λ e. key_cmp k e.0 ≡ Less) (kept_each rows)
above-each k [] h = tt
above-each k (row ∷ rows) h = (h.0, above-each k rows h.1)

rising-each : (rows : Rows) → HasRisingRows rows → HasRisingKeys key_cmp (kept_each rows)
rising-each [] h = tt
rising-each (row ∷ rows) h = (above-each row.0 rows h.0, rising-each rows h.1)

keys-each : (table : List ℕ) (rows : Rows) → AllByRecursion (λ row. table_name row.0 ≡ table) rows → AllByRecursion (λ e. table_name e.0 ≡ table) (kept_each rows)
keys-each table [] h = tt
keys-each table (row ∷ rows) h = (h.0, keys-each table rows h.1)

names-each : (rows : Rows) → AllByRecursion (λ e. HasRisingNames (unwrap_or (row_since e.1.since) [])) (kept_each rows)
names-each [] = tt
names-each (row ∷ rows) = (tt, names-each rows)

-- the entries of a table's rows
entries-kept : (table : List ℕ) (rows : Rows) → HasRisingRows rows → entries_with table [] rows ≡ kept_each (rows_of_table table rows)
entries-kept table rows h = fold-rising (rows_of_table table rows) (HasRisingRows-filter (is_on table) rows h)

pub cached-kept : (table : List ℕ) (rows : Rows) → HasRisingRows rows → cached_in table (entries_with table [] rows) ≡ cache_restored table rows
cached-kept table rows h =
    let on = rows_of_table table rows in
    ap (cached_in table) (entries-kept table rows h)
    ∙ ap (λ k. record { table = table; kept = k; written = written_keys_in (kept_each on); sent = sent_in (kept_each on) }) (kept-each on)
    ∙ ap (λ w. record { table = table; kept = on; written = w; sent = sent_in (kept_each on) }) (written-each on)
    ∙ ap (λ s. record { table = table; kept = on; written = []; sent = s }) (sent-each on)

pub IsCacheInOrder-kept : (table : List ℕ) (rows : Rows) → HasRisingRows rows → IsCacheInOrder table (entries_with table [] rows)
IsCacheInOrder-kept table rows h =
    let on = rows_of_table table rows in
    subst (IsCacheInOrder table) (sym (entries-kept table rows h)) (record { rising = rising-each on (HasRisingRows-filter (is_on table) rows h); keys = keys-each table on (on-rows_of_table table rows); names = names-each on })
