-- what a cache's entries come to, and what writes make of a cache
use Rattle.std.proofs.Common.{◌≡◌, ℕ, Bool, true, false, cond, ◌||◌, List, [], ◌∷◌, ◌++◌, Option, None, Some, option_and_then, refl, sym, ap, ap₂, ◌∙◌, subst}
use Rattle.std.specs.BTreeMap.{is_at}
use Rattle.std.specs.List.{AllByRecursion, list_any}
use Rattle.std.specs.Map.{lookup}
use Rattle.swss_types.proofs.Truths.{or_none}
use Rattle.table_schema.specs.Fields.{Pairs}
use Rattle.table_schema.specs.Key.{key_cmp}
use Rattle.table_schema.specs.Rows.{Rows, after_writes, fields_at, rows_of}
use Rattle.table_schema.specs.declared.key.Key.{Key}
use Rattle.table_schema.specs.declared.write.Write.{Write}
use Rattle.table_schema.specs.declared.write.Write.TheVariants.{Set, Del}
use Rattle.table_schema.proofs.RowLists.{HasRisingRows-rows_of}
use Rattle.producer_table.specs.Pending.{has_write, is_write_of}
use Rattle.producer_table.proofs.Found.{each-found}
use Rattle.producer_table.proofs.RowWrites.{after_writes-append}
use Rattle.app_restart.specs.Cached.{Cached, cache_after, cache_after_all, cache_restored, state_at, state_by}
use Rattle.app_restart.specs.Entry.{CacheEntries, IsCacheInOrder, kept_in, row_since, sent_in}
use Rattle.app_restart.specs.Reconcile.{IsReconciled, differences, reconcile}
use Rattle.app_restart.specs.TableName.{AreOn, is_on, rows_of_table, table_name, key_of_write}
use Rattle.app_restart.specs.declared.entry.Entry.{Entry}
use Rattle.app_restart.proofs.Chosen.{HasRisingKeys-chosen, lookup-chosen}
use Rattle.app_restart.proofs.Differences.{HasNames}
use Rattle.app_restart.proofs.Reconciling.{AreToReconcile, apart, names-rows_of, reconciled-by_key, reconciled-rows, to-reconcile}
use Rattle.app_restart.proofs.Unions.{any-insert_key}

-- ---- entries

abbrev sent : Entry → Option Pairs
sent e = row_since e.since

names-found : (es : CacheEntries) (q : Key) → AllByRecursion (λ e. HasNames (sent e.1)) es → HasNames (option_and_then sent (lookup (is_at (key_cmp q)) es))
names-found es q h =
    let found = each-found (λ (e : Entry). HasNames (sent e)) (is_at (key_cmp q)) es in
    elim (lookup (is_at (key_cmp q)) es) as (λ o. ((v : Entry) → AllByRecursion (λ e. HasNames (sent e.1)) es → o ≡ Some v → HasNames (sent v)) → HasNames (option_and_then sent o)) [ None ↦ λ f. tt | Some v ↦ λ f. f v h refl ] found

none_off : (table : List ℕ) (es : CacheEntries) (q : Key) → AllByRecursion (λ e. table_name e.0 ≡ table) es → is_on table q ≡ false → lookup (is_at (key_cmp q)) es ≡ None
none_off table [] q on off = refl
none_off table (e ∷ es) q on off = ap (λ b. cond b (Some e.1) (lookup (is_at (key_cmp q)) es)) (apart table q e.0 off on.0) ∙ none_off table es q on.1 off

-- behind writes that leave the table the rows that are kept, the differences leave it those that were sent
pub finished : (table : List ℕ) (es : CacheEntries) (before : List Write) → IsCacheInOrder table es → rows_of_table table (rows_of before) ≡ kept_in es → IsReconciled table (rows_of before) (sent_in es) (rows_of (before ++ differences (kept_in es) (sent_in es)))
finished table es before h kept =
    let lookups = λ (q : Key). lookup-chosen sent q es h.rising in
    let toward : AreToReconcile table (rows_of before) (kept_in es) (sent_in es) = record {
      rising = HasRisingRows-rows_of before;
      rising_new = HasRisingKeys-chosen sent es h.rising;
      old_is = kept;
      names = names-rows_of before;
      names_new = λ q. subst HasNames (sym (lookups q)) (names-found es q h.names);
      on = λ q off. lookups q ∙ ap (option_and_then sent) (none_off table es q h.keys off);
    } in
    subst (IsReconciled table (rows_of before) (sent_in es)) (sym (after_writes-append [] before (differences (kept_in es) (sent_in es)))) (reconciled-rows table (rows_of before) (kept_in es) (sent_in es) toward)

-- ---- writes

pub reconciled-writes : (rows : Rows) (table : List ℕ) (writes before : List Write) → AreOn table writes → rows_of before ≡ rows → IsReconciled table rows (rows_of writes) (rows_of (before ++ reconcile rows table writes))
reconciled-writes rows table writes before on is =
    let old = rows_of_table table (rows_of before) in
    let done : IsReconciled table (rows_of before) (rows_of writes) (rows_of (before ++ reconcile (rows_of before) table writes)) =
    subst (IsReconciled table (rows_of before) (rows_of writes)) (sym (after_writes-append [] before (differences old (rows_of writes)))) (reconciled-rows table (rows_of before) old (rows_of writes) (to-reconcile before table writes on)) in
    subst (λ r. IsReconciled table r (rows_of writes) (rows_of (before ++ reconcile r table writes))) is done

pub fields_at-reconciled : (rows : Rows) (table : List ℕ) (writes before : List Write) (q : Key) → AreOn table writes → rows_of before ≡ rows → fields_at (rows_of (before ++ reconcile rows table writes)) q ≡ cond (is_on table q) (fields_at (rows_of writes) q) (fields_at rows q)
fields_at-reconciled rows table writes before q on is =
    let old = rows_of_table table (rows_of before) in
    let done : fields_at (rows_of (before ++ reconcile (rows_of before) table writes)) q ≡ cond (is_on table q) (fields_at (rows_of writes) q) (fields_at (rows_of before) q) =
    ap (λ r. fields_at r q) (after_writes-append [] before (differences old (rows_of writes))) ∙ reconciled-by_key table (rows_of before) old (rows_of writes) (to-reconcile before table writes on) q in
    subst (λ r. fields_at (rows_of (before ++ reconcile r table writes)) q ≡ cond (is_on table q) (fields_at (rows_of writes) q) (fields_at r q)) is done

-- ---- a cache after writes

kept-after_all : (c : Cached) (ws : List Write) → (cache_after_all c ws).kept ≡ c.kept
kept-after_all c [] = refl
kept-after_all c (w ∷ ws) = kept-after_all (cache_after c w) ws

sent-after_all : (c : Cached) (ws : List Write) → (cache_after_all c ws).sent ≡ after_writes c.sent ws
sent-after_all c [] = refl
sent-after_all c (w ∷ ws) = sent-after_all (cache_after c w) ws

or_rotated : (a b c : Bool) → ((a || b) || c) ≡ (b || (a || c))
or_rotated true true c = refl
or_rotated true false c = refl
or_rotated false b c = refl

is_write_of-key : (q : Key) (w : Write) → is_write_of q w ≡ is_at (key_cmp q) (key_of_write w)
is_write_of-key q (Set k fields) = refl
is_write_of-key q (Del k) = refl

written-after_all : (q : Key) (c : Cached) (ws : List Write) → list_any (is_at (key_cmp q)) (cache_after_all c ws).written ≡ (list_any (is_at (key_cmp q)) c.written || has_write q ws)
written-after_all q c [] = sym (or_none (list_any (is_at (key_cmp q)) c.written))
written-after_all q c (w ∷ ws) =
    let was = list_any (is_at (key_cmp q)) c.written in
    written-after_all q (cache_after c w) ws
    ∙ ap (λ b. b || has_write q ws) (any-insert_key (is_at (key_cmp q)) c.written (key_of_write w))
    ∙ or_rotated (is_at (key_cmp q) (key_of_write w)) was (has_write q ws)
    ∙ ap (λ b. was || (b || has_write q ws)) (sym (is_write_of-key q w))

pub kept-writes : (table : List ℕ) (rows : Rows) (ws : List Write) → (cache_after_all (cache_restored table rows) ws).kept ≡ rows_of_table table rows
kept-writes table rows ws = kept-after_all (cache_restored table rows) ws

pub sent-writes : (table : List ℕ) (rows : Rows) (ws : List Write) → (cache_after_all (cache_restored table rows) ws).sent ≡ rows_of ws
sent-writes table rows ws = sent-after_all (cache_restored table rows) ws

pub differences-writes : (table : List ℕ) (rows : Rows) (ws : List Write) → differences (cache_after_all (cache_restored table rows) ws).kept (cache_after_all (cache_restored table rows) ws).sent ≡ reconcile rows table ws
differences-writes table rows ws = ap₂ differences (kept-writes table rows ws) (sent-writes table rows ws)

pub cache_after_all-more : (c : Cached) (ws : List Write) (w : Write) → cache_after_all c (ws ++ w ∷ []) ≡ cache_after (cache_after_all c ws) w
cache_after_all-more c [] w = refl
cache_after_all-more c (v ∷ ws) w = cache_after_all-more (cache_after c v) ws w

pub state_at-writes : (table : List ℕ) (rows : Rows) (ws : List Write) (q : Key) → state_at (cache_after_all (cache_restored table rows) ws) q ≡ state_by (fields_at (rows_of_table table rows) q) (has_write q ws) (fields_at (rows_of ws) q)
state_at-writes table rows ws q =
    let c = cache_after_all (cache_restored table rows) ws in
    ap (λ r. state_by (fields_at r q) (list_any (is_at (key_cmp q)) c.written) (fields_at c.sent q)) (kept-writes table rows ws)
    ∙ ap (λ b. state_by (fields_at (rows_of_table table rows) q) b (fields_at c.sent q)) (written-after_all q (cache_restored table rows) ws)
    ∙ ap (λ r. state_by (fields_at (rows_of_table table rows) q) (has_write q ws) (fields_at r q)) (sent-writes table rows ws)
