-- entries after a write, and how their keys stand
use Rattle.std.proofs.Common.{◌≡◌, Bool, true, false, List, ℕ, [], ◌∷◌, Option, None, Some, unwrap_or, is_some, option_and_then, Result, Ok, Err, OnOk, refl, ap, ◌∙◌}
use Rattle.std.specs.declared.cmp.Ordering.TheVariants.{Less, Equal, Greater}
use Rattle.std.specs.Ordering.{match_ordering}
use Rattle.std.specs.BTreeMap.{insert_entry, is_at}
use Rattle.std.specs.BTreeSet.{insert_key}
use Rattle.std.specs.List.{AllByRecursion, list_any}
use Rattle.std.specs.Map.{keys_of, lookup}
use Rattle.table_schema.specs.Fields.{HasRisingKeys, HasRisingNames, Pairs, merged}
use Rattle.table_schema.specs.Key.{key_cmp}
use Rattle.table_schema.specs.Rows.{after_write, fields_at}
use Rattle.table_schema.specs.declared.key.Key.{Key}
use Rattle.table_schema.specs.declared.write.Write.{Write}
use Rattle.table_schema.specs.declared.write.Write.TheVariants.{Set, Del}
use Rattle.table_schema.proofs.Keys.{key_total}
use Rattle.table_schema.proofs.LastValues.{HasRisingNames-merged}
use Rattle.table_schema.proofs.Places.{HasRisingKeys-insert_entry}
use Rattle.producer_table.proofs.Found.{each-found, each-put}
use Rattle.app_restart.specs.Cached.{cache_after, state_at, state_by}
use Rattle.app_restart.specs.Entry.{CacheEntries, IsCacheInOrder, cached_in, chosen, entries_after, entry_after, known_at, entry_state, is_written, kept_in, no_entry, row_since, sent_in, since_after, written_at, written_if, written_keys_in}
use Rattle.app_restart.specs.TableName.{table_name, key_of_write}
use Rattle.app_restart.specs.declared.entry.Entry.{Entry}
use Rattle.app_restart.specs.declared.entry.Since.{Since}
use Rattle.app_restart.proofs.Chosen.{HasRisingKeys-chosen, any-keys_of, chosen-known_at, chosen-insert_entry, keys_of-insert_entry, lookup-chosen, put, put-same}

-- what holds on success, and what follows of it
pub on_ok : {T E P Q : Type 0} (r : Result T E) → (P → Q) → OnOk r P → OnOk r Q
on_ok (Ok x) f h = f h
on_ok (Err e) f h = tt

-- ---- one write more

module _ (es : CacheEntries) (h : HasRisingKeys key_cmp es) where
  kept-after : (w : Write) → kept_in (entries_after es w) ≡ kept_in es
  kept-after w =
      let k = key_of_write w in
      let kept : Entry → Option Pairs = λ e. e.kept in
      chosen-insert_entry kept es k (entry_after (known_at es k) w) h
      ∙ ap (λ o. put k o (kept_in es)) (chosen-known_at kept es k refl h)
      ∙ put-same k (kept_in es) (HasRisingKeys-chosen kept es h)

  sent-after : (w : Write) → sent_in (entries_after es w) ≡ after_write (sent_in es) w
  sent-after (Set k fields) =
      let sent : Entry → Option Pairs = λ e. row_since e.since in
      chosen-insert_entry sent es k (entry_after (known_at es k) (Set k fields)) h
      ∙ ap (λ (o : Option Pairs). insert_entry key_cmp (sent_in es) k (merged (unwrap_or o []) fields)) (chosen-known_at sent es k refl h)
  sent-after (Del k) = chosen-insert_entry (λ e. row_since e.since) es k (entry_after (known_at es k) (Del k)) h

  written-after : (w : Write) → written_keys_in (entries_after es w) ≡ insert_key key_cmp (written_keys_in es) (key_of_write w)
  written-after (Set k fields) = ap keys_of (chosen-insert_entry written_at es k (entry_after (known_at es k) (Set k fields)) h) ∙ keys_of-insert_entry (chosen written_at es) k tt
  written-after (Del k) = ap keys_of (chosen-insert_entry written_at es k (entry_after (known_at es k) (Del k)) h) ∙ keys_of-insert_entry (chosen written_at es) k tt

  pub cached-after : (table : List ℕ) (w : Write) → cached_in table (entries_after es w) ≡ cache_after (cached_in table es) w
  cached-after table w =
      let more = entries_after es w in
      ap (λ k. record { table = table; kept = k; written = written_keys_in more; sent = sent_in more }) (kept-after w)
      ∙ ap (λ l. record { table = table; kept = kept_in es; written = l; sent = sent_in more }) (written-after w)
      ∙ ap (λ s. record { table = table; kept = kept_in es; written = insert_key key_cmp (written_keys_in es) (key_of_write w); sent = s }) (sent-after w)

-- ---- the order stays

keys-put : (P : Key → Type 0) (es : CacheEntries) (k : Key) (v : Entry) → P k → AllByRecursion (λ e. P e.0) es → AllByRecursion (λ e. P e.0) (insert_entry key_cmp es k v)
keys-put P [] k v here h = (here, tt)
keys-put P (e ∷ es) k v here h =
    let rest = keys-put P es k v here h.1 in
    elim (key_cmp k e.0) as (λ r. AllByRecursion (λ e. P e.0) (match_ordering r ((k, v) ∷ e ∷ es) ((e.0, v) ∷ es) (e ∷ insert_entry key_cmp es k v))) [ Less ↦ (here, h) | Equal ↦ h | Greater ↦ (h.0, rest) ]

abbrev HasNames : Entry → Type 0
HasNames e = HasRisingNames (unwrap_or (row_since e.since) [])

names-since_after : (s : Since) (w : Write) → HasRisingNames (unwrap_or (row_since s) []) → HasRisingNames (unwrap_or (row_since (since_after s w)) [])
names-since_after s (Set k fields) h = HasRisingNames-merged (unwrap_or (row_since s) []) fields h
names-since_after s (Del k) h = tt

names-known_at : (es : CacheEntries) (k : Key) → AllByRecursion (λ e. HasNames e.1) es → HasNames (known_at es k)
names-known_at es k h =
    let found = each-found HasNames (is_at (key_cmp k)) es in
    elim (lookup (is_at (key_cmp k)) es) as (λ o. ((v : Entry) → AllByRecursion (λ e. HasNames e.1) es → o ≡ Some v → HasNames v) → HasNames (unwrap_or o no_entry)) [ None ↦ λ f. tt | Some v ↦ λ f. f v h refl ] found

pub IsCacheInOrder-after : (table : List ℕ) (es : CacheEntries) (w : Write) → table_name (key_of_write w) ≡ table → IsCacheInOrder table es → IsCacheInOrder table (entries_after es w)
IsCacheInOrder-after table es w on h =
    let k = key_of_write w in
    let e = known_at es k in
    record {
      rising = HasRisingKeys-insert_entry key_cmp key_total es k (entry_after e w) h.rising;
      keys = keys-put (λ k. table_name k ≡ table) es k (entry_after e w) on h.keys;
      names = each-put HasNames key_cmp es k (entry_after e w) (names-since_after e.since w (names-known_at es k h.names)) h.names;
    }

-- ---- how a key stands

told : (kept sent : Option Pairs) (b : Bool) → state_by kept (is_some (written_if b)) sent ≡ state_by kept b sent
told kept sent true = refl
told kept sent false = refl

state-found : (o : Option Entry) → state_by (option_and_then (λ e. e.kept) o) (is_some (option_and_then written_at o)) (option_and_then (λ e. row_since e.since) o) ≡ option_and_then entry_state o
state-found None = refl
state-found (Some e) = told e.kept (row_since e.since) (is_written e.since)

pub state_at-cached : (table : List ℕ) (es : CacheEntries) (k : Key) → HasRisingKeys key_cmp es → state_at (cached_in table es) k ≡ option_and_then entry_state (lookup (is_at (key_cmp k)) es)
state_at-cached table es k h =
    let kept : Entry → Option Pairs = λ e. e.kept in
    let sent : Entry → Option Pairs = λ e. row_since e.since in
    let written = any-keys_of (is_at (key_cmp k)) (chosen written_at es) ∙ ap is_some (lookup-chosen written_at k es h) in
    ap (λ o. state_by o (list_any (is_at (key_cmp k)) (written_keys_in es)) (fields_at (sent_in es) k)) (lookup-chosen kept k es h)
    ∙ ap (λ b. state_by (option_and_then kept (lookup (is_at (key_cmp k)) es)) b (fields_at (sent_in es) k)) written
    ∙ ap (λ o. state_by (option_and_then kept (lookup (is_at (key_cmp k)) es)) (is_some (option_and_then written_at (lookup (is_at (key_cmp k)) es))) o) (lookup-chosen sent k es h)
    ∙ state-found (lookup (is_at (key_cmp k)) es)
