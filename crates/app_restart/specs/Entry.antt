-- What a cache keeps of each key. Own.
use Rattle.std.specs.Prelude.{◌≡◌, Bool, true, false, ℕ, List, [], ◌∷◌, Option, Some, None, unwrap_or}
use Rattle.std.specs.BTreeMap.{insert_entry, is_at}
use Rattle.std.specs.List.{AllByRecursion, flat_map, fold}
use Rattle.std.specs.Map.{keys_of, lookup}
use Rattle.table_schema.specs.Fields.{Pairs, HasRisingKeys, HasRisingNames, merged}
use Rattle.table_schema.specs.Key.{key_cmp}
use Rattle.table_schema.specs.Rows.{Rows}
use Rattle.table_schema.specs.declared.key.Key.{Key}
use Rattle.table_schema.specs.declared.write.Write.{Write}
use Rattle.table_schema.specs.declared.write.Write.TheVariants as write
use Rattle.app_restart.specs.Cached.{Cached, state_by}
use Rattle.app_restart.specs.Difference.{difference}
use Rattle.app_restart.specs.TableName.{rows_of_table, table_name, key_of_write}
use Rattle.app_restart.specs.declared.entry.Entry.{Entry}
use Rattle.app_restart.specs.declared.entry.Since.{Since}
use Rattle.app_restart.specs.declared.entry.Since.TheVariants as since
use Rattle.app_restart.specs.declared.state.CacheState.{CacheState}

-- keys with what is known of them, in key order, each once
abbrev pub CacheEntries : Type 0
CacheEntries = List (Key × Entry)

-- the row that was sent
abbrev pub row_since : Since → Option Pairs
row_since since.Nothing = None
row_since since.Deleted = None
row_since (since.Row fields) = Some fields

abbrev pub is_written : Since → Bool
is_written since.Nothing = false
is_written since.Deleted = true
is_written (since.Row fields) = true

abbrev pub no_entry : Entry
no_entry = record { kept = None; since = since.Nothing }

abbrev pub kept_entry : Pairs → Entry
kept_entry fields = record { kept = Some fields; since = since.Nothing }

-- what was sent of a key, with fields laid over it
abbrev pub since_with : Since → Pairs → Since
since_with s fields = since.Row (merged (unwrap_or (row_since s) []) fields)

-- what was sent of a key after one write more
abbrev pub since_after : Since → Write → Since
since_after s (write.Set k fields) = since_with s fields
since_after s (write.Del k) = since.Deleted

abbrev pub entry_after : Entry → Write → Entry
entry_after e w = record { kept = e.kept; since = since_after e.since w }

abbrev pub entry_state : Entry → Option CacheState
entry_state e = state_by e.kept (is_written e.since) (row_since e.since)

abbrev pub known_at : CacheEntries → Key → Entry
known_at entries k = unwrap_or (lookup (is_at (key_cmp k)) entries) no_entry

abbrev pub entries_after : CacheEntries → Write → CacheEntries
entries_after entries w = insert_entry key_cmp entries (key_of_write w) (entry_after (known_at entries (key_of_write w)) w)

-- entries with those of a table's rows that are kept
abbrev pub entries_with : List ℕ → CacheEntries → Rows → CacheEntries
entries_with table entries rows = fold (λ es row. insert_entry key_cmp es row.0 (kept_entry row.1)) entries (rows_of_table table rows)

-- the writes of each key
abbrev pub differences_of : CacheEntries → List Write
differences_of entries = flat_map (λ e. difference e.0 e.1.kept (row_since e.1.since)) entries

-- the keys of which entries have something, with that
abbrev pub with_choice : {X : Type 0} → Key → Option X → List (Key × X) → List (Key × X)
with_choice k None others = others
with_choice k (Some x) others = (k, x) ∷ others

abbrev pub chosen : {X : Type 0} → (Entry → Option X) → CacheEntries → List (Key × X)
chosen f [] = []
chosen f (e ∷ es) = with_choice e.0 (f e.1) (chosen f es)

-- the rows that are kept
abbrev pub kept_in : CacheEntries → Rows
kept_in entries = chosen (λ e. e.kept) entries

-- the rows that were sent
abbrev pub sent_in : CacheEntries → Rows
sent_in entries = chosen (λ e. row_since e.since) entries

-- that a key was written
abbrev pub written_if : Bool → Option (Unit {0})
written_if true = Some tt
written_if false = None

abbrev pub written_at : Entry → Option (Unit {0})
written_at e = written_if (is_written e.since)

-- the keys that were written
abbrev pub written_keys_in : CacheEntries → List Key
written_keys_in entries = keys_of (chosen written_at entries)

-- what the entries of a table stand for
abbrev pub cached_in : List ℕ → CacheEntries → Cached
cached_in table entries = record { table = table; kept = kept_in entries; written = written_keys_in entries; sent = sent_in entries }

-- the keys rise and are of the table, and the names of each row that was sent rise
pub record IsCacheInOrder (table : List ℕ) (entries : CacheEntries) : Type 0 where
  pub rising : HasRisingKeys key_cmp entries
  pub keys : AllByRecursion (λ e. table_name e.0 ≡ table) entries
  pub names : AllByRecursion (λ e. HasRisingNames (unwrap_or (row_since e.1.since) [])) entries
