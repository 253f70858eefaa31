-- What a cache holds of a producer's rows over its restart.
use Rattle.std.specs.Prelude.{Bool, true, false, ℕ, List, [], ◌∷◌, Option, Some, None, if◌then◌else◌}
use Rattle.std.specs.BTreeMap.{is_at}
use Rattle.std.specs.BTreeSet.{insert_key}
use Rattle.std.specs.List.{list_any}
use Rattle.table_schema.specs.Fields.{Pairs}
use Rattle.table_schema.specs.Key.{key_cmp}
use Rattle.table_schema.specs.Rows.{Rows, after_write, fields_at}
use Rattle.table_schema.specs.declared.key.Key.{Key}
use Rattle.table_schema.specs.declared.write.Write.{Write}
use Rattle.app_restart.specs.Difference.{are_equal}
use Rattle.app_restart.specs.TableName.{rows_of_table, key_of_write}
use Rattle.app_restart.specs.declared.state.CacheState.{CacheState}
use Rattle.app_restart.specs.declared.state.CacheState.TheVariants.{Stale, Same, New, Deleted}

-- the name of a table, its rows that were kept, the keys that were written since, in key order, and the rows that these writes come to
pub record Cached : Type 0 where
  pub table : List ℕ
  pub kept : Rows
  pub written : List Key
  pub sent : Rows

-- the rows of a table are kept, and nothing was written since
abbrev pub cache_restored : List ℕ → Rows → Cached
cache_restored table rows = record { table = table; kept = rows_of_table table rows; written = []; sent = [] }

abbrev pub cache_after : Cached → Write → Cached
cache_after c w = record { table = c.table; kept = c.kept; written = insert_key key_cmp c.written (key_of_write w); sent = after_write c.sent w }

abbrev pub cache_after_all : Cached → List Write → Cached
cache_after_all c [] = c
cache_after_all c (w ∷ ws) = cache_after_all (cache_after c w) ws

-- how a key stands, by its row that was kept, whether it was written since, and the row that was sent
abbrev pub state_by : Option Pairs → Bool → Option Pairs → Option CacheState
state_by None false sent = None
state_by (Some kept) false sent = Some Stale
state_by kept true None = Some Deleted
state_by None true (Some sent) = Some New
state_by (Some kept) true (Some sent) = Some (if are_equal kept sent then Same else New)

abbrev pub state_at : Cached → Key → Option CacheState
state_at c key = state_by (fields_at c.kept key) (list_any (is_at (key_cmp key)) c.written) (fields_at c.sent key)
