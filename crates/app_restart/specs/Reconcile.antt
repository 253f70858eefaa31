-- Reconciliation of a table whose producer restarted (SONiC's helper for application restarts): the producer sends its rows again, and what differs is written.
use Rattle.std.specs.Prelude.{◌≡◌, ◌≢◌, ℕ, List}
use Rattle.std.specs.BTreeSet.{insert_key}
use Rattle.std.specs.List.{AllByRecursion, flat_map, fold}
use Rattle.std.specs.Map.{keys_of}
use Rattle.table_schema.specs.Key.{key_cmp}
use Rattle.table_schema.specs.Rows.{Rows, fields_at, rows_of}
use Rattle.table_schema.specs.declared.key.Key.{Key}
use Rattle.table_schema.specs.declared.write.Write.{Write}
use Rattle.app_restart.specs.Difference.{difference}
use Rattle.app_restart.specs.TableName.{rows_elsewhere, rows_of_table, key_of_write}

-- the keys of rows and of others, in key order, each once
abbrev pub keys_of_both : Rows → Rows → List Key
keys_of_both old new = fold (insert_key key_cmp) (keys_of old) (keys_of new)

-- the writes that bring rows to others, in key order
abbrev pub differences : Rows → Rows → List Write
differences old new = flat_map (λ key. difference key (fields_at old key) (fields_at new key)) (keys_of_both old new)

-- the reconciliation of a table: the rows that it had against those that the writes since come to
abbrev pub reconcile : Rows → List ℕ → List Write → List Write
reconcile rows table writes = differences (rows_of_table table rows) (rows_of writes)

-- a table has the rows that were sent, and every other table the rows that it had
pub record IsReconciled (table : List ℕ) (before sent after : Rows) : Type 0 where
  pub there : rows_of_table table after ≡ sent
  pub elsewhere : rows_elsewhere table after ≡ rows_elsewhere table before

-- each of the writes is of a key whose rows differ
abbrev pub AreOfOtherRows : Rows → Rows → List Write → Type 0
AreOfOtherRows old new writes = AllByRecursion (λ w. fields_at old (key_of_write w) ≢ fields_at new (key_of_write w)) writes
