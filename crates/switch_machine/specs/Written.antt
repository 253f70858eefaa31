-- What was written to the tables, and what the core has popped of it. Own.
use Rattle.std.specs.Prelude.{◌≡◌, ◌⊎◌, ◌∷◌, ◌++◌, List, [], Option, Some, None, unwrap_or, if◌then◌else◌, ℕ, ◌≤◌, length, take}
use Rattle.std.specs.BTreeMap.{is_at}
use Rattle.table_schema.specs.Fields.{Pairs, merged}
use Rattle.table_schema.specs.Key.{key_cmp}
use Rattle.table_schema.specs.Plan.{Ports}
use Rattle.table_schema.specs.Rows.{fields_at, rows_of}
use Rattle.table_schema.specs.declared.key.Key.{Key}
use Rattle.table_schema.specs.declared.row.Row.{Row}
use Rattle.table_schema.specs.declared.write.Write.{Write}
use Rattle.table_schema.specs.declared.write.Write.TheVariants as write
use Rattle.switch_model.specs.Good.{TypedRows, good_row, good_rows}

-- the writes taken; the rows' fields, by key, as far as they were popped; and what the writes that wait make of a key's fields
pub record Written : Type 0 where
  pub taken : List Write
  pub rows : Key → Option Pairs
  pub waiting : Key → Option Pairs → Option Pairs

-- what a write makes of a key's fields
abbrev pub fields_after : Write → Key → Option Pairs → Option Pairs
fields_after (write.Set key fields) k o = if is_at (key_cmp k) key then Some (merged (unwrap_or o []) fields) else o
fields_after (write.Del key) k o = if is_at (key_cmp k) key then None else o

abbrev pub good_of : Ports → Written → TypedRows
good_of plan written k = good_row plan k (written.rows k)

-- the rows with what waits are the fold of the writes taken
abbrev pub IsTold : Written → Type 0
IsTold written = (k : Key) → fields_at (rows_of written.taken) k ≡ written.waiting k (written.rows k)

-- a write is taken
pub record TakesWrite (w : Write) (old new : Written) : Type 0 where
  pub taken : new.taken ≡ old.taken ++ (w ∷ [])
  pub rows : (k : Key) → new.rows k ≡ old.rows k
  pub waiting : (k : Key) (o : Option Pairs) → new.waiting k o ≡ fields_after w k (old.waiting k o)

-- no write of the key waits
abbrev pub HasNoWrite : Written → Key → Type 0
HasNoWrite written k = (o : Option Pairs) → written.waiting k o ≡ o

-- the key's row and what waits for it are as they were
pub record IsAsBefore (old new : Written) (k : Key) : Type 0 where
  pub row : new.rows k ≡ old.rows k
  pub waiting : (o : Option Pairs) → new.waiting k o ≡ old.waiting k o

-- the key's row is what the waiting writes made of it, and none waits any more
pub record IsPoppedKey (old new : Written) (k : Key) : Type 0 where
  pub row : new.rows k ≡ old.waiting k (old.rows k)
  pub none : HasNoWrite new k

-- keys are popped whole, and no other changes
pub record ArePopped (old new : Written) : Type 0 where
  pub taken : new.taken ≡ old.taken
  pub keys : (k : Key) → IsAsBefore old new k ⊎ IsPoppedKey old new k

-- nothing waits
abbrev pub IsPopped : Written → Type 0
IsPopped written = (k : Key) → HasNoWrite written k

-- each key's row is the one that the first so many of the writes taken made
abbrev pub HasWrittenRows : Written → Type 0
HasWrittenRows written = (k : Key) → (n : ℕ) × (n ≤ length written.taken) × (written.rows k ≡ fields_at (rows_of (take n written.taken)) k)

-- a row is the good row of its key after the first so many of these writes
abbrev pub IsGoodOnce : Ports → List Write → Key → Row → Type 0
IsGoodOnce plan taken k r = (n : ℕ) × (n ≤ length taken) × (good_rows plan (rows_of (take n taken)) k ≡ Some r)
