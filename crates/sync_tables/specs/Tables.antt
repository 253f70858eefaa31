-- The tables: rows, writes that wait to be popped, and keys to sync. A write waits in its producer's table until it is popped; then it is in the rows, and its key is to sync (SWSS: producer and consumer state tables).
use Rattle.std.specs.Prelude.{◌≡◌, ◌⊎◌, ◌<◌, ℕ, drop, take, slice_get, true, List, [], ◌∷◌, Option, Some, None, is_some, if◌then◌else◌}
use Rattle.std.specs.BTreeMap.{is_at}
use Rattle.std.specs.List.{AllByRecursion}
use Rattle.std.specs.Map.{keys_of}
use Rattle.std.specs.declared.cmp.Ordering.TheVariants.{Less}
use Rattle.table_schema.specs.Fields.{Pairs}
use Rattle.table_schema.specs.Key.{key_cmp}
use Rattle.table_schema.specs.Rows.{Rows, fields_at}
use Rattle.table_schema.specs.declared.key.Key.{Key}
use Rattle.table_schema.specs.declared.write.Write.{Write}
use Rattle.sai_types.specs.Alike.{IsIn}
use Rattle.producer_table.specs.Pending.{PendingKeys, op_of, pending_after, pending_at, row_with_pending}
use Rattle.producer_table.specs.declared.waiting.Pending.{Pending}
use Rattle.consumer_table.specs.Ops.{Ops, ops_with}
use Rattle.switch_machine.specs.Written.{HasNoWrite, IsAsBefore, IsPoppedKey, Written}

pub record TablesState : Type 0 where
  pub rows : Rows
  pub waiting : PendingKeys
  pub ops : Ops

abbrev pub no_tables : TablesState
no_tables = record { rows = []; waiting = []; ops = [] }

-- a write waits
abbrev pub tables_with_write : TablesState → Write → TablesState
tables_with_write t w = record { rows = t.rows; waiting = pending_after t.waiting w; ops = t.ops }

-- what these writes came to in the tables
abbrev pub written_in : List Write → TablesState → Written
written_in taken t = record { taken = taken; rows = λ k. fields_at t.rows k; waiting = λ k o. row_with_pending o (pending_at t.waiting k) }

-- what waits of a key is a deletion, fields, or both
abbrev pub Matters : Pending → Type 0
Matters p = (p.dropped ≡ true) ⊎ (is_some p.fields ≡ true)

abbrev pub AllMatter : PendingKeys → Type 0
AllMatter waiting = AllByRecursion (λ e. Matters e.1) waiting

abbrev pub IsToSync : TablesState → Key → Type 0
IsToSync t k = IsIn k (keys_of t.ops)

-- ---- pops

-- what waited of this key is merged into the rows, and no other row changes
abbrev pub IsMerged : Rows → Key → Pending → Rows → Type 0
IsMerged rows key p new = (q : Key) → fields_at new q ≡ (if is_at (key_cmp q) key then row_with_pending (fields_at rows q) p else fields_at rows q)

-- what popping these keys makes of those to sync: what waited of each is added to its operation, one key after the other
abbrev pub ops_popped : Ops → PendingKeys → Ops
ops_popped ops [] = ops
ops_popped ops (e ∷ es) = ops_popped (ops_with ops (op_of e)) es

-- and of one key's row: what waited of the key is laid over it
abbrev pub row_popped : Key → Option Pairs → PendingKeys → Option Pairs
row_popped q row [] = row
row_popped q row (e ∷ es) = row_popped q (if is_at (key_cmp q) e.0 then row_with_pending row e.1 else row) es

-- the same keys are to sync, and this one, where it is given
abbrev pub IsAdded : Ops → Option Key → Ops → Type 0
IsAdded old key new = (k : Key) → (IsIn k (keys_of new) → IsIn k (keys_of old) ⊎ (Some k ≡ key)) × (IsIn k (keys_of old) ⊎ (Some k ≡ key) → IsIn k (keys_of new))

-- the operations are as they were; or what waits of this key is added already, and the key was to sync before
abbrev pub IsKeptOrLaid : Ops → Key × Pending → Ops → Type 0
IsKeptOrLaid old e new = (new ≡ old) ⊎ (IsIn e.0 (keys_of old) × (new ≡ ops_with old (op_of e)))

-- the first key that waits is popped
pub record PopsFirst (old new : TablesState) : Type 0 where
  pub first : Key × Pending
  pub waiting : old.waiting ≡ first ∷ new.waiting
  pub rows : IsMerged old.rows first.0 first.1 new.rows
  pub ops : new.ops ≡ ops_with old.ops (op_of first)

-- a key waits, and none is popped, since memory was refused
pub record PopsNone (old new : TablesState) : Type 0 where
  pub first : Key × Pending
  pub waits : slice_get old.waiting 0 ≡ Some first
  pub waiting : new.waiting ≡ old.waiting
  pub rows : new.rows ≡ old.rows
  pub ops : IsKeptOrLaid old.ops first new.ops

-- the first keys that waited are popped, so many, or all where no more wait; the others wait, with what waited of them
pub record PopsBatch (most : ℕ) (old new : TablesState) : Type 0 where
  pub waiting : new.waiting ≡ drop most old.waiting
  pub rows : (q : Key) → fields_at new.rows q ≡ row_popped q (fields_at old.rows q) (take most old.waiting)
  pub ops : new.ops ≡ ops_popped old.ops (take most old.waiting)

-- memory was refused at one of these first keys: those before it are popped, and it is not
pub record PopsInPart (most : ℕ) (old new : TablesState) : Type 0 where
  pub count : ℕ
  pub fewer : count < most
  pub popped : TablesState
  pub before : PopsBatch count old popped
  pub refused : PopsNone popped new

-- what a pop made of a key: it is as before; or a write of it waited, it is popped, and is to sync
pub data IsPoppedIn (old new : TablesState) (k : Key) : Type 0 where
  Stays : ((taken : List Write) → IsAsBefore (written_in taken old) (written_in taken new) k) → (IsToSync new k → IsToSync old k) → IsPoppedIn old new k
  Popped : ((taken : List Write) → HasNoWrite (written_in taken old) k → ⊥) → ((taken : List Write) → IsPoppedKey (written_in taken old) (written_in taken new) k) → IsToSync new k → IsPoppedIn old new k

-- keys are popped whole, and each key to sync is so still
pub record PopsKeys (old new : TablesState) : Type 0 where
  pub keys : (k : Key) → IsPoppedIn old new k
  pub kept : (k : Key) → IsToSync old k → IsToSync new k

-- one of them was popped
abbrev pub PopsSome : TablesState → TablesState → Type 0
PopsSome old new = (k : Key) × ((taken : List Write) → HasNoWrite (written_in taken old) k → ⊥) × ((taken : List Write) → IsPoppedKey (written_in taken old) (written_in taken new) k)

-- ---- walks over the keys to sync

-- a key is behind this one, and any is where none is given
abbrev pub IsBehind : Option Key → Key → Type 0
IsBehind None q = Unit {0}
IsBehind (Some k) q = key_cmp k q ≡ Less

-- the first of these keys behind this one: no other of them stands between
pub record IsNextKey (after : Option Key) (keys : List Key) (q : Key) : Type 0 where
  pub there : IsIn q keys
  pub behind : IsBehind after q
  pub first : (p : Key) → IsIn p keys → IsBehind after p → (p ≡ q) ⊎ (key_cmp q p ≡ Less)
