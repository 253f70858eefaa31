-- What waits in the application tables to be taken out: for each key that was written, a deletion mark and fields (SONiC's producer state tables).
use Rattle.std.specs.Prelude.{Bool, true, false, ◌||◌, List, [], ◌∷◌, ◌++◌, map, Option, Some, None, unwrap_or, if◌then◌else◌}
use Rattle.std.specs.BTreeMap.{insert_entry, is_at}
use Rattle.std.specs.List.{AllByRecursion}
use Rattle.std.specs.Map.{lookup}
use Rattle.table_schema.specs.Fields.{Pairs, HasRisingKeys, HasRisingNames, merged}
use Rattle.table_schema.specs.Key.{key_cmp}
use Rattle.table_schema.specs.Rows.{Rows, after_writes}
use Rattle.table_schema.specs.declared.key.Key.{Key}
use Rattle.table_schema.specs.declared.write.Write.{Write}
use Rattle.table_schema.specs.declared.write.Write.TheVariants as write
use Rattle.producer_table.specs.declared.key_op.KeyOp.{KeyOp}
use Rattle.producer_table.specs.declared.waiting.Pending.{Pending}

-- keys with what waits of them, in key order, each key once
abbrev pub PendingKeys : Type 0
PendingKeys = List (Key × Pending)

-- a key of which nothing waits has no mark and no fields
abbrev pub nothing_pending : Pending
nothing_pending = record { dropped = false; fields = None }

abbrev pub pending_at : PendingKeys → Key → Pending
pending_at pending key = unwrap_or (lookup (is_at (key_cmp key)) pending) nothing_pending

-- the fields that wait, none where there are none
abbrev pub pending_fields : Pending → Pairs
pending_fields p = unwrap_or p.fields []

-- fields laid over those that wait: the mark stays
abbrev pub laid_over : Pending → Pairs → Pending
laid_over p fields = record { dropped = p.dropped; fields = Some (merged (pending_fields p) fields) }

-- a Set is merged into the fields that wait; a Del drops them and sets the mark
abbrev pub pending_after : PendingKeys → Write → PendingKeys
pending_after pending (write.Set key fields) = insert_entry key_cmp pending key (laid_over (pending_at pending key) fields)
pending_after pending (write.Del key) = insert_entry key_cmp pending key (record { dropped = true; fields = None })

abbrev pub pending_after_all : PendingKeys → List Write → PendingKeys
pending_after_all pending [] = pending
pending_after_all pending (w ∷ ws) = pending_after_all (pending_after pending w) ws

-- what waits of these writes, where nothing was taken out
abbrev pub pending_of : List Write → PendingKeys
pending_of writes = pending_after_all [] writes

-- each key with its mark and fields, as it is handed out
abbrev pub op_of : Key × Pending → KeyOp
op_of e = record { key = e.0; dropped = e.1.dropped; fields = e.1.fields }

abbrev pub ops_of : PendingKeys → List KeyOp
ops_of pending = map op_of pending

-- what is handed out of a key stands for these writes: a Del where there is the mark, and then a Set where there are fields
abbrev pub set_of : Key → Option Pairs → List Write
set_of key None = []
set_of key (Some fields) = write.Set key fields ∷ []

abbrev pub writes_of_op : KeyOp → List Write
writes_of_op op = (if op.dropped then write.Del op.key ∷ [] else []) ++ set_of op.key op.fields

abbrev pub writes_of_ops : List KeyOp → List Write
writes_of_ops [] = []
writes_of_ops (op ∷ ops) = writes_of_op op ++ writes_of_ops ops

-- rows with what is handed out laid over them: of each key first the row goes where there is the mark, and then the fields are merged in
abbrev pub with_ops : Rows → List KeyOp → Rows
with_ops rows ops = after_writes rows (writes_of_ops ops)

abbrev pub with_pending : Rows → PendingKeys → Rows
with_pending rows pending = with_ops rows (ops_of pending)

-- one key's row with what waits of it laid over it
abbrev pub row_with_fields : Option Pairs → Option Pairs → Option Pairs
row_with_fields row None = row
row_with_fields row (Some fields) = Some (merged (unwrap_or row []) fields)

abbrev pub row_with_pending : Option Pairs → Pending → Option Pairs
row_with_pending row p = row_with_fields (if p.dropped then None else row) p.fields

-- the write is of this key
abbrev pub is_write_of : Key → Write → Bool
is_write_of key (write.Set k fields) = is_at (key_cmp key) k
is_write_of key (write.Del k) = is_at (key_cmp key) k

-- one of the writes is of this key
abbrev pub has_write : Key → List Write → Bool
has_write key [] = false
has_write key (w ∷ ws) = is_write_of key w || has_write key ws

-- of each key the names of the fields that wait rise
abbrev pub HaveRisingNames : PendingKeys → Type 0
HaveRisingNames pending = AllByRecursion (λ e. HasRisingNames (pending_fields e.1)) pending

-- the keys rise, and of each key the names of the fields that wait
pub record ArePendingInOrder (pending : PendingKeys) : Type 0 where
  pub keys : HasRisingKeys key_cmp pending
  pub names : HaveRisingNames pending
