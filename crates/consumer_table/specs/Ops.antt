-- The operations of keys that are to be brought to the chip: what was written to a key's row since the key was done (SONiC's consumers keep such a map).
use Rattle.std.specs.Prelude.{List, [], ◌∷◌, filter, Option, Some, None}
use Rattle.std.specs.BTreeMap.{insert_entry, is_at}
use Rattle.std.specs.List.{AllByRecursion}
use Rattle.std.specs.Map.{lookup, remove_entry}
use Rattle.std.specs.Ordering.{is_lt}
use Rattle.table_schema.specs.Fields.{Pairs, HasRisingKeys, HasRisingNames, merged}
use Rattle.table_schema.specs.Key.{key_cmp}
use Rattle.table_schema.specs.declared.key.Key.{Key}
use Rattle.table_schema.specs.declared.write.Write.{Write}
use Rattle.table_schema.specs.declared.write.Write.TheVariants as write
use Rattle.producer_table.specs.declared.key_op.KeyOp.{KeyOp}
use Rattle.producer_table.specs.Pending.{writes_of_op}
use Rattle.consumer_table.specs.declared.op.Op.{Op}
use Rattle.consumer_table.specs.declared.op.Op.TheVariants as op

-- keys with their operations, in key order, each key once
abbrev pub Ops : Type 0
Ops = List (Key × Op)

abbrev pub op_at : Ops → Key → Option Op
op_at ops key = lookup (is_at (key_cmp key)) ops

-- a SET more: it is merged into a Set or a Replace by the fields' names, and turns a lone Del into a Replace
abbrev pub op_with_set : Option Op → Pairs → Op
op_with_set None fields = op.Set (merged [] fields)
op_with_set (Some (op.Set held)) fields = op.Set (merged held fields)
op_with_set (Some op.Del) fields = op.Replace (merged [] fields)
op_with_set (Some (op.Replace held)) fields = op.Replace (merged held fields)

-- a DEL takes the place of the operation that is there
abbrev pub ops_after : Ops → Write → Ops
ops_after ops (write.Set key fields) = insert_entry key_cmp ops key (op_with_set (op_at ops key) fields)
ops_after ops (write.Del key) = insert_entry key_cmp ops key op.Del

abbrev pub ops_after_all : Ops → List Write → Ops
ops_after_all ops [] = ops
ops_after_all ops (w ∷ ws) = ops_after_all (ops_after ops w) ws

-- what was popped of a key is added as the writes that it stands for: with both mark and fields a DEL and then a SET
abbrev pub ops_with : Ops → KeyOp → Ops
ops_with ops popped = ops_after_all ops (writes_of_op popped)

-- the keys behind this one, and all where none is given
abbrev pub keys_behind : Option Key → List Key → List Key
keys_behind None keys = keys
keys_behind (Some key) keys = filter (λ other. is_lt (key_cmp key other)) keys

abbrev pub first_in : List Key → Option Key
first_in [] = None
first_in (key ∷ keys) = Some key

-- a key that is done has no operation
abbrev pub without_op : Ops → Key → Ops
without_op ops key = remove_entry (is_at (key_cmp key)) ops

-- the fields of an operation
abbrev pub op_fields : Op → Pairs
op_fields (op.Set fields) = fields
op_fields op.Del = []
op_fields (op.Replace fields) = fields

-- of each operation the names of its fields rise
abbrev pub HaveOpNames : Ops → Type 0
HaveOpNames ops = AllByRecursion (λ e. HasRisingNames (op_fields e.1)) ops

-- the keys rise, and of each operation the names of its fields
pub record AreOpsInOrder (ops : Ops) : Type 0 where
  pub keys : HasRisingKeys key_cmp ops
  pub names : HaveOpNames ops
