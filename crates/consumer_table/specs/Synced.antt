-- How operations stand to rows: laid over a key's row when the key was last done, its operation gives the row now. Own.
use Rattle.std.specs.Prelude.{◌≡◌, List, [], ◌∷◌, Option, Some, None, unwrap_or, if◌then◌else◌}
use Rattle.std.specs.BTreeMap.{is_at}
use Rattle.table_schema.specs.Fields.{Pairs, merged}
use Rattle.table_schema.specs.Key.{key_cmp}
use Rattle.table_schema.specs.Rows.{Rows, fields_at}
use Rattle.table_schema.specs.declared.key.Key.{Key}
use Rattle.producer_table.specs.declared.key_op.KeyOp.{KeyOp}
use Rattle.producer_table.specs.Pending.{with_ops}
use Rattle.consumer_table.specs.declared.op.Op.{Op}
use Rattle.consumer_table.specs.declared.op.Op.TheVariants as op
use Rattle.consumer_table.specs.Ops.{Ops, op_at, ops_with, without_op}

-- a row with an operation laid over it
abbrev pub row_with_op : Option Pairs → Option Op → Option Pairs
row_with_op row None = row
row_with_op row (Some (op.Set fields)) = Some (merged (unwrap_or row []) fields)
row_with_op row (Some op.Del) = None
row_with_op row (Some (op.Replace fields)) = Some (merged [] fields)

-- the rows now, each key's row when the key was last done, and the operations
pub record Synced : Type 0 where
  pub rows : Rows
  pub done : Key → Option Pairs
  pub ops : Ops

-- what was popped of a key is merged into the rows and added to the operations, or a key is done
pub data SyncStep : Type 0 where
  Added : KeyOp → SyncStep
  Finished : Key → SyncStep

abbrev pub with_added : Synced → KeyOp → Synced
with_added s popped = record { rows = with_ops s.rows (popped ∷ []); done = s.done; ops = ops_with s.ops popped }

abbrev pub with_finished : Synced → Key → Synced
with_finished s key = record { rows = s.rows; done = λ q. if is_at (key_cmp q) key then fields_at s.rows q else s.done q; ops = without_op s.ops key }

abbrev pub after_step : Synced → SyncStep → Synced
after_step s (Added popped) = with_added s popped
after_step s (Finished key) = with_finished s key

abbrev pub after_steps : Synced → List SyncStep → Synced
after_steps s [] = s
after_steps s (step ∷ steps) = after_steps (after_step s step) steps

-- at the beginning all keys are done
abbrev pub all_done : Rows → Synced
all_done rows = record { rows = rows; done = fields_at rows; ops = [] }

-- each key's row when it was last done, with its operation laid over it, is its row now
abbrev pub AreRowsNow : Synced → Type 0
AreRowsNow s = (key : Key) → row_with_op (s.done key) (op_at s.ops key) ≡ fields_at s.rows key
