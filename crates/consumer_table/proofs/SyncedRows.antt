-- rows that are the operations laid over the rows when the keys were done
use Rattle.std.proofs.Common.{◌≡◌, Bool, true, false, cond, List, [], ◌∷◌, Option, None, refl, sym, ap, ◌∙◌}
use Rattle.std.specs.BTreeMap.{is_at}
use Rattle.table_schema.specs.Fields.{Pairs}
use Rattle.table_schema.specs.Key.{key_cmp}
use Rattle.table_schema.specs.Rows.{Rows, HasRisingRows, after_write, after_writes, fields_at}
use Rattle.table_schema.specs.declared.key.Key.{Key}
use Rattle.table_schema.specs.declared.write.Write.{Write}
use Rattle.table_schema.proofs.Keys.{key_total}
use Rattle.table_schema.proofs.RowLists.{HasRisingRows-after_write, HasRisingRows-after_writes}
use Rattle.producer_table.specs.declared.key_op.KeyOp.{KeyOp}
use Rattle.producer_table.specs.Pending.{with_ops, writes_of_op, writes_of_ops}
use Rattle.producer_table.proofs.Found.{lookup-removed}
use Rattle.producer_table.proofs.RowWrites.{after_writes-append, fields_at-after_write, row_after}
use Rattle.consumer_table.specs.Ops.{Ops, AreOpsInOrder, op_at, ops_after, ops_after_all}
use Rattle.consumer_table.specs.Synced.{AreRowsNow, Added, Finished, SyncStep, Synced, after_steps, all_done, row_with_op, with_added, with_finished}
use Rattle.consumer_table.proofs.OpWrites.{AreOpsInOrder-after, AreOpsInOrder-after_all, AreOpsInOrder-without, op_at-after, op_names_at, row_with-after}

-- writes to the rows, and the same writes to the operations
now-after : (done : Key → Option Pairs) (rows : Rows) (ops : Ops) (ws : List Write) → HasRisingRows rows → AreOpsInOrder ops → ((q : Key) → row_with_op (done q) (op_at ops q) ≡ fields_at rows q) → (q : Key) → row_with_op (done q) (op_at (ops_after_all ops ws) q) ≡ fields_at (after_writes rows ws) q
now-after done rows ops [] h order now = now
now-after done rows ops (w ∷ ws) h order now =
    now-after done (after_write rows w) (ops_after ops w) ws (HasRisingRows-after_write rows w h) (AreOpsInOrder-after ops w order)
    (λ q. ap (row_with_op (done q)) (op_at-after ops w q)
    ∙ row_with-after q w (done q) (op_at ops q) (op_names_at ops q order.names)
    ∙ ap (row_after q w) (now q)
    ∙ sym (fields_at-after_write rows w q h))

-- what is popped of one key alone
one_op : (rows : Rows) (popped : KeyOp) → with_ops rows (popped ∷ []) ≡ after_writes rows (writes_of_op popped)
one_op rows popped = after_writes-append rows (writes_of_op popped) []

pub AreRowsNow-added : (s : Synced) (popped : KeyOp) → HasRisingRows s.rows → AreOpsInOrder s.ops → AreRowsNow s → AreRowsNow (with_added s popped)
AreRowsNow-added s popped h order now = λ q. now-after s.done s.rows s.ops (writes_of_op popped) h order now q ∙ ap (λ r. fields_at r q) (sym (one_op s.rows popped))

pub AreRowsNow-finished : (s : Synced) (key : Key) → AreOpsInOrder s.ops → AreRowsNow s → AreRowsNow (with_finished s key)
AreRowsNow-finished s key order now q =
    let at : (b : Bool) → row_with_op (cond b (fields_at s.rows q) (s.done q)) (cond b None (op_at s.ops q)) ≡ fields_at s.rows q =
    λ b. elim b as (λ b. row_with_op (cond b (fields_at s.rows q) (s.done q)) (cond b None (op_at s.ops q)) ≡ fields_at s.rows q) [ true ↦ refl | false ↦ now q ] in
    ap (row_with_op (cond (is_at (key_cmp q) key) (fields_at s.rows q) (s.done q))) (lookup-removed key_cmp key_total s.ops key q order.keys) ∙ at (is_at (key_cmp q) key)

pub HasRisingRows-added : (rows : Rows) (popped : KeyOp) → HasRisingRows rows → HasRisingRows (with_ops rows (popped ∷ []))
HasRisingRows-added rows popped h = HasRisingRows-after_writes rows (writes_of_ops (popped ∷ [])) h

steps_now : (s : Synced) (steps : List SyncStep) → HasRisingRows s.rows → AreOpsInOrder s.ops → AreRowsNow s → AreRowsNow (after_steps s steps)
steps_now s [] h order now = now
steps_now s (Added popped ∷ steps) h order now = steps_now (with_added s popped) steps (HasRisingRows-added s.rows popped h) (AreOpsInOrder-after_all s.ops (writes_of_op popped) order) (AreRowsNow-added s popped h order now)
steps_now s (Finished key ∷ steps) h order now = steps_now (with_finished s key) steps h (AreOpsInOrder-without s.ops key order) (AreRowsNow-finished s key order now)

-- whatever was added and done
pub AreRowsNow-after_steps : (rows : Rows) (steps : List SyncStep) → HasRisingRows rows → AreRowsNow (after_steps (all_done rows) steps)
AreRowsNow-after_steps rows steps h = steps_now (all_done rows) steps h (record { keys = tt; names = tt }) (λ q. refl)
