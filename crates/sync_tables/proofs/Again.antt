-- a pop that was refused, made again: what is added to an operation twice is as added once
use Rattle.std.proofs.Common.{◌≡◌, ◌<◌, ◌+◌, inl, inr, ℕ, zero, suc, true, false, cond, List, [], ◌∷◌, ◌++◌, drop, take, slice_get, Bool, Option, None, Some, unwrap_or, arith, refl, sym, ap, subst, ◌∙◌}
use Rattle.std.specs.BTreeMap.{insert_entry}
use Rattle.std.specs.List.{AllByRecursion}
use Rattle.std.specs.Ordering.{ordering_reverse}
use Rattle.std.specs.declared.cmp.Ordering.TheVariants.{Less, Equal, Greater}
use Rattle.std.proofs.lemmas.Cmp.{nat_list_cmp_total, tied_itself}
use Rattle.std.proofs.lemmas.Option.{none-some, same_Some}
use Rattle.swss_types.proofs.Maps.{lookup-insert_entry}
use Rattle.table_schema.specs.Fields.{Pairs, HasRisingNames, by_bytes, merged, with_pair}
use Rattle.table_schema.specs.Key.{key_cmp}
use Rattle.table_schema.specs.Rows.{fields_at}
use Rattle.table_schema.specs.declared.key.Key.{Key}
use Rattle.table_schema.specs.declared.write.Write.TheVariants.{Set, Del}
use Rattle.table_schema.proofs.Keys.{at_itself, key_total}
use Rattle.table_schema.proofs.Places.{put_step}
use Rattle.producer_table.specs.Pending.{PendingKeys, ArePendingInOrder, op_of, pending_fields, set_of}
use Rattle.producer_table.specs.declared.waiting.Pending.{Pending}
use Rattle.producer_table.proofs.Merging.{merged-merged, put-twice}
use Rattle.producer_table.proofs.PendingWrites.{HaveRisingNames-drop}
use Rattle.consumer_table.specs.Ops.{Ops, op_at, op_with_set, ops_after, ops_after_all, ops_with}
use Rattle.consumer_table.specs.declared.op.Op.{Op}
use Rattle.consumer_table.specs.declared.op.Op.TheVariants as op
use Rattle.sync_tables.specs.Tables.{IsKeptOrLaid, PopsBatch, PopsInPart, PopsNone, TablesState, ops_popped, row_popped}
use Rattle.sync_tables.proofs.Batches.{batch-then}

-- ---- fields

past : (x : List ℕ × List ℕ) (xs ys : Pairs) → AllByRecursion (λ y. by_bytes x.0 y.0 ≡ Less) ys → merged (x ∷ xs) ys ≡ x ∷ merged xs ys
past x xs [] h = refl
past x xs (y ∷ ys) h =
    ap (λ l. merged l ys) (put_step by_bytes x xs y.0 y.1 Greater (nat_list_cmp_total.antisymm y.0 x.0 ∙ ap ordering_reverse h.0)) ∙ past x (with_pair xs y.0 y.1) ys h.1

merged-itself : (fields : Pairs) → HasRisingNames fields → merged fields fields ≡ fields
merged-itself [] h = refl
merged-itself (x ∷ xs) h =
    ap (λ l. merged l xs) (put_step by_bytes x xs x.0 x.1 Equal (tied_itself nat_list_cmp_total x.0)) ∙ past x xs xs h.0 ∙ ap (λ l. x ∷ l) (merged-itself xs h.1)

merged-again : (held fields : Pairs) → HasRisingNames fields → merged (merged held fields) fields ≡ merged held fields
merged-again held fields h = sym (merged-merged held fields fields h) ∙ ap (merged held) (merged-itself fields h)

-- ---- operations

set-again : (o : Option Op) (fields : Pairs) → HasRisingNames fields → op_with_set (Some (op_with_set o fields)) fields ≡ op_with_set o fields
set-again None fields h = ap op.Set (merged-again [] fields h)
set-again (Some (op.Set held)) fields h = ap op.Set (merged-again held fields h)
set-again (Some op.Del) fields h = ap op.Replace (merged-again [] fields h)
set-again (Some (op.Replace held)) fields h = ap op.Replace (merged-again held fields h)

at-put : (ops : Ops) (k : Key) (o : Op) → op_at (insert_entry key_cmp ops k o) k ≡ Some o
at-put ops k o = lookup-insert_entry key_cmp key_total ops k o k ∙ ap (λ b. cond b (Some o) (op_at ops k)) (at_itself k k refl)

again : (ops : Ops) (k : Key) (dropped : Bool) (o : Option Pairs) → HasRisingNames (unwrap_or o []) → ops_after_all (ops_after_all ops ((cond dropped (Del k ∷ []) []) ++ set_of k o)) ((cond dropped (Del k ∷ []) []) ++ set_of k o) ≡ ops_after_all ops ((cond dropped (Del k ∷ []) []) ++ set_of k o)
again ops k false None h = refl
again ops k false (Some fields) h =
    let laid = op_with_set (op_at ops k) fields in
    ap (λ x. insert_entry key_cmp (insert_entry key_cmp ops k laid) k (op_with_set x fields)) (at-put ops k laid)
    ∙ put-twice key_cmp key_total ops k laid (op_with_set (Some laid) fields)
    ∙ ap (insert_entry key_cmp ops k) (set-again (op_at ops k) fields h)
again ops k true None h = put-twice key_cmp key_total ops k op.Del op.Del
again ops k true (Some fields) h =
    let laid = op_with_set (op_at (ops_after ops (Del k)) k) fields in
    let one : ops_after_all ops (Del k ∷ Set k fields ∷ []) ≡ insert_entry key_cmp ops k laid = put-twice key_cmp key_total ops k op.Del laid in
    let same : (other : Ops) → op_with_set (op_at (ops_after other (Del k)) k) fields ≡ laid = λ other. ap (λ x. op_with_set x fields) (at-put other k op.Del ∙ sym (at-put ops k op.Del)) in
    let two : (other : Ops) → ops_after_all other (Del k ∷ Set k fields ∷ []) ≡ insert_entry key_cmp other k laid =
    λ other. put-twice key_cmp key_total other k op.Del (op_with_set (op_at (ops_after other (Del k)) k) fields) ∙ ap (insert_entry key_cmp other k) (same other) in
    two (ops_after_all ops (Del k ∷ Set k fields ∷ []))
    ∙ ap (λ l. insert_entry key_cmp l k laid) one
    ∙ put-twice key_cmp key_total ops k laid laid
    ∙ sym one

-- what was popped of a key, added twice
pub ops_with-again : (ops : Ops) (e : Key × Pending) → HasRisingNames (pending_fields e.1) → ops_with (ops_with ops (op_of e)) (op_of e) ≡ ops_with ops (op_of e)
ops_with-again ops e h = again ops e.0 e.1.dropped e.1.fields h

-- ---- pops

first-again : (ops kept : Ops) (first : Key × Pending) (waiting : PendingKeys) (n : ℕ) → slice_get waiting 0 ≡ Some first → HasRisingNames (pending_fields first.1) → 0 < n → IsKeptOrLaid ops first kept → ops_popped kept (take n waiting) ≡ ops_popped ops (take n waiting)
first-again ops kept first [] n is h more laid = absurd (none-some first is)
first-again ops kept first (e ∷ es) zero is h more laid = absurd (omega (arith, more))
first-again ops kept first (e ∷ es) (suc n) is h more (inl same) = ap (λ o. ops_popped o (take (suc n) (e ∷ es))) same
first-again ops kept first (e ∷ es) (suc n) is h more (inr laid) =
    let this : e ≡ first = same_Some e first is in
    ap (λ o. ops_popped (ops_with o (op_of e)) (take n es)) laid.1
    ∙ ap (λ (x : Key × Pending). ops_popped (ops_with (ops_with ops (op_of first)) (op_of x)) (take n es)) this
    ∙ ap (λ o. ops_popped o (take n es)) (ops_with-again ops first h)
    ∙ ap (λ (x : Key × Pending). ops_popped (ops_with ops (op_of x)) (take n es)) (sym this)

first-names : (waiting : PendingKeys) (e : Key × Pending) → slice_get waiting 0 ≡ Some e → AllByRecursion (λ x. HasRisingNames (pending_fields x.1)) waiting → HasRisingNames (pending_fields e.1)
first-names [] e is h = absurd (none-some e is)
first-names (x ∷ xs) e is h = subst (λ (y : Key × Pending). HasRisingNames (pending_fields y.1)) (same_Some x e is) h.0

batch-again : (old mid new : TablesState) (n : ℕ) → (h : PopsNone old mid) → HasRisingNames (pending_fields h.first.1) → 0 < n → PopsBatch n mid new → PopsBatch n old new
batch-again old mid new n h names more b = record {
  waiting = b.waiting ∙ ap (drop n) h.waiting;
  rows = λ q. b.rows q ∙ ap (λ r. row_popped q (fields_at r q) (take n mid.waiting)) h.rows ∙ ap (λ w. row_popped q (fields_at old.rows q) (take n w)) h.waiting;
  ops = b.ops ∙ ap (λ w. ops_popped mid.ops (take n w)) h.waiting ∙ first-again old.ops mid.ops h.first old.waiting n h.waits names more h.ops;
}

-- so that it comes to what one pop makes
pub part-again : (old mid new : TablesState) (most n : ℕ) → ArePendingInOrder old.waiting → (h : PopsInPart most old mid) → 0 < n → PopsBatch n mid new → PopsBatch (h.count + n) old new
part-again old mid new most n order h more b =
    let names = first-names h.popped.waiting h.refused.first h.refused.waits (subst (λ w. AllByRecursion (λ x. HasRisingNames (pending_fields x.1)) w) (sym h.before.waiting) (HaveRisingNames-drop h.count old.waiting order.names)) in
    batch-then old h.popped new h.count n h.before (batch-again h.popped mid new n h.refused names more b)
