-- an operation that is laid where there was none, and taken off again
use Rattle.std.proofs.Common.{◌≡◌, Bool, true, false, cond, [], ◌∷◌, ◌++◌, Option, None, Some, Ordering, is_some, refl, sym, ap, ◌∙◌}
use Rattle.std.specs.BTreeMap.{insert_entry, is_at}
use Rattle.std.specs.Ordering.{is_eq, match_ordering}
use Rattle.std.specs.declared.cmp.Ordering.TheVariants.{Less, Equal, Greater}
use Rattle.std.proofs.lemmas.Bool.{false≢true}
use Rattle.table_schema.specs.Fields.{Pairs}
use Rattle.table_schema.specs.Key.{key_cmp}
use Rattle.table_schema.specs.declared.key.Key.{Key}
use Rattle.table_schema.specs.declared.write.Write.TheVariants.{Del}
use Rattle.table_schema.proofs.Keys.{at_itself, key_total}
use Rattle.producer_table.specs.Pending.{op_of, set_of}
use Rattle.producer_table.specs.declared.waiting.Pending.{Pending}
use Rattle.producer_table.proofs.Merging.{put-twice}
use Rattle.consumer_table.specs.Ops.{Ops, op_at, op_with_set, ops_after, ops_after_all, ops_with, without_op}
use Rattle.consumer_table.specs.declared.op.Op.{Op}
use Rattle.consumer_table.specs.declared.op.Op.TheVariants as op

without-absent : (ops : Ops) (k : Key) → is_some (op_at ops k) ≡ false → without_op ops k ≡ ops
without-absent [] k none = refl
without-absent (e ∷ es) k none = by (is_at (key_cmp k) e.0) none (without-absent es k)
  where
    by : (b : Bool) → is_some (cond b (Some e.1) (op_at es k)) ≡ false → (is_some (op_at es k) ≡ false → without_op es k ≡ es) → cond b es (e ∷ without_op es k) ≡ e ∷ es
    by true none rest = absurd (false≢true (sym none))
    by false none rest = ap (λ l. e ∷ l) (rest none)

without-put : (ops : Ops) (k : Key) (o : Op) → is_some (op_at ops k) ≡ false → without_op (insert_entry key_cmp ops k o) k ≡ ops
without-put [] k o none = ap (λ b. cond b [] ((k, o) ∷ [])) (at_itself k k refl)
without-put (e ∷ es) k o none = by (key_cmp k e.0) refl (without-put es k o)
  where
    by : (r : Ordering) → key_cmp k e.0 ≡ r → (is_some (op_at es k) ≡ false → without_op (insert_entry key_cmp es k o) k ≡ es) → without_op (match_ordering r ((k, o) ∷ e ∷ es) ((e.0, o) ∷ es) (e ∷ insert_entry key_cmp es k o)) k ≡ e ∷ es
    by Less is rest = ap (λ b. cond b (e ∷ es) ((k, o) ∷ without_op (e ∷ es) k)) (at_itself k k refl)
    by Equal is rest = absurd (false≢true (sym none ∙ ap (λ r. is_some (cond (is_eq r) (Some e.1) (op_at es k))) is))
    by Greater is rest =
        let later : is_some (op_at es k) ≡ false = sym (ap (λ r. is_some (cond (is_eq r) (Some e.1) (op_at es k))) is) ∙ none in
        ap (λ r. cond (is_eq r) (insert_entry key_cmp es k o) (e ∷ without_op (insert_entry key_cmp es k o) k)) is ∙ ap (λ l. e ∷ l) (rest later)

off : (ops : Ops) (k : Key) (dropped : Bool) (o : Option Pairs) → is_some (op_at ops k) ≡ false → without_op (ops_after_all ops ((cond dropped (Del k ∷ []) []) ++ set_of k o)) k ≡ ops
off ops k false None none = without-absent ops k none
off ops k false (Some fields) none = without-put ops k (op_with_set (op_at ops k) fields) none
off ops k true None none = without-put ops k op.Del none
off ops k true (Some fields) none =
    let later = op_with_set (op_at (ops_after ops (Del k)) k) fields in
    ap (λ l. without_op l k) (put-twice key_cmp key_total ops k op.Del later) ∙ without-put ops k later none

-- the operations are then as they were
pub ops_with-off : (ops : Ops) (k : Key) (p : Pending) → is_some (op_at ops k) ≡ false → without_op (ops_with ops (op_of (k, p))) k ≡ ops
ops_with-off ops k p none = off ops k p.dropped p.fields none
