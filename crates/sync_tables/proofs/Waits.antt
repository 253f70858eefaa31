-- what waits of a key, after a write and after a pop
use Rattle.std.proofs.Common.{◌≡◌, inl, inr, true, cond, List, [], ◌∷◌, ◌++◌, Option, Some, None, IfSome, IfNone, Result, Ok, Err, OnOk, OnErr, slice_get, refl, sym, ap, subst, ◌∙◌}
use Rattle.std.proofs.lemmas.Option.{none-some, same_Some}
use Rattle.table_schema.specs.Fields.{Pairs}
use Rattle.table_schema.specs.Key.{key_cmp}
use Rattle.table_schema.specs.Rows.{Rows, HasRisingRows, fields_at}
use Rattle.table_schema.specs.declared.key.Key.{Key}
use Rattle.table_schema.specs.declared.write.Write.{Write}
use Rattle.table_schema.specs.declared.write.Write.TheVariants.{Set, Del}
use Rattle.table_schema.proofs.RowLists.{HasRisingRows-after_writes}
use Rattle.table_schema.proofs.Keys.{at_itself}
use Rattle.producer_table.specs.Pending.{PendingKeys, ArePendingInOrder, laid_over, pending_after, pending_at, op_of, ops_of, row_with_pending, with_pending, writes_of_ops}
use Rattle.producer_table.specs.declared.key_op.KeyOp.{KeyOp}
use Rattle.producer_table.specs.declared.waiting.Pending.{Pending}
use Rattle.producer_table.proofs.Found.{each-put}
use Rattle.producer_table.proofs.PendingWrites.{AreInOrder-after, fields_at-with_pending, with_pending-after}
use Rattle.producer_table.proofs.RowWrites.{fields_at-after_write, row_after}
use Rattle.switch_machine.specs.Written.{TakesWrite, fields_after}
use Rattle.sync_tables.specs.Tables.{AllMatter, Matters, TablesState, tables_with_write, written_in}

-- one row, or none
abbrev one_row : Key → Option Pairs → Rows
one_row k None = []
one_row k (Some fields) = (k, fields) ∷ []

rising-one_row : (k : Key) (o : Option Pairs) → HasRisingRows (one_row k o)
rising-one_row k None = tt
rising-one_row k (Some fields) = (tt, tt)

at-one_row : (k : Key) (o : Option Pairs) → fields_at (one_row k o) k ≡ o
at-one_row k None = refl
at-one_row k (Some fields) = ap (λ b. cond b (Some fields) None) (at_itself k k refl)

after-write : (w : Write) (k : Key) (o : Option Pairs) → row_after k w o ≡ fields_after w k o
after-write (Set key fields) k o = refl
after-write (Del key) k o = refl

-- a write more waits of a key
row-after : (waiting : PendingKeys) (w : Write) (k : Key) (o : Option Pairs) → ArePendingInOrder waiting → row_with_pending o (pending_at (pending_after waiting w) k) ≡ fields_after w k (row_with_pending o (pending_at waiting k))
row-after waiting w k o order =
    let rows = one_row k o in
    let rising = rising-one_row k o in
    let all = with_pending rows waiting in
    let now : fields_at all k ≡ row_with_pending o (pending_at waiting k) = fields_at-with_pending rows waiting k rising order.keys ∙ ap (λ r. row_with_pending r (pending_at waiting k)) (at-one_row k o) in
    ap (λ r. row_with_pending r (pending_at (pending_after waiting w) k)) (sym (at-one_row k o))
    ∙ sym (fields_at-with_pending rows (pending_after waiting w) k rising (AreInOrder-after waiting w order).keys)
    ∙ ap (λ r. fields_at r k) (with_pending-after rows waiting w rising order)
    ∙ fields_at-after_write all w k (HasRisingRows-after_writes rows (writes_of_ops (ops_of waiting)) rising)
    ∙ ap (row_after k w) now
    ∙ after-write w k (row_with_pending o (pending_at waiting k))

pub takes_write : (t : TablesState) (taken : List Write) (w : Write) → ArePendingInOrder t.waiting → TakesWrite w (written_in taken t) (written_in (taken ++ w ∷ []) (tables_with_write t w))
takes_write t taken w order = record { taken = refl; rows = λ k. refl; waiting = λ k o. row-after t.waiting w k o order }

-- a write that waits is a deletion or fields
pub AllMatter-after : (waiting : PendingKeys) (w : Write) → AllMatter waiting → AllMatter (pending_after waiting w)
AllMatter-after waiting (Set k fields) h = each-put Matters key_cmp waiting k (laid_over (pending_at waiting k) fields) (inr refl) h
AllMatter-after waiting (Del k) h = each-put Matters key_cmp waiting k (record { dropped = true; fields = None }) (inl refl) h

-- ---- the first key

pub no-first : (waiting : PendingKeys) → slice_get waiting 0 ≡ None → waiting ≡ []
no-first [] none = refl
no-first (e ∷ es) none = absurd (none-some e (sym none))

pub first-matters : (waiting : PendingKeys) (e : Key × Pending) → slice_get waiting 0 ≡ Some e → AllMatter waiting → Matters e.1
first-matters [] e is h = absurd (none-some e is)
first-matters (x ∷ xs) e is h = subst (λ (y : Key × Pending). Matters y.1) (same_Some x e is) h.0

-- it is the one that is taken out
pub first-gone : (waiting rest : PendingKeys) (e : Key × Pending) (r : Option KeyOp) → slice_get waiting 0 ≡ Some e → IfSome r (λ op. (x : Key × Pending) × (waiting ≡ x ∷ rest) × (op ≡ op_of x)) → IfNone r (waiting ≡ []) → waiting ≡ e ∷ rest
first-gone waiting rest e (Some op) is some none =
    let same : some.0 ≡ e = same_Some some.0 e (ap (λ w. slice_get w 0) (sym some.1) ∙ is) in
    some.1 ∙ ap (λ x. x ∷ rest) same
first-gone waiting rest e None is some none = absurd (none-some e (ap (λ w. slice_get w 0) (sym none) ∙ is))

-- a key that is set or deleted
pub all_matter_kept : {T E : Type 0} (r : Result T E) (old new : PendingKeys) (w : Write) → OnOk r (new ≡ pending_after old w) → OnErr r (new ≡ old) → AllMatter old → AllMatter new
all_matter_kept (Ok x) old new w ok err h = subst AllMatter (sym ok) (AllMatter-after old w h)
all_matter_kept (Err x) old new w ok err h = subst AllMatter (sym err) h
