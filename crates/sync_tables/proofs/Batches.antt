-- keys that are popped, a batch and then more
use Rattle.std.proofs.Common.{◌≡◌, ◌≤◌, ◌<◌, ◌+◌, ◌-◌, ℕ, zero, suc, cond, [], ◌∷◌, ◌++◌, drop, take, take-add, drop-drop, Option, arith, refl, sym, ap, subst, ◌∙◌}
use Rattle.std.specs.BTreeMap.{is_at}
use Rattle.table_schema.specs.Fields.{Pairs}
use Rattle.table_schema.specs.Key.{key_cmp}
use Rattle.table_schema.specs.Rows.{fields_at}
use Rattle.table_schema.specs.declared.key.Key.{Key}
use Rattle.producer_table.specs.Pending.{PendingKeys, op_of, row_with_pending}
use Rattle.consumer_table.specs.Ops.{Ops, ops_with}
use Rattle.sync_tables.specs.Tables.{PopsBatch, PopsFirst, PopsInPart, PopsNone, TablesState, ops_popped, row_popped}

ops_popped-append : (ops : Ops) (xs ys : PendingKeys) → ops_popped ops (xs ++ ys) ≡ ops_popped (ops_popped ops xs) ys
ops_popped-append ops [] ys = refl
ops_popped-append ops (x ∷ xs) ys = ops_popped-append (ops_with ops (op_of x)) xs ys

row_popped-append : (q : Key) (row : Option Pairs) (xs ys : PendingKeys) → row_popped q row (xs ++ ys) ≡ row_popped q (row_popped q row xs) ys
row_popped-append q row [] ys = refl
row_popped-append q row (x ∷ xs) ys = row_popped-append q (cond (is_at (key_cmp q) x.0) (row_with_pending row x.1) row) xs ys

-- the first key
pub batch-first : (old new : TablesState) → PopsFirst old new → PopsBatch 1 old new
batch-first old new h =
    let one : take 1 old.waiting ≡ h.first ∷ [] = ap (take 1) h.waiting in
    record {
      waiting = sym (ap (drop 1) h.waiting);
      rows = λ q. h.rows q ∙ ap (row_popped q (fields_at old.rows q)) (sym one);
      ops = h.ops ∙ ap (ops_popped old.ops) (sym one);
    }

-- a batch, and then another
pub batch-then : (old mid new : TablesState) (i n : ℕ) → PopsBatch i old mid → PopsBatch n mid new → PopsBatch (i + n) old new
batch-then old mid new i n a b =
    let parts : take (i + n) old.waiting ≡ take i old.waiting ++ take n mid.waiting = take-add i n old.waiting ∙ ap (λ w. take i old.waiting ++ take n w) (sym a.waiting) in
    record {
      waiting = b.waiting ∙ ap (drop n) a.waiting ∙ drop-drop n i old.waiting;
      rows = λ q.
          b.rows q ∙ ap (λ r. row_popped q r (take n mid.waiting)) (a.rows q)
          ∙ sym (row_popped-append q (fields_at old.rows q) (take i old.waiting) (take n mid.waiting)) ∙ ap (row_popped q (fields_at old.rows q)) (sym parts);
      ops =
          b.ops ∙ ap (λ o. ops_popped o (take n mid.waiting)) a.ops
          ∙ sym (ops_popped-append old.ops (take i old.waiting) (take n mid.waiting)) ∙ ap (ops_popped old.ops) (sym parts);
    }

take_none : {X : Type 0} (i : ℕ) → take {A = X} i [] ≡ []
take_none zero = refl
take_none (suc i) = refl

drop_none : {X : Type 0} (i : ℕ) → drop {A = X} i [] ≡ []
drop_none zero = refl
drop_none (suc i) = refl

-- where none waits, however many
pub batch-none : (old : TablesState) (n : ℕ) → old.waiting ≡ [] → PopsBatch n old old
batch-none old n none =
    let gone : take n old.waiting ≡ [] = ap (take n) none ∙ take_none n in
    record {
      waiting = none ∙ sym (drop_none n) ∙ ap (drop n) (sym none);
      rows = λ q. ap (row_popped q (fields_at old.rows q)) (sym gone);
      ops = ap (ops_popped old.ops) (sym gone);
    }

pub batch-more : (old new : TablesState) (i n : ℕ) → old.waiting ≡ [] → PopsBatch i old new → PopsBatch n old new
batch-more old new i n none b =
    let same : take i old.waiting ≡ take n old.waiting = ap (take i) none ∙ take_none i ∙ sym (take_none n) ∙ ap (take n) (sym none) in
    record {
      waiting = b.waiting ∙ ap (drop i) none ∙ drop_none i ∙ sym (drop_none n) ∙ ap (drop n) (sym none);
      rows = λ q. b.rows q ∙ ap (row_popped q (fields_at old.rows q)) same;
      ops = b.ops ∙ ap (ops_popped old.ops) same;
    }

pub batch-all : (old mid new : TablesState) (i j n : ℕ) → i ≤ n → PopsBatch i old mid → mid.waiting ≡ [] → PopsBatch j mid new → PopsBatch n old new
batch-all old mid new i j n within a none b =
    let whole : i + (n - i) ≡ n = omega (arith, within) in
    subst (λ m. PopsBatch m old new) whole (batch-then old mid new i (n - i) a (batch-more mid new j (n - i) none b))

-- ---- where memory was refused

batch-zero : (old : TablesState) → PopsBatch 0 old old
batch-zero old = record { waiting = refl; rows = λ q. refl; ops = refl }

pub part-none : (old new : TablesState) (n : ℕ) → 0 < n → PopsNone old new → PopsInPart n old new
part-none old new n more h = record { count = 0; fewer = more; popped = old; before = batch-zero old; refused = h }

pub part-then : (old mid new : TablesState) (i n most : ℕ) → i + n ≤ most → PopsBatch i old mid → PopsInPart n mid new → PopsInPart most old new
part-then old mid new i n most within a h =
    let fewer = h.fewer in
    record { count = i + h.count; fewer = omega (arith, within, fewer); popped = h.popped; before = batch-then old mid h.popped i h.count a h.before; refused = h.refused }
