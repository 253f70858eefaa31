-- what is found among rows and keys is in them
use Rattle.std.proofs.Common.{◌≡◌, inl, inr, Bool, true, false, cond, ◌||◌, List, [], ◌∷◌, Some, refl, sym, ap, subst, ◌∙◌}
use Rattle.std.proofs.lemmas.Bool.{false≢true}
use Rattle.std.specs.BTreeMap.{is_at}
use Rattle.std.specs.List.{AllByRecursion}
use Rattle.std.specs.Map.{keys_of}
use Rattle.std.specs.Ordering.{is_eq}
use Rattle.std.specs.declared.cmp.Ordering.TheVariants.{Less}
use Rattle.table_schema.specs.Fields.{Pairs}
use Rattle.table_schema.specs.Key.{key_cmp}
use Rattle.table_schema.specs.Rows.{HasRisingRows, Rows, fields_at}
use Rattle.table_schema.specs.declared.key.Key.{Key}
use Rattle.table_schema.proofs.Keys.{at_itself, tied_keys_same}
use Rattle.sai_types.specs.Alike.{IsIn}
use Rattle.want_view.specs.Walk.{is_ready}

pub ready-in : (ready : List Key) (k : Key) → is_ready ready k ≡ true → IsIn k ready
ready-in [] k h = absurd (false≢true h)
ready-in (q ∷ qs) k h = by (is_at (key_cmp k) q) refl (ready-in qs k) h
  where
    by : (b : Bool) → is_at (key_cmp k) q ≡ b → (is_ready qs k ≡ true → IsIn k qs) → (b || is_ready qs k) ≡ true → IsIn k (q ∷ qs)
    by true e rest g = inl (tied_keys_same k q e)
    by false e rest g = inr (rest g)

pub in-ready : (ready : List Key) (k : Key) → IsIn k ready → is_ready ready k ≡ true
in-ready [] k h = elim h [ ]
in-ready (q ∷ qs) k (inl same) = rw (at_itself k q same) refl
in-ready (q ∷ qs) k (inr h) = by (is_at (key_cmp k) q) (in-ready qs k h)
  where
    by : (b : Bool) → is_ready qs k ≡ true → (b || is_ready qs k) ≡ true
    by true g = refl
    by false g = g

-- a key with fields has a row
pub fields-in : (rows : Rows) (k : Key) (fields : Pairs) → fields_at rows k ≡ Some fields → IsIn k (keys_of rows)
fields-in [] k fields h = cc
fields-in (e ∷ es) k fields h = by (is_at (key_cmp k) e.0) refl (fields-in es k fields) h
  where
    by : (b : Bool) → is_at (key_cmp k) e.0 ≡ b → (fields_at es k ≡ Some fields → IsIn k (keys_of es)) → cond b (Some e.1) (fields_at es k) ≡ Some fields → IsIn k (e.0 ∷ keys_of es)
    by true same rest g = inl (tied_keys_same k e.0 same)
    by false same rest g = inr (rest g)

-- the keys behind a row are greater
pub behind-greater : (rows : Rows) (k q : Key) → AllByRecursion (λ y. key_cmp k y.0 ≡ Less) rows → IsIn q (keys_of rows) → key_cmp k q ≡ Less
behind-greater [] k q all h = elim h [ ]
behind-greater (e ∷ es) k q all (inl same) = ap (key_cmp k) same ∙ all.0
behind-greater (e ∷ es) k q all (inr h) = behind-greater es k q all.1 h

not_less : (k q : Key) → key_cmp k q ≡ Less → q ≡ k → ⊥
not_less k q less same =
    let itself : key_cmp k k ≡ Less = subst (λ z. key_cmp k z ≡ Less) same less in
    false≢true (ap is_eq (sym itself) ∙ at_itself k k refl)

-- a row that rises among others is found under its key
pub row-found : (rows : Rows) (row : Key × Pairs) → HasRisingRows rows → IsIn row rows → fields_at rows row.0 ≡ Some row.1
row-found [] row rising h = elim h [ ]
row-found (e ∷ es) row rising (inl same) = rw (at_itself row.0 e.0 (ap (λ x. x.0) same)) (ap (λ x. Some x.1) (sym same))
row-found (e ∷ es) row rising (inr h) = by (is_at (key_cmp row.0) e.0) refl (row-found es row rising.1 h)
  where
    key_in : (xs : Rows) → IsIn row xs → IsIn row.0 (keys_of xs)
    key_in [] g = elim g [ ]
    key_in (y ∷ ys) (inl same) = inl (ap (λ z. z.0) same)
    key_in (y ∷ ys) (inr g) = inr (key_in ys g)

    by : (b : Bool) → is_at (key_cmp row.0) e.0 ≡ b → fields_at es row.0 ≡ Some row.1 → fields_at (e ∷ es) row.0 ≡ Some row.1
    by true at rest = absurd (not_less e.0 row.0 (behind-greater es e.0 row.0 rising.0 (key_in es h)) (tied_keys_same row.0 e.0 at))
    by false at rest = rw at rest
