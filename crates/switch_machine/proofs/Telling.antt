-- the rows with what waits are the fold of the writes taken
use Rattle.std.proofs.Common.{◌≡◌, ◌⊎◌, inl, inr, ◌∷◌, ◌∙◌, Bool, true, false, cond, [], None, Some, unwrap_or, if◌then◌else◌, refl, sym, ap}
use Rattle.std.specs.BTreeMap.{is_at}
use Rattle.std.specs.Cmp.{eq_by_cmp_equiv}
use Rattle.std.specs.declared.cmp.Ordering.TheVariants.{Less}
use Rattle.std.specs.List.{AllByRecursion}
use Rattle.std.specs.List.Sorted.{IsStrictlySortedBy}
use Rattle.std.specs.Map.{keys_of}
use Rattle.swss_types.proofs.Tied.{tied}
use Rattle.swss_types.proofs.Maps.{lookup-insert_entry}
use Rattle.table_schema.specs.Fields.{Pairs, merged}
use Rattle.table_schema.specs.Key.{key_cmp}
use Rattle.table_schema.specs.Rows.{HasRisingRows, Rows, after_write, fields_at, rows_of}
use Rattle.table_schema.specs.declared.key.Key.{Key}
use Rattle.table_schema.specs.declared.write.Write.{Write}
use Rattle.table_schema.specs.declared.write.Write.TheVariants as write
use Rattle.table_schema.proofs.Keys.{key_exact, key_total}
use Rattle.table_schema.proofs.RowLists.{HasRisingRows-rows_of, after_writes-more}
use Rattle.sai_types.proofs.Maps.{lookup-removed}
use Rattle.switch_machine.specs.Written.{ArePopped, IsAsBefore, IsPoppedKey, IsTold, TakesWrite, Written, fields_after}

keys_all_greater : (k : Key) (es : Rows) → AllByRecursion (λ (y : Key × Pairs). key_cmp k y.0 ≡ Less) es → AllByRecursion (λ y. key_cmp k y ≡ Less) (keys_of es)
keys_all_greater k [] h = tt
keys_all_greater k (e ∷ es) h = (h.0, keys_all_greater k es h.1)

sorted_keys : (es : Rows) → HasRisingRows es → IsStrictlySortedBy key_cmp (keys_of es)
unfolding IsStrictlySortedBy
sorted_keys [] h = tt
sorted_keys (e ∷ es) h = (keys_all_greater e.0 es h.0, sorted_keys es h.1)

set_by : (rows : Rows) (key k : Key) (fields : Pairs) (b : Bool) → is_at (key_cmp k) key ≡ b → cond b (Some (merged (unwrap_or (fields_at rows key) []) fields)) (fields_at rows k) ≡ (if b then Some (merged (unwrap_or (fields_at rows k) []) fields) else fields_at rows k)
set_by rows key k fields true e = ap (λ z. Some (merged (unwrap_or (fields_at rows z) []) fields)) (sym (key_exact k key (tied (key_cmp k key) e)))
set_by rows key k fields false e = refl

after_one : (rows : Rows) (w : Write) (k : Key) → HasRisingRows rows → fields_at (after_write rows w) k ≡ fields_after w k (fields_at rows k)
after_one rows (write.Set key fields) k rising = lookup-insert_entry key_cmp key_total rows key (merged (unwrap_or (fields_at rows key) []) fields) k ∙ set_by rows key k fields (is_at (key_cmp k) key) refl
after_one rows (write.Del key) k rising = lookup-removed key_cmp key_total rows key k (sorted_keys rows rising) ∙ ap (λ b. cond b None (fields_at rows k)) ((eq_by_cmp_equiv key_total).symm key k)

pub told-taken : (w : Write) (old new : Written) → TakesWrite w old new → IsTold old → IsTold new
told-taken w old new x told k =
    ap (λ z. fields_at (rows_of z) k) x.taken
    ∙ ap (λ z. fields_at z k) (after_writes-more [] old.taken w)
    ∙ after_one (rows_of old.taken) w k (HasRisingRows-rows_of old.taken)
    ∙ ap (fields_after w k) (told k)
    ∙ sym (x.waiting k (old.rows k))
    ∙ ap (new.waiting k) (sym (x.rows k))

pub told-popped : (old new : Written) → ArePopped old new → IsTold old → IsTold new
told-popped old new x told k = ap (λ z. fields_at (rows_of z) k) x.taken ∙ told k ∙ by (x.keys k)
  where
    by : IsAsBefore old new k ⊎ IsPoppedKey old new k → old.waiting k (old.rows k) ≡ new.waiting k (new.rows k)
    by (inl same) = ap (old.waiting k) (sym same.row) ∙ sym (same.waiting (new.rows k))
    by (inr popped) = sym (popped.none (new.rows k) ∙ popped.row)
