-- a key that is done leaves the keys to sync
use Rattle.std.proofs.Common.{◌≡◌, ◌⊎◌, ◌<◌, inl, inr, Bool, true, false, cond, [], ◌∷◌, None, is_some, length, arith, refl, sym, ap, ◌∙◌}
use Rattle.std.specs.BTreeMap.{is_at}
use Rattle.std.specs.Map.{keys_of}
use Rattle.std.proofs.lemmas.Bool.{false≢true}
use Rattle.sai_types.specs.Alike.{IsIn}
use Rattle.table_schema.specs.Key.{key_cmp}
use Rattle.table_schema.specs.declared.key.Key.{Key}
use Rattle.table_schema.proofs.Keys.{at_itself, key_total, tied_keys_same}
use Rattle.producer_table.proofs.Found.{lookup-removed}
use Rattle.consumer_table.specs.Ops.{Ops, AreOpsInOrder, op_at, without_op}
use Rattle.switch_machine.specs.Events.{HasLeft}
use Rattle.sync_tables.proofs.Membership.{found-in, in-found}

module _ (ops : Ops) (k : Key) (order : AreOpsInOrder ops) where
  -- it is found no more, and any other is found as before
  found-later : (q : Key) (b : Bool) → is_at (key_cmp q) k ≡ b → is_some (op_at (without_op ops k) q) ≡ is_some (cond b None (op_at ops q))
  found-later q b at = ap is_some (lookup-removed key_cmp key_total ops k q order.keys) ∙ ap (λ b. is_some (cond b None (op_at ops q))) at

  gone : (q : Key) → is_at (key_cmp q) k ≡ true → IsIn q (keys_of (without_op ops k)) → ⊥
  gone q at i = false≢true (sym (found-later q true at) ∙ in-found q (without_op ops k) i)

  other : (q : Key) (b : Bool) → is_at (key_cmp q) k ≡ b → IsIn q (keys_of ops) → (q ≡ k) ⊎ IsIn q (keys_of (without_op ops k))
  other q true at i = inl (tied_keys_same q k at)
  other q false at i = inr (found-in q (without_op ops k) (found-later q false at ∙ in-found q ops i))

  only : (q : Key) (b : Bool) → is_at (key_cmp q) k ≡ b → IsIn q (keys_of (without_op ops k)) → IsIn q (keys_of ops)
  only q true at i = absurd (gone q at i)
  only q false at i = found-in q ops (sym (found-later q false at) ∙ in-found q (without_op ops k) i)

  pub has_left : IsIn k (keys_of ops) → HasLeft k (keys_of ops) (keys_of (without_op ops k))
  has_left there = record {
    there = there;
    gone = gone k (at_itself k k refl);
    others = λ q. other q (is_at (key_cmp q) k) refl;
    only = λ q. only q (is_at (key_cmp q) k) refl;
  }

-- and makes them fewer
pub fewer-keys : (ops : Ops) (k : Key) → IsIn k (keys_of ops) → length (keys_of (without_op ops k)) < length (keys_of ops)
fewer-keys [] k i = elim i [ ]
fewer-keys (e ∷ es) k i =
    let rest = fewer-keys es k in
    let by : (b : Bool) → is_at (key_cmp k) e.0 ≡ b → length (keys_of (cond b es (e ∷ without_op es k))) < length (e.0 ∷ keys_of es) =
    λ b. elim b as (λ b. is_at (key_cmp k) e.0 ≡ b → length (keys_of (cond b es (e ∷ without_op es k))) < length (e.0 ∷ keys_of es)) [
      | true ↦ λ at. omega arith
      | false ↦ λ apart. elim i [ inl is ↦ absurd (false≢true (sym apart ∙ at_itself k e.0 is)) | inr later ↦ let less = rest later in omega (arith, less) ]
    ] in
    by (is_at (key_cmp k) e.0) refl
