-- which keys are to sync, by what is looked up
use Rattle.std.proofs.Common.{◌≡◌, ◌⊎◌, inl, inr, Bool, true, false, ◌||◌, cond, List, [], ◌∷◌, ◌++◌, Option, Some, None, is_some, refl, sym, ap, subst, ◌∙◌}
use Rattle.std.specs.BTreeMap.{is_at}
use Rattle.std.specs.Map.{keys_of, lookup}
use Rattle.std.proofs.lemmas.Bool.{false≢true, or_right}
use Rattle.std.proofs.lemmas.Option.{none-some, same_Some}
use Rattle.sai_types.specs.Alike.{IsIn}
use Rattle.table_schema.specs.Fields.{Pairs}
use Rattle.table_schema.specs.Key.{key_cmp}
use Rattle.table_schema.specs.declared.key.Key.{Key}
use Rattle.table_schema.specs.declared.write.Write.{Write}
use Rattle.table_schema.specs.declared.write.Write.TheVariants.{Set, Del}
use Rattle.table_schema.proofs.Keys.{at_itself, tied_keys_same}
use Rattle.producer_table.specs.Pending.{is_write_of, op_of, set_of}
use Rattle.producer_table.specs.declared.waiting.Pending.{Pending}
use Rattle.consumer_table.specs.Ops.{Ops, op_at, op_with_set, ops_after, ops_after_all, ops_with}
use Rattle.consumer_table.specs.declared.op.Op.{Op}
use Rattle.consumer_table.specs.declared.op.Op.TheVariants as op
use Rattle.consumer_table.proofs.OpWrites.{op_at-after}
use Rattle.sync_tables.specs.Tables.{IsAdded, IsKeptOrLaid, Matters}

module _ {X : Type 0} where
  -- a key that is among the keys is found, and one that is found is among them
  pub in-found : (k : Key) (es : List (Key × X)) → IsIn k (keys_of es) → is_some (lookup (is_at (key_cmp k)) es) ≡ true
  in-found k [] i = elim i [ ]
  in-found k (e ∷ es) (inl is) = ap (λ b. is_some (cond b (Some e.1) (lookup (is_at (key_cmp k)) es))) (at_itself k e.0 is)
  in-found k (e ∷ es) (inr i) =
      let rest = in-found k es i in
      elim (is_at (key_cmp k) e.0) as (λ b. is_some (cond b (Some e.1) (lookup (is_at (key_cmp k)) es)) ≡ true) [ true ↦ refl | false ↦ rest ]

  pub found-in : (k : Key) (es : List (Key × X)) → is_some (lookup (is_at (key_cmp k)) es) ≡ true → IsIn k (keys_of es)
  found-in k [] h = absurd (false≢true h)
  found-in k (e ∷ es) h =
      let rest = found-in k es in
      let by : (b : Bool) → is_at (key_cmp k) e.0 ≡ b → is_some (cond b (Some e.1) (lookup (is_at (key_cmp k)) es)) ≡ true → IsIn k (e.0 ∷ keys_of es) =
      λ b. elim b as (λ b. is_at (key_cmp k) e.0 ≡ b → is_some (cond b (Some e.1) (lookup (is_at (key_cmp k)) es)) ≡ true → IsIn k (e.0 ∷ keys_of es)) [
        | true ↦ λ is _. inl (tied_keys_same k e.0 is)
        | false ↦ λ is more. inr (rest more)
      ] in
      by (is_at (key_cmp k) e.0) refl h

op_put_or : (b : Bool) (v : Op) (o : Option Op) → is_some (cond b (Some v) o) ≡ (b || is_some o)
op_put_or true v o = refl
op_put_or false v o = refl

-- what a write makes of what is found
found-after : (ops : Ops) (w : Write) (q : Key) → is_some (op_at (ops_after ops w) q) ≡ (is_write_of q w || is_some (op_at ops q))
found-after ops (Set k fields) q = ap is_some (op_at-after ops (Set k fields) q) ∙ op_put_or (is_at (key_cmp q) k) (op_with_set (op_at ops q) fields) (op_at ops q)
found-after ops (Del k) q = ap is_some (op_at-after ops (Del k) q) ∙ op_put_or (is_at (key_cmp q) k) op.Del (op_at ops q)

twice : (b c : Bool) → (b || (b || c)) ≡ (b || c)
twice true c = refl
twice false c = refl

member_after_set : (ops : Ops) (k : Key) (dropped : Bool) (o : Option Pairs) (q : Key) → (dropped ≡ true) ⊎ (is_some o ≡ true) → is_some (op_at (ops_after_all ops ((cond dropped (Del k ∷ []) []) ++ set_of k o)) q) ≡ (is_at (key_cmp q) k || is_some (op_at ops q))
member_after_set ops k false None q (inl h) = absurd (false≢true h)
member_after_set ops k false None q (inr h) = absurd (false≢true h)
member_after_set ops k false (Some fields) q h = found-after ops (Set k fields) q
member_after_set ops k true None q h = found-after ops (Del k) q
member_after_set ops k true (Some fields) q h =
    found-after (ops_after ops (Del k)) (Set k fields) q ∙ ap (λ c. is_at (key_cmp q) k || c) (found-after ops (Del k) q) ∙ twice (is_at (key_cmp q) k) (is_some (op_at ops q))

-- what was popped of a key is added: the key is found, and each that was
pub found-with : (ops : Ops) (k : Key) (p : Pending) (q : Key) → Matters p → is_some (op_at (ops_with ops (op_of (k, p))) q) ≡ (is_at (key_cmp q) k || is_some (op_at ops q))
found-with ops k p q h = member_after_set ops k p.dropped p.fields q h

present_or_same : (q k : Key) (ops : Ops) (b : Bool) → is_at (key_cmp q) k ≡ b → (b || is_some (op_at ops q)) ≡ true → IsIn q (keys_of ops) ⊎ (Some q ≡ Some k)
present_or_same q k ops true at h = inr (ap Some (tied_keys_same q k at))
present_or_same q k ops false at h = inl (found-in q ops h)

-- a key is added
pub added : (old : Ops) (k : Key) (p : Pending) → Matters p → IsAdded old (Some k) (ops_with old (op_of (k, p)))
added old k p h = λ q.
    let new = ops_with old (op_of (k, p)) in
    let found = found-with old k p q h in
    let back : IsIn q (keys_of old) ⊎ (Some q ≡ Some k) → (is_at (key_cmp q) k || is_some (op_at old q)) ≡ true =
    λ s. elim s [
      | inl i ↦ or_right (is_at (key_cmp q) k) (is_some (op_at old q)) (in-found q old i)
      | inr is ↦ ap (λ b. b || is_some (op_at old q)) (at_itself q k (same_Some q k is))
    ] in
    ((λ i. present_or_same q k old (is_at (key_cmp q) k) refl (sym found ∙ in-found q new i)), (λ s. found-in q new (found ∙ back s)))

-- where the same keys are found none is added
pub added-none : (old new : Ops) → ((q : Key) → is_some (op_at new q) ≡ is_some (op_at old q)) → IsAdded old None new
added-none old new same = λ q.
    let back : IsIn q (keys_of old) ⊎ (Some q ≡ None) → is_some (op_at old q) ≡ true = λ s. elim s [ inl i ↦ in-found q old i | inr is ↦ absurd (none-some q (sym is)) ] in
    ((λ i. inl (found-in q old (sym (same q) ∙ in-found q new i))), (λ s. found-in q new (same q ∙ back s)))

-- a key is added that was there
there_still : (q k : Key) (old : Ops) (b : Bool) → is_at (key_cmp q) k ≡ b → is_some (op_at old k) ≡ true → (b || is_some (op_at old q)) ≡ is_some (op_at old q)
there_still q k old true at h = sym (ap (λ x. is_some (op_at old x)) (tied_keys_same q k at) ∙ h)
there_still q k old false at h = refl

pub added-there : (old : Ops) (k : Key) (p : Pending) → Matters p → is_some (op_at old k) ≡ true → IsAdded old None (ops_with old (op_of (k, p)))
added-there old k p h there = added-none old (ops_with old (op_of (k, p))) (λ q. found-with old k p q h ∙ there_still q k old (is_at (key_cmp q) k) refl there)

-- so after want of memory no key is added
pub added-kept : (old new : Ops) (e : Key × Pending) → Matters e.1 → IsKeptOrLaid old e new → IsAdded old None new
added-kept old new e h (inl same) = subst (λ n. IsAdded old None n) (sym same) (added-none old old (λ q. refl))
added-kept old new e h (inr laid) = subst (λ n. IsAdded old None n) (sym laid.1) (added-there old e.0 e.1 h (in-found e.0 old laid.0))
