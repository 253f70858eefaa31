-- the keys that a pass lists stand in key order, each once
use Rattle.std.proofs.Common.{◌≡◌, ◌∷◌, inl, inr, ℕ, List, [], map, Option, refl, sym, ap, subst}
use Rattle.std.specs.List.{AllByRecursion}
use Rattle.std.specs.List.Sorted.{IsStrictlySortedBy}
use Rattle.std.specs.declared.cmp.Ordering.TheVariants.{Less}
use Rattle.std.proofs.lemmas.Map.Keys.{sorted_tail}
use Rattle.table_schema.specs.Key.{key_cmp}
use Rattle.table_schema.specs.Plan.{Ports}
use Rattle.table_schema.specs.declared.key.Key.{Key}
use Rattle.table_schema.specs.declared.row.Row.{Row}
use Rattle.sai_types.specs.Alike.{IsIn}
use Rattle.switch_model.specs.Marks.{AreInOrder}
use Rattle.switch_model.specs.declared.wait.Wait.{Wait}
use Rattle.switch_machine.specs.Events.{SwitchState}
use Rattle.restart_laws.specs.Restored.{IsPass, waiting_of}
use Rattle.restart_laws.proofs.Order.{above}

all_above : (k : Key) (ws : List (Key × Wait)) → ((q : Key) (w : Wait) → IsIn (q, w) ws → key_cmp k q ≡ Less) → AllByRecursion (λ y. key_cmp k y ≡ Less) (map (λ (w : Key × Wait × Option Row). w.0) (waiting_of ws))
all_above k [] h = tt
all_above k (x ∷ xs) h = (h x.0 x.1 (inl refl), all_above k xs (λ q w i. h q w (inr i)))

one_wait_more : (k : Key) (w : Wait) (ws : List (Key × Wait)) → ((q : Key) (v : Wait) → IsIn (q, v) ws → key_cmp k q ≡ Less) → AreInOrder (waiting_of ws) → AreInOrder (waiting_of ((k, w) ∷ ws))
unfolding IsStrictlySortedBy
one_wait_more k w ws less order = (all_above k ws less, order)

none_listed : AreInOrder []
unfolding IsStrictlySortedBy
none_listed = tt

module _ (plan : Ports) (workers : ℕ) (capacities : List ℕ) where
  -- a key that is listed is one of the pass's
  listed_in : (s t : SwitchState) (ks : List Key) (waits : List (Key × Wait)) → IsPass plan workers capacities s ks waits t → (q : Key) (w : Wait) → IsIn (q, w) waits → IsIn q ks
  listed_in s t [] waits x q w h = elim (subst (IsIn (q, w)) x.0 h) [ ]
  listed_in s t (k ∷ ks) waits (inl x) q w h = by (λ i. listed_in s t ks x.0.rest x.1 q w i) (subst (IsIn (q, w)) x.0.is h)
    where
      by : (IsIn (q, w) x.0.rest → IsIn q ks) → IsIn (q, w) ((k, x.0.wait) ∷ x.0.rest) → IsIn q (k ∷ ks)
      by again (inl e) = inl (ap (λ (z : Key × Wait). z.0) e)
      by again (inr i) = inr (again i)
  listed_in s t (k ∷ ks) waits (inr (mid, x, rest)) q w h = inr (listed_in mid t ks waits rest q w h)

  pub pass-rising : (s t : SwitchState) (ks : List Key) (waits : List (Key × Wait)) → IsStrictlySortedBy key_cmp ks → IsPass plan workers capacities s ks waits t → AreInOrder (waiting_of waits)
  pass-rising s t [] waits sorted x = subst (λ z. AreInOrder (waiting_of z)) (sym x.0) none_listed
  pass-rising s t (k ∷ ks) waits sorted (inl x) =
      subst (λ z. AreInOrder (waiting_of z)) (sym x.0.is)
      (one_wait_more k x.0.wait x.0.rest (λ q w i. above k q ks sorted (listed_in s t ks x.0.rest x.1 q w i)) (pass-rising s t ks x.0.rest (sorted_tail key_cmp k ks sorted) x.1))
  pass-rising s t (k ∷ ks) waits sorted (inr (mid, x, rest)) = pass-rising mid t ks waits (sorted_tail key_cmp k ks sorted) rest
