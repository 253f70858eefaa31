-- what turns leave is in key order, and two such lists of the same keys are one
use Rattle.std.proofs.Common.{◌≡◌, ◌⊎◌, ◌∷◌, ◌∙◌, inl, inr, ℕ, zero, suc, List, [], refl, sym, ap₂, subst}
use Rattle.std.specs.List.Sorted.{IsStrictlySortedBy}
use Rattle.std.specs.declared.cmp.Ordering.TheVariants.{Less}
use Rattle.table_schema.specs.Key.{key_cmp}
use Rattle.table_schema.specs.Plan.{Ports}
use Rattle.table_schema.specs.declared.key.Key.{Key}
use Rattle.table_schema.proofs.Keys.{key_total}
use Rattle.sai_types.specs.declared.ids.Rid.{Rid}
use Rattle.sai_types.specs.declared.body.Call.{Call}
use Rattle.sai_types.specs.Alike.{IsIn}
use Rattle.switch_model.specs.Good.{TypedRows}
use Rattle.machine_laws.specs.Calls.{AreTurnsWith, IsTurnWith, Situation}
use Rattle.machine_laws.specs.ToSync.{AreInKeyOrder}
use Rattle.machine_laws.proofs.Existing.{less_apart}
use Rattle.registry_laws.proofs.Listing.{all_at}

module _ (plan : Ports) (capacities : List ℕ) (good : TypedRows) where
  turn_within : (ks : List Key) (s t : Situation) (left : List Key) (calls : List (Call Rid)) → IsTurnWith plan capacities good s ks t left calls → (q : Key) → IsIn q left → IsIn q ks
  turn_within [] s t left calls (e, none, no_call) q i = subst (IsIn q) none i
  turn_within (k ∷ ks) s t left calls (inl (reason, rest, is, more)) q i = by (turn_within ks s t rest calls more q) (subst (IsIn q) is i)
    where
      by : (IsIn q rest → IsIn q ks) → IsIn q (k ∷ rest) → IsIn q (k ∷ ks)
      by within (inl same) = inl same
      by within (inr at) = inr (within at)
  turn_within (k ∷ ks) s t left calls (inr (none, mid, own, rest, x, e, more)) q i = inr (turn_within ks mid t left rest more q i)

  turn_order : (ks : List Key) (s t : Situation) (left : List Key) (calls : List (Call Rid)) → IsTurnWith plan capacities good s ks t left calls → AreInKeyOrder ks → AreInKeyOrder left
  turn_order [] s t left calls (e, none, no_call) order = subst AreInKeyOrder (sym none) tt
  turn_order (k ∷ ks) s t left calls (inl (reason, rest, is, more)) order = subst AreInKeyOrder (sym is) ((λ q i. order.0 q (turn_within ks s t rest calls more q i)), turn_order ks s t rest calls more order.1)
  turn_order (k ∷ ks) s t left calls (inr (none, mid, own, rest, x, e, more)) order = turn_order ks mid t left rest more order.1

  pub turns-order : (n : ℕ) (s t : Situation) (keys left : List Key) (calls : List (Call Rid)) → AreTurnsWith plan capacities good n s keys t left calls → AreInKeyOrder keys → AreInKeyOrder left
  turns-order zero s t keys left calls (none, e, gone, no_call) order = subst AreInKeyOrder (sym gone) tt
  turns-order (suc n) s t keys left calls (some, mid, rest, own, one, inl (e, zero_more, at, gone, all)) order = subst AreInKeyOrder (sym gone) (turn_order keys s mid rest own one order)
  turns-order (suc n) s t keys left calls (some, mid, rest, own, one, inr (less, more, all, later)) order = turns-order n mid t rest left more later (turn_order keys s mid rest own one order)

pub sorted-order : (ks : List Key) → IsStrictlySortedBy key_cmp ks → AreInKeyOrder ks
unfolding IsStrictlySortedBy
sorted-order [] h = tt
sorted-order (k ∷ ks) h = ((λ q i. all_at (λ z. key_cmp k z ≡ Less) ks q h.0 i), sorted-order ks h.1)

-- the keys behind the first
in_rest_too : (x y : Key) (xs ys : List Key) → ((q : Key) → IsIn q xs → key_cmp x q ≡ Less) → x ≡ y → ((k : Key) → IsIn k (x ∷ xs) → IsIn k (y ∷ ys)) → (k : Key) → IsIn k xs → IsIn k ys
in_rest_too x y xs ys least same among k i = by (among k (inr i))
  where
    by : (k ≡ y) ⊎ IsIn k ys → IsIn k ys
    by (inl is) = absurd (less_apart x k (least k i) (is ∙ sym same))
    by (inr at) = at

-- two lists in key order of the same keys are one
pub same-order : (xs ys : List Key) → AreInKeyOrder xs → AreInKeyOrder ys → ((k : Key) → IsIn k xs → IsIn k ys) → ((k : Key) → IsIn k ys → IsIn k xs) → xs ≡ ys
same-order [] [] xs_rise ys_rise into back = refl
same-order [] (y ∷ ys) xs_rise ys_rise into back = absurd (back y (inl refl))
same-order (x ∷ xs) [] xs_rise ys_rise into back = absurd (into x (inl refl))
same-order (x ∷ xs) (y ∷ ys) xs_rise ys_rise into back =
    ap₂ (λ k ks. k ∷ ks) first (same-order xs ys xs_rise.1 ys_rise.1 (in_rest_too x y xs ys xs_rise.0 first into) (in_rest_too y x ys xs ys_rise.0 (sym first) back))
  where
    by : (x ≡ y) ⊎ IsIn x ys → (y ≡ x) ⊎ IsIn y xs → x ≡ y
    by (inl same) there = same
    by (inr i) (inl same) = sym same
    by (inr i) (inr j) = absurd (less_apart x x (key_total.trans x y x (xs_rise.0 y j) (ys_rise.0 x i)) refl)

    first : x ≡ y
    first = by (into x (inl refl)) (back y (inl refl))
