-- lists without doubles, and what a map of them has
use Rattle.std.proofs.Common.{◌≡◌, ◌⊎◌, inl, inr, Bool, true, false, cond, List, [], ◌∷◌, ◌++◌, map, filter, refl, sym, ap, ◌∙◌, subst}
use Rattle.std.proofs.lemmas.Bool.{false≢true}
use Rattle.sai_types.specs.Alike.{IsIn}
use Rattle.sai_types.proofs.Membership.{in-map, in-push, map-in}
use Rattle.chip_layout.specs.Counted.{AreDistinct}

pub in-filter : {X : Type 0} (p : X → Bool) (xs : List X) (x : X) → IsIn x (filter p xs) → IsIn x xs × (p x ≡ true)
in-filter p [] x h = absurd h
in-filter p (y ∷ ys) x h = by (p y) refl h (in-filter p ys x)
  where
    by : (t : Bool) → p y ≡ t → IsIn x (cond t (y ∷ filter p ys) (filter p ys)) → (IsIn x (filter p ys) → IsIn x ys × (p x ≡ true)) → IsIn x (y ∷ ys) × (p x ≡ true)
    by true at (inl is) behind = (inl is, ap p is ∙ at)
    by true at (inr g) behind = let rest = behind g in (inr rest.0, rest.1)
    by false at g behind = let rest = behind g in (inr rest.0, rest.1)

pub filter-in : {X : Type 0} (p : X → Bool) (xs : List X) (x : X) → IsIn x xs → p x ≡ true → IsIn x (filter p xs)
filter-in p [] x h is = absurd h
filter-in p (y ∷ ys) x h is = by (p y) refl h (λ g. filter-in p ys x g is)
  where
    by : (t : Bool) → p y ≡ t → IsIn x (y ∷ ys) → (IsIn x ys → IsIn x (filter p ys)) → IsIn x (cond t (y ∷ filter p ys) (filter p ys))
    by true at (inl same) behind = inl same
    by true at (inr g) behind = inr (behind g)
    by false at (inl same) behind = absurd (false≢true (sym at ∙ ap p (sym same) ∙ is))
    by false at (inr g) behind = behind g

module _ {X Y : Type 0} (f : X → Y) where
  -- what is behind an item has another image
  pub none-behind : (x : X) (xs : List X) (y : X) → AreDistinct (map f (x ∷ xs)) → IsIn y xs → f x ≡ f y → ⊥
  none-behind x xs y d h same = d.0 (subst (λ w. IsIn w (map f xs)) (sym same) (in-map f xs y h))

  pub distinct-filter : (p : X → Bool) (xs : List X) → AreDistinct (map f xs) → AreDistinct (map f (filter p xs))
  distinct-filter p [] d = tt
  distinct-filter p (x ∷ xs) d = by (p x) (distinct-filter p xs d.1)
    where
      by : (t : Bool) → AreDistinct (map f (filter p xs)) → AreDistinct (map f (cond t (x ∷ filter p xs) (filter p xs)))
      by true rest = (λ h. let m = map-in f (filter p xs) (f x) h in none-behind x xs m.0 d (in-filter p xs m.0 m.1).0 m.2, rest)
      by false rest = rest

  pub distinct-push : (xs : List X) (x : X) → AreDistinct (map f xs) → ((y : X) → IsIn y xs → f y ≡ f x → ⊥) → AreDistinct (map f (xs ++ x ∷ []))
  distinct-push [] x d apart = (λ h. h, tt)
  distinct-push (y ∷ ys) x d apart = (λ h. let m = map-in f (ys ++ x ∷ []) (f y) h in by m.0 m.2 (in-push ys x m.0 m.1), distinct-push ys x d.1 (λ z h. apart z (inr h)))
    where
      by : (z : X) → f y ≡ f z → IsIn z ys ⊎ (z ≡ x) → ⊥
      by z same (inl h) = none-behind y ys z d h same
      by z same (inr is) = apart y (inl refl) (same ∙ ap f is)
