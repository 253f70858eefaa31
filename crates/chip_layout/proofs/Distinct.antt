-- lists without doubles
use Rattle.std.proofs.Common.{◌≡◌, inl, inr, List, [], ◌∷◌, map, sym, ap, ◌∙◌, subst, refl}
use Rattle.sai_types.specs.Alike.{IsIn}
use Rattle.sai_types.proofs.Membership.{in-map, map-in}
use Rattle.chip_layout.specs.Counted.{AreDistinct}

-- two items with one image are one
pub one-of : {X Y : Type 0} (f : X → Y) (xs : List X) (x y : X) → AreDistinct (map f xs) → IsIn x xs → IsIn y xs → f x ≡ f y → x ≡ y
one-of f [] x y d h g same = absurd h
one-of f (z ∷ zs) x y d (inl is) (inl at) same = is ∙ sym at
one-of f (z ∷ zs) x y d (inl is) (inr g) same = absurd (d.0 (subst (λ w. IsIn w (map f zs)) (sym same ∙ ap f is) (in-map f zs y g)))
one-of f (z ∷ zs) x y d (inr h) (inl at) same = absurd (d.0 (subst (λ w. IsIn w (map f zs)) (same ∙ ap f at) (in-map f zs x h)))
one-of f (z ∷ zs) x y d (inr h) (inr g) same = one-of f zs x y d.1 h g same

-- other images are as distinct, where they are the same for no other items
pub distinct-by : {X Y Z : Type 0} (f : X → Y) (h : X → Z) (xs : List X) → ((x y : X) → IsIn x xs → IsIn y xs → h x ≡ h y → f x ≡ f y) → AreDistinct (map f xs) → AreDistinct (map h xs)
distinct-by f h [] same d = tt
distinct-by f h (x ∷ xs) same d = (
  λ i. let m = map-in h xs (h x) i in d.0 (subst (λ w. IsIn w (map f xs)) (sym (same x m.0 (inl refl) (inr m.1) m.2)) (in-map f xs m.0 m.1)),
  distinct-by f h xs (λ y z i j. same y z (inr i) (inr j)) d.1,
)
