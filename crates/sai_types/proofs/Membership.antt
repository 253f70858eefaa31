-- what is in a list: in lists that are joined, in the image of a list, and what holds of all of a list
use Rattle.std.proofs.Common.{◌≡◌, inl, inr, ◌⊎◌, ◌++◌, List, [], ◌∷◌, map, refl, ap}
use Rattle.std.specs.List.{AllByRecursion}
use Rattle.sai_types.specs.Alike.{IsIn}

pub in-left : {X : Type 0} (x : X) (xs ys : List X) → IsIn x xs → IsIn x (xs ++ ys)
in-left x [] ys h = elim h [ ]
in-left x (y ∷ xs) ys (inl is) = inl is
in-left x (y ∷ xs) ys (inr h) = inr (in-left x xs ys h)

pub in-right : {X : Type 0} (x : X) (xs ys : List X) → IsIn x ys → IsIn x (xs ++ ys)
in-right x [] ys h = h
in-right x (y ∷ xs) ys h = inr (in-right x xs ys h)

pub in-either : {X : Type 0} (x : X) (xs ys : List X) → IsIn x (xs ++ ys) → IsIn x xs ⊎ IsIn x ys
in-either x [] ys h = inr h
in-either x (y ∷ xs) ys (inl is) = inl (inl is)
in-either x (y ∷ xs) ys (inr h) = elim (in-either x xs ys h) [ inl i ↦ inl (inr i) | inr i ↦ inr i ]

-- an item of a list that one was added to
pub in-push : {X : Type 0} (xs : List X) (x y : X) → IsIn y (xs ++ x ∷ []) → IsIn y xs ⊎ (y ≡ x)
in-push [] x y (inl is) = inr is
in-push [] x y (inr h) = absurd h
in-push (z ∷ zs) x y (inl is) = inl (inl is)
in-push (z ∷ zs) x y (inr h) = by (in-push zs x y h)
  where
    by : IsIn y zs ⊎ (y ≡ x) → IsIn y (z ∷ zs) ⊎ (y ≡ x)
    by (inl g) = inl (inr g)
    by (inr is) = inr is

pub in-map : {X Y : Type 0} (f : X → Y) (xs : List X) (x : X) → IsIn x xs → IsIn (f x) (map f xs)
in-map f [] x i = elim i [ ]
in-map f (y ∷ xs) x (inl is) = inl (ap f is)
in-map f (y ∷ xs) x (inr i) = inr (in-map f xs x i)

pub map-in : {X Y : Type 0} (f : X → Y) (xs : List X) (y : Y) → IsIn y (map f xs) → (x : X) × IsIn x xs × (y ≡ f x)
map-in f [] y i = elim i [ ]
map-in f (x ∷ xs) y (inl is) = (x, inl refl, is)
map-in f (x ∷ xs) y (inr i) = let rest = map-in f xs y i in (rest.0, inr rest.1, rest.2)

-- what holds of each item holds of all
pub all-in : {X : Type 0} (P : X → Type 0) (xs : List X) → ((x : X) → IsIn x xs → P x) → AllByRecursion P xs
all-in P [] h = tt
all-in P (x ∷ xs) h = (h x (inl refl), all-in P xs (λ y i. h y (inr i)))
