-- the items of short lists
use Rattle.std.proofs.Common.{◌≡◌, inl, inr, List, [], ◌∷◌, map, Option, None, Some, refl, sym, ap, subst}
use Rattle.sai_types.specs.Alike.{IsIn}
use Rattle.row_layout.specs.Rows.{from}

-- what holds of the one item of a list, or of both, holds of each
pub only : {X : Type 0} (P : X → Type 0) (x y : X) → P y → IsIn x (y ∷ []) → P x
only P x y p (inl same) = subst P (sym same) p
only P x y p (inr h) = elim h [ ]

pub two : {X : Type 0} (P : X → Type 0) (x y z : X) → P y → P z → IsIn x (y ∷ z ∷ []) → P x
two P x y z p q (inl same) = subst P (sym same) p
two P x y z p q (inr h) = only P x z q h

pub from_in : {X Y : Type 0} (o : Option X) (f : X → List Y) (y : Y) → IsIn y (from o f) → (x : X) × (o ≡ Some x) × IsIn y (f x)
from_in None f y h = elim h [ ]
from_in (Some x) f y h = (x, refl, h)

pub in_map : {X Y : Type 0} (f : X → Y) (x : X) (xs : List X) → IsIn x xs → IsIn (f x) (map f xs)
in_map f x [] h = elim h [ ]
in_map f x (y ∷ ys) (inl is) = inl (ap f is)
in_map f x (y ∷ ys) (inr h) = inr (in_map f x ys h)
