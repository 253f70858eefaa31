-- what can be decided of lists
use Rattle.std.proofs.Common.{◌≡◌, ◌⊎◌, ◌∷◌, inl, inr, Bool, true, false, List, [], refl, sym, subst}
use Rattle.std.proofs.lemmas.Bool.{false≢true}
use Rattle.sai_types.specs.Alike.{IsIn}
use Rattle.row_layout.specs.Rows.{Owner}
use Rattle.switch_machine.proofs.Splits.{owner_split}

abbrev pub IsDecided : Type 0 → Type 0
IsDecided X = X ⊎ (X → ⊥)

-- whether one of the items is so
pub any_decided : {A : Type 0} (P : A → Type 0) → ((x : A) → IsDecided (P x)) → (xs : List A) → IsDecided ((x : A) × IsIn x xs × P x)
any_decided P d [] = inr (λ h. elim h.1 [ ])
any_decided {A} P d (x ∷ xs) = by (d x) (any_decided P d xs)
  where
    by : IsDecided (P x) → IsDecided ((y : A) × IsIn y xs × P y) → IsDecided ((y : A) × IsIn y (x ∷ xs) × P y)
    by (inl p) _ = inl (x, inl refl, p)
    by (inr not) (inl h) = inl (h.0, inr h.1, h.2)
    by (inr not) (inr none) = inr (λ h. neither h.0 h.1 h.2)
      where
        neither : (y : A) → (y ≡ x) ⊎ IsIn y xs → P y → ⊥
        neither y (inl e) p = not (subst P e p)
        neither y (inr at) p = none (y, at, p)

pub in_split : (o : Owner) (xs : List Owner) → IsDecided (IsIn o xs)
in_split o xs = by (any_decided (λ p. o ≡ p) (λ p. owner_split o p) xs)
  where
    by : IsDecided ((p : Owner) × IsIn p xs × (o ≡ p)) → IsDecided (IsIn o xs)
    by (inl (p, at, e)) = inl (subst (λ z. IsIn z xs) (sym e) at)
    by (inr none) = inr (λ at. none (o, at, refl))

pub both_or : {X Y : Type 0} → IsDecided X → IsDecided Y → IsDecided (X × Y)
both_or (inl x) (inl y) = inl (x, y)
both_or (inl x) (inr not) = inr (λ h. not h.1)
both_or (inr not) _ = inr (λ h. not h.0)

pub not_or : {X : Type 0} → IsDecided X → IsDecided (X → ⊥)
not_or (inl x) = inr (λ f. f x)
not_or (inr f) = inl f

abbrev pub is_so : {X : Type 0} → IsDecided X → Bool
is_so (inl x) = true
is_so (inr not) = false

pub so_told : {X : Type 0} (d : IsDecided X) → is_so d ≡ true → X
so_told (inl x) h = x
so_told (inr not) h = absurd (false≢true h)

pub so_found : {X : Type 0} (d : IsDecided X) → X → is_so d ≡ true
so_found (inl x) h = refl
so_found (inr not) h = absurd (not h)
