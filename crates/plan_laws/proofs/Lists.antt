-- what is in lists that are joined, and two cuts of one list
use Rattle.std.proofs.Common.{◌≡◌, inl, inr, ◌⊎◌, Bool, true, false, ◌||◌, ◌++◌, List, [], ◌∷◌, refl, sym, ap, ap₂, ◌∙◌}
use Rattle.std.specs.List.{list_any}
use Rattle.std.proofs.lemmas.Bool.{false≢true, or_right}
use Rattle.sai_types.specs.Alike.{IsIn}

-- one of a list passes a test
pub in-any : {X : Type 0} (p : X → Bool) (xs : List X) (x : X) → IsIn x xs → p x ≡ true → list_any p xs ≡ true
in-any p [] x i h = elim i [ ]
in-any p (y ∷ xs) x (inl is) h = ap (λ b. b || list_any p xs) (ap p (sym is) ∙ h)
in-any p (y ∷ xs) x (inr i) h = or_right (p y) (list_any p xs) (in-any p xs x i h)

either_passes : {X : Type 0} (p : X → Bool) (y : X) (xs : List X) (b : Bool) → p y ≡ b → (b || list_any p xs) ≡ true → (list_any p xs ≡ true → (x : X) × IsIn x xs × (p x ≡ true)) → (x : X) × IsIn x (y ∷ xs) × (p x ≡ true)
either_passes p y xs true e h f = (y, inl refl, e)
either_passes p y xs false e h f = let x = f h in (x.0, inr x.1, x.2)

pub any-in : {X : Type 0} (p : X → Bool) (xs : List X) → list_any p xs ≡ true → (x : X) × IsIn x xs × (p x ≡ true)
any-in p [] h = absurd (false≢true h)
any-in p (y ∷ xs) h = either_passes p y xs (p y) refl h (any-in p xs)

-- two cuts of one list: the one is not behind the other
pub cuts : {X : Type 0} (a b c d : List X) → a ++ b ≡ c ++ d → ((m : List X) × (a ≡ c ++ m) × (d ≡ m ++ b)) ⊎ ((m : List X) × (c ≡ a ++ m) × (b ≡ m ++ d))
cuts [] b c d e = inr (c, refl, e)
cuts (x ∷ a) b [] d e = inl (x ∷ a, refl, sym e)
cuts (x ∷ a) b (y ∷ c) d e =
    let head : x ≡ y = cc in
    let tail : a ++ b ≡ c ++ d = cc in
    elim (cuts a b c d tail) [
      | inl m ↦ inl (m.0, ap₂ (λ u v. u ∷ v) head m.1, m.2)
      | inr m ↦ inr (m.0, ap₂ (λ u v. u ∷ v) (sym head) m.1, m.2)
    ]
