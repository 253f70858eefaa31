-- pairs laid over none
use Rattle.std.proofs.Common.{◌≡◌, List, [], ◌∷◌, ℕ, refl, ap, ◌∙◌}
use Rattle.std.specs.List.{AllByRecursion}
use Rattle.std.specs.Ordering.{match_ordering, ordering_reverse}
use Rattle.std.specs.Cmp.{IsTotalOrder}
use Rattle.std.specs.declared.cmp.Ordering.{Ordering}
use Rattle.std.specs.declared.cmp.Ordering.TheVariants.{Less, Greater}
use Rattle.std.proofs.lemmas.Cmp.{nat_list_cmp_total}
use Rattle.table_schema.specs.Fields.{Pairs, by_bytes, HasRisingNames, with_pair, merged}

pub order : IsTotalOrder by_bytes
order = nat_list_cmp_total

-- one put, by the order of the two names
put_step : (x : List ℕ × List ℕ) (xs : Pairs) (y : List ℕ × List ℕ) (r : Ordering) → by_bytes y.0 x.0 ≡ r → with_pair (x ∷ xs) y.0 y.1 ≡ match_ordering r ((y.0, y.1) ∷ x ∷ xs) ((x.0, y.1) ∷ xs) (x ∷ with_pair xs y.0 y.1)
put_step x xs y r h = ap (λ o. match_ordering o ((y.0, y.1) ∷ x ∷ xs) ((x.0, y.1) ∷ xs) (x ∷ with_pair xs y.0 y.1)) h

turned : (a b : List ℕ) (r : Ordering) → by_bytes a b ≡ r → by_bytes b a ≡ ordering_reverse r
turned a b r h = order.antisymm b a ∙ ap ordering_reverse h

-- a pair whose name is below all others stays in front
merged-past : (x : List ℕ × List ℕ) (xs ys : Pairs) → AllByRecursion (λ y. by_bytes x.0 y.0 ≡ Less) ys → merged (x ∷ xs) ys ≡ x ∷ merged xs ys
merged-past x xs [] h = refl
merged-past x xs (y ∷ ys) h =
    ap (λ l. merged l ys) (put_step x xs y Greater (turned x.0 y.0 Less h.0)) ∙ merged-past x (with_pair xs y.0 y.1) ys h.1

-- what is merged with nothing
pub merged-nil : (ys : Pairs) → HasRisingNames ys → merged [] ys ≡ ys
merged-nil [] h = refl
merged-nil (y ∷ ys) h = merged-past y [] ys h.0 ∙ ap (λ l. y ∷ l) (merged-nil ys h.1)
