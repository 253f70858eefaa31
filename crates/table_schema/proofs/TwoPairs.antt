-- rows of two pairs
use Rattle.std.proofs.Common.{◌≡◌, ℕ, ◌<◌, ◌≤◌, List, [], ◌∷◌, length, get_or, true, bytes_eq, sym, ap, ap₂, ◌∙◌, arith}
use Rattle.std.proofs.lemmas.Slice.Eq.{bytes_eq-Decides}
use Rattle.table_schema.specs.Fields.{Pairs}

named : (p : List ℕ × List ℕ) (a : List ℕ) → bytes_eq p.0 a ≡ true → p ≡ (a, p.1)
named p a h = ap (λ n. (n, p.1)) ((bytes_eq-Decides p.0 a).0 h)

-- two pairs, by their names
pub two_named : (pairs : Pairs) (p q : List ℕ × List ℕ) (a b : List ℕ) → p ≡ get_or pairs 0 p → q ≡ get_or pairs 1 q → 2 ≤ length pairs → length pairs < 3 → bytes_eq p.0 a ≡ true → bytes_eq q.0 b ≡ true → pairs ≡ (a, p.1) ∷ (b, q.1) ∷ []
two_named [] p q a b is is' many few h h' = absurd (omega arith)
two_named (x ∷ []) p q a b is is' many few h h' = absurd (omega arith)
two_named (x ∷ y ∷ []) p q a b is is' many few h h' = ap₂ (λ s t. s ∷ t ∷ []) (sym is ∙ named p a h) (sym is' ∙ named q b h')
two_named (x ∷ y ∷ z ∷ pairs) p q a b is is' many few h h' = absurd (omega arith)
