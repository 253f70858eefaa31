-- texts that are read part by part
use Rattle.std.proofs.Common.{◌≡◌, ℕ, suc, ◌+◌, ◌<◌, List, [], ◌∷◌, length, Option, None, Some, Bor, refl, ap, subst}
use Rattle.swss_types.specs.Parts.{parts_at, each_of, with_value, AllBelow}

-- the values in the text that is left
abbrev pub each_left : (List ℕ → Option ℕ) → ℕ → Option (Bor (List ℕ)) → Option (List ℕ)
each_left value_of byte None = Some []
each_left value_of byte (Some text) = each_of value_of (parts_at byte text.now)

-- how much text is left, and 0 only where there is none
abbrev pub left_len : Option (Bor (List ℕ)) → ℕ
left_len None = 0
left_len (Some text) = length text.now + 1

some_with_value : (o : Option ℕ) (others : Option (List ℕ)) (ns : List ℕ) → with_value o others ≡ Some ns → (n : ℕ) × (ms : List ℕ) × (o ≡ Some n) × (others ≡ Some ms) × (n ∷ ms ≡ ns)
some_with_value None others ns h = cc
some_with_value (Some n) None ns h = cc
some_with_value (Some n) (Some ms) ns h = (n, ms, refl, refl, cc)

-- where the values of parts are below a bound, so are those of all parts; there is one for each
pub AllBelow-each_of : (bound : ℕ) (value_of : List ℕ → Option ℕ) → ((part : List ℕ) (n : ℕ) → value_of part ≡ Some n → n < bound) → (parts : List (List ℕ)) (ns : List ℕ) → each_of value_of parts ≡ Some ns → AllBelow bound ns × (length ns ≡ length parts)
AllBelow-each_of bound value_of below [] ns h = let none : [] ≡ ns = cc in subst (λ l. AllBelow bound l × (length l ≡ 0)) none (tt, refl)
AllBelow-each_of bound value_of below (part ∷ parts) ns h =
    let (n, ms, first, others, all) = some_with_value (value_of part) (each_of value_of parts) ns h in
    let later = AllBelow-each_of bound value_of below parts ms others in
    subst (λ l. AllBelow bound l × (length l ≡ suc (length parts))) all ((below part n first, later.0), ap suc later.1)
