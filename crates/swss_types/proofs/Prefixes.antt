-- prefixes, read part by part
use Rattle.std.proofs.Common.{◌≡◌, ◌<◌, ℕ, List, [], ◌∷◌, ◌==◌, length, Option, None, Some, Bor, subst, refl, arith}
use Rattle.std.proofs.lemmas.List.Splits.{length-slice_split}
use Rattle.swss_types.specs.Parts.{parts_at, IsCutInto}
use Rattle.swss_types.specs.Prefix.{address_in}

address_in_many : (ip len : List ℕ) (others : List (List ℕ)) → 0 < length others → address_in (ip ∷ len ∷ others) ≡ None
address_in_many ip len [] some = absurd (omega arith)
address_in_many ip len (other ∷ others) some = refl

-- a second slash
pub address_in_three : (ip len rest : List ℕ) → address_in (ip ∷ len ∷ parts_at 47 rest) ≡ None
address_in_three ip len rest = address_in_many ip len (parts_at 47 rest) (omega (arith, length-slice_split (λ b. b == 47) rest))

-- the parts of a text that was cut
pub cut_some : (byte : ℕ) (text part : List ℕ) (behind : Option (Bor (List ℕ))) (rest : Bor (List ℕ)) → IsCutInto byte text part behind → behind ≡ Some rest → parts_at byte text ≡ part ∷ parts_at byte rest.now
cut_some byte text part None rest h e = cc
cut_some byte text part (Some r) rest h e = let same : r ≡ rest = cc in subst (λ (x : Bor (List ℕ)). parts_at byte text ≡ part ∷ parts_at byte x.now) same h.1
