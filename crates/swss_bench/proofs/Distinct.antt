-- keys of which no two are equal
use Rattle.std.proofs.Common.{◌≡◌, Bool, true, not, List, ◌∷◌, Option, None, Some, refl}
use Rattle.std.specs.List.{list_any}
use Rattle.sai_types.specs.Named.{those}
use Rattle.chip_layout.specs.Counted.{AreDistinct}
use Rattle.chip_layout.proofs.Answering.{those_in}
use Rattle.plan_laws.proofs.Lists.{in-any}

pub distinct-more : {X : Type 0} (p : Option X → Bool) (k : Option X) (xs : List (Option X)) (found : Bool) → ((x : X) → k ≡ Some x → p (Some x) ≡ true) → found ≡ list_any p xs → not found ≡ true → AreDistinct (those xs) → AreDistinct (those (k ∷ xs))
distinct-more p None xs found finds is none distinct = distinct
distinct-more p (Some x) xs found finds is none distinct = ((λ i. let any : list_any p xs ≡ true = in-any p xs (Some x) (those_in x xs i) (finds x refl) in cc), distinct)
