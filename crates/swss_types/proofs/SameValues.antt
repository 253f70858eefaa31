-- values that compare equal are equal
use Rattle.std.proofs.Common.{◌≡◌, ℕ, true, List, refl, sym, ap}
use Rattle.std.proofs.lemmas.Bool.{false≢true}
use Rattle.std.specs.Cmp.Lexicographic.{same_text}
use Rattle.swss_types.specs.declared.address.Mac.{Mac}
use Rattle.swss_types.specs.declared.tagging.Tagging.{Tagging}
use Rattle.swss_types.specs.declared.tagging.Tagging.TheVariants as tagging
use Rattle.swss_types.specs.contracts.address.MacPartialEq.TheImpl as mac_eq
use Rattle.swss_types.specs.contracts.tagging.TaggingPartialEq.TheImpl as tagging_eq

pub tagging_exact : (a b : Tagging) → tagging_eq.ghosts.eq a b ≡ true → a ≡ b
tagging_exact tagging.Untagged tagging.Untagged h = refl
tagging_exact tagging.Tagged tagging.Tagged h = refl
tagging_exact tagging.PriorityTagged tagging.PriorityTagged h = refl
tagging_exact _ _ h = absurd (false≢true h)

pub mac_exact : (a b : Mac) → mac_eq.ghosts.eq a b ≡ true → a ≡ b
mac_exact a b h = let made : List ℕ → Mac = λ bytes. record { 0 = bytes } in ap made (same_text a.0 b.0 (sym h))
