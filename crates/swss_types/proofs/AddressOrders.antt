-- addresses and prefixes that compare equal are equal
use Rattle.std.proofs.Common.{ℕ, refl, ap₂, nat_cmp}
use Rattle.std.proofs.lemmas.Map.Lookups.{CmpEqualImpliesEq, exact_unsigned}
use Rattle.swss_types.specs.declared.address.Family.{Family}
use Rattle.swss_types.specs.declared.address.Family.TheVariants.{V4, V6}
use Rattle.swss_types.specs.declared.address.Ip.{Ip}
use Rattle.swss_types.specs.declared.address.Prefix.{Prefix}
use Rattle.swss_types.specs.AddressOrder.{family_place, ip_cmp, prefix_cmp}
use Rattle.swss_types.proofs.Tied.{then_first, then_last}

family_exact : CmpEqualImpliesEq (λ x y. nat_cmp (family_place x) (family_place y))
family_exact V4 V4 h = refl
family_exact V6 V6 h = refl
family_exact x y h = cc

pub ip_exact : CmpEqualImpliesEq ip_cmp
ip_exact x y h = let made : Family → ℕ → Ip = λ f b. record { family = f; bits = b } in ap₂ made (family_exact x.family y.family (then_first _ _ h)) (exact_unsigned x.bits y.bits (then_last _ _ h))

pub prefix_exact : CmpEqualImpliesEq prefix_cmp
prefix_exact x y h = let made : Ip → ℕ → Prefix = λ i l. record { ip = i; len = l } in ap₂ made (ip_exact x.ip y.ip (then_first _ _ h)) (exact_unsigned x.len y.len (then_last _ _ h))
