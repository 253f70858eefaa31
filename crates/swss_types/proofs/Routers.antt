-- virtual routers that compare equal are equal, and so are their names
use Rattle.std.proofs.Common.{◌≡◌, ℕ, true, List, ap, refl, sym, ◌∙◌}
use Rattle.std.specs.Ordering.{is_eq}
use Rattle.std.proofs.lemmas.Bool.{false≢true}
use Rattle.std.proofs.lemmas.Map.Lookups.{CmpEqualImpliesEq}
use Rattle.std.specs.Cmp.{IsTotalOrder}
use Rattle.std.specs.Cmp.Lexicographic.{same_text}
use Rattle.swss_types.specs.contracts.vrf.VrfNameEq.TheImpl.Laws as equal_name
use Rattle.swss_types.specs.contracts.vrf.VrfNameOrd.TheImpl.Laws as ordered_name
use Rattle.swss_types.specs.contracts.vrf.VrfEq.TheImpl.Laws as equal_vrf
use Rattle.swss_types.specs.contracts.vrf.VrfOrd.TheImpl.Laws as ordered_vrf
use Rattle.swss_types.specs.declared.vrf.Vrf.{Vrf}
use Rattle.swss_types.specs.declared.vrf.Vrf.TheVariants as vrf
use Rattle.swss_types.specs.declared.vrf.VrfName.{VrfName}
use Rattle.swss_types.specs.Vrf.{same_vrf, same_vrf_name, vrf_cmp, vrf_name_cmp}

pub vrf_name_total : IsTotalOrder vrf_name_cmp
vrf_name_total = ordered_name.total-law

pub vrf_name-exact : (a b : VrfName) → same_vrf_name a b ≡ true → a ≡ b
vrf_name-exact a b h = let made : List ℕ → VrfName = λ bytes. record { 0 = bytes } in ap made (same_text a.0 b.0 (sym h))

pub vrf_name_exact : CmpEqualImpliesEq vrf_name_cmp
vrf_name_exact a b h = vrf_name-exact a b (ordered_name.matches_eq-law a b ∙ ap is_eq h)

pub vrf_name-refl : (a : VrfName) → same_vrf_name a a ≡ true
vrf_name-refl a = equal_name.laws-law.refl a

pub vrf_name-symm : (a b : VrfName) → same_vrf_name a b ≡ same_vrf_name b a
vrf_name-symm a b = equal_name.laws-law.symm a b

pub vrf-exact : (a b : Vrf) → same_vrf a b ≡ true → a ≡ b
vrf-exact vrf.Default vrf.Default h = refl
vrf-exact (vrf.Named m) (vrf.Named n) h = ap vrf.Named (vrf_name-exact m n h)
vrf-exact vrf.Default (vrf.Named n) h = absurd (false≢true h)
vrf-exact (vrf.Named m) vrf.Default h = absurd (false≢true h)

pub vrf_exact : CmpEqualImpliesEq vrf_cmp
vrf_exact a b h = vrf-exact a b (ordered_vrf.matches_eq-law a b ∙ ap is_eq h)

pub vrf-refl : (a : Vrf) → same_vrf a a ≡ true
vrf-refl a = equal_vrf.laws-law.refl a

pub vrf-symm : (a b : Vrf) → same_vrf a b ≡ same_vrf b a
vrf-symm a b = equal_vrf.laws-law.symm a b
