-- whether two names are one, is told
use Rattle.std.proofs.Common.{◌≡◌, inl, inr, ◌⊎◌, ℕ, ◌==◌, Bool, true, false, List, [], ◌∷◌, refl, sym, ap, ap₂, ◌∙◌}
use Rattle.std.proofs.lemmas.Bool.{and_from, and_parts, eq-eqb, eqb-true, false≢true}
use Rattle.swss_types.specs.contracts.address.IpEq.TheImpl.Laws as equal_ip
use Rattle.swss_types.specs.contracts.address.PrefixEq.TheImpl.Laws as equal_prefix
use Rattle.sai_types.specs.declared.hop.Hop.{Hop}
use Rattle.sai_types.specs.declared.weight.WHop.{WHop}
use Rattle.sai_types.specs.contracts.weight.WHopEq.TheImpl.Laws as equal_whop
use Rattle.swss_types.specs.Vrf.{same_vrf, same_vrf_name}
use Rattle.swss_types.proofs.Routers.{vrf-exact, vrf-refl, vrf_name-exact, vrf_name-refl}
use Rattle.swss_types.specs.declared.vrf.Vrf.{Vrf}
use Rattle.sai_types.specs.contracts.hop.BaseEq.TheImpl.Laws as equal_base
use Rattle.sai_types.specs.contracts.hop.BasePartialEq.TheImpl as base_eq
use Rattle.sai_types.specs.contracts.hop.HopEq.TheImpl.Laws as equal_hop
use Rattle.sai_types.specs.Forwarding.{same_hop}
use Rattle.sai_types.specs.Names as name
use Rattle.sai_types.specs.Names.{ThingName}
use Rattle.sai_types.specs.Refusal.{same_ip, same_prefix}
use Rattle.sai_types.proofs.Exact.{ip-exact, prefix-exact}
use Rattle.sai_types.proofs.Rising.{base-exact, hop-same, whop-same}
use Rattle.sai_types.proofs.Things.{bridge_ports, group_members, groups, neighbors, next_hops, owns, ports, rifs, routers, same_route, vlan_members, vlans}
use Rattle.plan_laws.specs.Old.{same_hops, same_whop}

pub same_hops_exact : (xs ys : List WHop) → same_hops xs ys ≡ true → xs ≡ ys
same_hops_exact [] [] h = refl
same_hops_exact (x ∷ xs) (y ∷ ys) h = let parts = and_parts (same_whop x y) (same_hops xs ys) h in ap₂ (λ a b. a ∷ b) (whop-same x y parts.0) (same_hops_exact xs ys parts.1)
same_hops_exact [] (y ∷ ys) h = absurd (false≢true h)
same_hops_exact (x ∷ xs) [] h = absurd (false≢true h)

pub hops_refl : (xs : List WHop) → same_hops xs xs ≡ true
hops_refl [] = refl
hops_refl (x ∷ xs) = and_from (same_whop x x) (same_hops xs xs) (equal_whop.laws-law.refl x) (hops_refl xs)

abbrev IsToldApart : {X : Type 0} → X → X → Type 0
IsToldApart x y = (x ≡ y) ⊎ (x ≡ y → ⊥)

told_apart_by_test : {X : Type 0} (eq : X → X → Bool) → ((x y : X) → eq x y ≡ true → x ≡ y) → ((x : X) → eq x x ≡ true) → (x y : X) → IsToldApart x y
told_apart_by_test {X} eq exact same x y = by (eq x y) refl
  where
    by : (b : Bool) → eq x y ≡ b → IsToldApart x y
    by true e = inl (exact x y e)
    by false e = inr (λ is. false≢true (sym e ∙ ap (eq x) (sym is) ∙ same x))

under : {X : Type 0} (f : X → ThingName) → ((x y : X) → f x ≡ f y → x ≡ y) → (x y : X) → IsToldApart x y → IsToldApart (f x) (f y)
under f one x y (inl is) = inl (ap f is)
under f one x y (inr apart) = inr (λ e. apart (one x y e))

pairs_told_apart : {X Y : Type 0} (f : X → Y → ThingName) → ((x y : X) (z w : Y) → f x z ≡ f y w → (x ≡ y) × (z ≡ w)) → (x y : X) (z w : Y) → IsToldApart x y → IsToldApart z w → IsToldApart (f x z) (f y w)
pairs_told_apart f one x y z w (inl is) (inl also) = inl (ap₂ f is also)
pairs_told_apart f one x y z w (inr apart) t = inr (λ e. apart (one x y z w e).0)
pairs_told_apart f one x y z w (inl is) (inr apart) = inr (λ e. apart (one x y z w e).1)

numbers : (m n : ℕ) → IsToldApart m n
numbers m n = told_apart_by_test (λ a b. a == b) (λ a b h. eqb-true a b h) (λ a. eq-eqb a a refl) m n

hop : (x y : Hop) → IsToldApart x y
hop = told_apart_by_test same_hop hop-same equal_hop.laws-law.refl

whop : (x y : WHop) → IsToldApart x y
whop = told_apart_by_test same_whop whop-same equal_whop.laws-law.refl

router : (x y : Vrf) → IsToldApart x y
router = told_apart_by_test same_vrf vrf-exact vrf-refl

hops : (xs ys : List WHop) → IsToldApart xs ys
hops = told_apart_by_test same_hops same_hops_exact hops_refl

pub same-or : (k m : ThingName) → (k ≡ m) ⊎ (k ≡ m → ⊥)
same-or (name.Port m) (name.Port n) = under name.Port ports m n (numbers m n)
same-or (name.Vlan m) (name.Vlan n) = under name.Vlan vlans m n (numbers m n)
same-or (name.VirtualRouter m) (name.VirtualRouter n) = under name.VirtualRouter routers m n (told_apart_by_test same_vrf_name vrf_name-exact vrf_name-refl m n)
same-or (name.BridgePort m) (name.BridgePort n) = under name.BridgePort bridge_ports m n (numbers m n)
same-or (name.VlanMember m k) (name.VlanMember n l) = pairs_told_apart name.VlanMember (λ a b c d. vlan_members a c b d) m n k l (numbers m n) (numbers k l)
same-or (name.Rif a) (name.Rif b) = under name.Rif rifs a b (told_apart_by_test base_eq.ghosts.eq base-exact equal_base.laws-law.refl a b)
same-or (name.Own v a) (name.Own w b) = pairs_told_apart name.Own (λ x y z u. owns x y z u) v w a b (router v w) (told_apart_by_test same_ip ip-exact equal_ip.laws-law.refl a b)
same-or (name.Neighbor a) (name.Neighbor b) = under name.Neighbor neighbors a b (hop a b)
same-or (name.NextHop a) (name.NextHop b) = under name.NextHop next_hops a b (hop a b)
same-or (name.Group a) (name.Group b) = under name.Group groups a b (hops a b)
same-or (name.GroupMember a x) (name.GroupMember b y) = pairs_told_apart name.GroupMember group_members a b x y (hops a b) (whop x y)
same-or (name.Route v a) (name.Route w b) = pairs_told_apart name.Route (λ x y z u. same_route x y z u) v w a b (router v w) (told_apart_by_test same_prefix prefix-exact equal_prefix.laws-law.refl a b)
same-or _ _ = inr (λ e. absurd cc)
