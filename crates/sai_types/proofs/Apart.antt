-- bodies that clash, before and after a set
use Rattle.std.proofs.Common.{◌≡◌, ℕ, ◌==◌, Bool, false, ◌||◌, ◌&&◌, List, [], ◌∷◌, Option, None, Some, refl, sym, ap, ◌∙◌}
use Rattle.std.specs.Cmp.{nat_eq_equiv}
use Rattle.std.specs.List.{list_any}
use Rattle.swss_types.specs.contracts.address.IpEq.TheImpl.Laws as equal_ip
use Rattle.swss_types.specs.contracts.address.PrefixEq.TheImpl.Laws as equal_prefix
use Rattle.swss_types.proofs.Routers.{vrf_name-symm}
use Rattle.swss_types.proofs.Truths.{or_regrouped}
use Rattle.sai_types.specs.declared.ids.Rid.{Rid}
use Rattle.sai_types.specs.declared.body.RifOn.{RifOn}
use Rattle.sai_types.specs.declared.body.RifOn.TheVariants as on
use Rattle.sai_types.specs.declared.body.Attr.{Attr}
use Rattle.sai_types.specs.declared.body.Attr.TheVariants as attr
use Rattle.sai_types.specs.declared.body.Body.{Body}
use Rattle.sai_types.specs.declared.body.Body.TheVariants as body
use Rattle.sai_types.specs.Objects.{kind_of}
use Rattle.sai_types.specs.Refusal.{clash, same_id, same_base, same_router, share_lane}
use Rattle.sai_types.specs.After.{entry_of, with_attr}

pub any_same : {X : Type 0} (p q : X → Bool) → ((x : X) → p x ≡ q x) → (xs : List X) → list_any p xs ≡ list_any q xs
any_same p q e [] = refl
any_same p q e (x ∷ xs) = let one = e x in let others = any_same p q e xs in cc

any_never : {X : Type 0} (xs : List X) → list_any (λ x. false) xs ≡ false
any_never [] = refl
any_never (x ∷ xs) = any_never xs

pub any_or : {X : Type 0} (p q : X → Bool) (xs : List X) → list_any (λ x. p x || q x) xs ≡ (list_any p xs || list_any q xs)
any_or p q [] = refl
any_or p q (x ∷ xs) = ap (λ b. (p x || q x) || b) (any_or p q xs) ∙ or_regrouped (p x) (q x) (list_any p xs) (list_any q xs)

pub any_any : {X Y : Type 0} (p : X → Y → Bool) (xs : List X) (ys : List Y) → list_any (λ x. list_any (p x) ys) xs ≡ list_any (λ y. list_any (λ x. p x y) xs) ys
any_any p [] ys = sym (any_never ys)
any_any p (x ∷ xs) ys = ap (λ b. list_any (p x) ys || b) (any_any p xs ys) ∙ sym (any_or (p x) (λ y. list_any (λ x'. p x' y) xs) ys)

share_lane-symm : (xs ys : List ℕ) → share_lane xs ys ≡ share_lane ys xs
share_lane-symm xs ys = any_any (λ x y. x == y) xs ys ∙ any_same _ _ (λ y. any_same _ _ (λ x. nat_eq_equiv.symm x y) xs) ys

pub same_id-symm : (a b : Rid) → same_id a b ≡ same_id b a
same_id-symm a b = nat_eq_equiv.symm a.0 b.0

same_base-symm : (a b : RifOn Rid) → same_base a b ≡ same_base b a
same_base-symm (on.Port a) (on.Port b) = same_id-symm a b
same_base-symm (on.Port a) (on.Vlan b) = refl
same_base-symm (on.Vlan a) (on.Port b) = refl
same_base-symm (on.Vlan a) (on.Vlan b) = same_id-symm a b

pub same_router-symm : (a b : Option Rid) → same_router a b ≡ same_router b a
same_router-symm None None = refl
same_router-symm None (Some b) = refl
same_router-symm (Some a) None = refl
same_router-symm (Some a) (Some b) = same_id-symm a b

both_same : (a b c d : Bool) → a ≡ b → c ≡ d → (a && c) ≡ (b && d)
both_same a b c d e f = cc

clash_group : (d : Body Rid) → clash d body.Group ≡ false
clash_group (body.Port lanes speed mtu up) = refl
clash_group _ = refl

-- clashing goes both ways
pub clash-symm : (b d : Body Rid) → clash b d ≡ clash d b
clash-symm (body.Port lanes speed mtu up) (body.Port others s m u) = share_lane-symm lanes others
clash-symm (body.Vlan vlan) (body.Vlan other) = nat_eq_equiv.symm vlan other
clash-symm (body.VirtualRouter label) (body.VirtualRouter other) = vrf_name-symm label other
clash-symm (body.BridgePort port) (body.BridgePort other) = same_id-symm port other
clash-symm (body.VlanMember v p t) (body.VlanMember w q u) = both_same _ _ _ _ (same_id-symm v w) (same_id-symm p q)
clash-symm (body.Rif vr on) (body.Rif vr' other) = same_base-symm on other
clash-symm (body.OwnAddress vr ip) (body.OwnAddress vr' other) = both_same _ _ _ _ (same_router-symm vr vr') (equal_ip.laws-law.symm ip other)
clash-symm (body.Neighbor r ip mac) (body.Neighbor s other mac') = both_same _ _ _ _ (same_id-symm r s) (equal_ip.laws-law.symm ip other)
clash-symm (body.NextHop r ip) (body.NextHop s other) = both_same _ _ _ _ (same_id-symm r s) (equal_ip.laws-law.symm ip other)
clash-symm (body.GroupMember g n x) (body.GroupMember h m y) = both_same _ _ _ _ (same_id-symm g h) (same_id-symm n m)
clash-symm (body.Route vr prefix to) (body.Route vr' other to') = both_same _ _ _ _ (same_router-symm vr vr') (equal_prefix.laws-law.symm prefix other)
clash-symm body.Group d = sym (clash_group d)
clash-symm _ _ = refl

-- a set leaves what a body clashes with
pub clash-with_attr : (b : Body Rid) (a : Attr Rid) (d : Body Rid) → clash (with_attr b a) d ≡ clash b d
clash-with_attr (body.Port lanes speed mtu up) (attr.Speed s) (body.Port others speed' mtu' up') = refl
clash-with_attr (body.Port lanes speed mtu up) (attr.Mtu m) (body.Port others speed' mtu' up') = refl
clash-with_attr (body.Port lanes speed mtu up) (attr.Up u) (body.Port others speed' mtu' up') = refl
clash-with_attr (body.VlanMember vlan bridge_port tagging) (attr.Tagging t) (body.VlanMember v p u) = refl
clash-with_attr (body.Neighbor rif ip mac) (attr.Mac m) (body.Neighbor r i n) = refl
clash-with_attr (body.Route vr prefix to) (attr.To t) (body.Route vr' other to') = refl
clash-with_attr _ _ _ = refl

-- nor its entry and its kind
pub entry_of-with_attr : (n : ℕ) (b : Body Rid) (a : Attr Rid) → entry_of n (with_attr b a) ≡ entry_of n b
entry_of-with_attr n (body.Port lanes speed mtu up) (attr.Speed s) = refl
entry_of-with_attr n (body.Port lanes speed mtu up) (attr.Mtu m) = refl
entry_of-with_attr n (body.Port lanes speed mtu up) (attr.Up u) = refl
entry_of-with_attr n (body.VlanMember vlan bridge_port tagging) (attr.Tagging t) = refl
entry_of-with_attr n (body.Neighbor rif ip mac) (attr.Mac m) = refl
entry_of-with_attr n (body.Route vr prefix to) (attr.To t) = refl
entry_of-with_attr n _ _ = refl

pub kind_of-with_attr : (b : Body Rid) (a : Attr Rid) → kind_of (with_attr b a) ≡ kind_of b
kind_of-with_attr (body.Port lanes speed mtu up) (attr.Speed s) = refl
kind_of-with_attr (body.Port lanes speed mtu up) (attr.Mtu m) = refl
kind_of-with_attr (body.Port lanes speed mtu up) (attr.Up u) = refl
kind_of-with_attr (body.VlanMember vlan bridge_port tagging) (attr.Tagging t) = refl
kind_of-with_attr (body.Neighbor rif ip mac) (attr.Mac m) = refl
kind_of-with_attr (body.Route vr prefix to) (attr.To t) = refl
kind_of-with_attr _ _ = refl
