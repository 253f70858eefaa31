-- what compares equal is equal
use Rattle.std.proofs.Common.{◌≡◌, ℕ, true, ◌&&◌, Option, None, Some, refl, sym, ap, ap₂, ◌∙◌, rules}
use Rattle.std.specs.Option.{option_cmp}
use Rattle.std.specs.Ordering.{is_eq}
use Rattle.std.specs.Cmp.{both_tied}
use Rattle.std.proofs.lemmas.Bool.{and_parts, eqb-true, false≢true}
use Rattle.swss_types.specs.declared.address.Family.{Family}
use Rattle.swss_types.specs.declared.address.Family.TheVariants.{V4, V6}
use Rattle.swss_types.specs.declared.address.Ip.{Ip}
use Rattle.swss_types.specs.declared.address.Prefix.{Prefix}
use Rattle.swss_types.specs.contracts.address.FamilyPartialEq.TheImpl as same_family
use Rattle.swss_types.specs.contracts.address.IpOrd.TheImpl.Laws as ordered_ip
use Rattle.swss_types.specs.contracts.address.PrefixOrd.TheImpl.Laws as ordered_prefix
use Rattle.sai_types.specs.contracts.ids.RidOrd.TheImpl as rid_ord
use Rattle.sai_types.specs.declared.ids.Rid.{Rid}
use Rattle.sai_types.specs.declared.body.Entry.{Entry}
use Rattle.sai_types.specs.declared.body.Entry.TheVariants as entry
use Rattle.sai_types.specs.Refusal.{same_id, same_ip, same_prefix, same_router}
use Rattle.sai_types.specs.Made.{same_entry}

pub id-exact : (a b : Rid) → same_id a b ≡ true → a ≡ b
id-exact a b h = let made : ℕ → Rid = λ n. record { 0 = n } in ap made (eqb-true a.0 b.0 h)

pub ids-tied : (a b : Rid) → same_entry (entry.Oid a) (entry.Oid b) ≡ same_id a b
ids-tied a b = search rules

pub router-exact : (a b : Option Rid) → same_router a b ≡ true → a ≡ b
router-exact None None h = refl
router-exact None (Some b) h = absurd (false≢true h)
router-exact (Some a) None h = absurd (false≢true h)
router-exact (Some a) (Some b) h = ap Some (id-exact a b h)

pub routers-tied : (v w : Option Rid) → same_router v w ≡ is_eq (option_cmp rid_ord.ghosts.cmp v w)
routers-tied None None = refl
routers-tied None (Some b) = refl
routers-tied (Some a) None = refl
routers-tied (Some a) (Some b) = sym (ids-tied a b)

pub owns-tied : (v w : Option Rid) (a b : Ip) → same_entry (entry.Own v a) (entry.Own w b) ≡ (same_router v w && same_ip a b)
owns-tied v w a b = sym (both_tied _ _ _ _ (routers-tied v w) (ordered_ip.matches_eq-law a b))

pub routes-tied : (v w : Option Rid) (p q : Prefix) → same_entry (entry.Route v p) (entry.Route w q) ≡ (same_router v w && same_prefix p q)
routes-tied v w p q = sym (both_tied _ _ _ _ (routers-tied v w) (ordered_prefix.matches_eq-law p q))

family_eq_exact : (x y : Family) → same_family.ghosts.eq x y ≡ true → x ≡ y
family_eq_exact V4 V4 h = refl
family_eq_exact V6 V6 h = refl
family_eq_exact V4 V6 h = absurd (false≢true h)
family_eq_exact V6 V4 h = absurd (false≢true h)

pub ip-exact : (a b : Ip) → same_ip a b ≡ true → a ≡ b
ip-exact a b h =
    let made : Family → ℕ → Ip = λ f n. record { family = f; bits = n } in
    let parts = and_parts (same_family.ghosts.eq a.family b.family) _ h in
    ap₂ made (family_eq_exact a.family b.family parts.0) (eqb-true a.bits b.bits parts.1)

pub prefix-exact : (a b : Prefix) → same_prefix a b ≡ true → a ≡ b
prefix-exact a b h =
    let made : Ip → ℕ → Prefix = λ f n. record { ip = f; len = n } in
    let parts = and_parts (same_ip a.ip b.ip) _ h in
    ap₂ made (ip-exact a.ip b.ip parts.0) (eqb-true a.len b.len parts.1)

-- entries that compare equal are equal
pub entry-exact : (e f : Entry Rid) → same_entry e f ≡ true → e ≡ f
entry-exact (entry.Oid r) (entry.Oid s) h = ap entry.Oid (id-exact r s (sym (ids-tied r s) ∙ h))
entry-exact (entry.Own v a) (entry.Own w b) h =
    let parts = and_parts _ _ (sym (owns-tied v w a b) ∙ h) in
    ap₂ (λ x y. entry.Own x y) (router-exact v w parts.0) (ip-exact a b parts.1)
entry-exact (entry.Neigh r a) (entry.Neigh s b) h =
    let parts = and_parts _ _ (both_tied _ _ _ _ (sym (ids-tied r s)) (ordered_ip.matches_eq-law a b) ∙ h) in
    ap₂ (λ x y. entry.Neigh x y) (id-exact r s parts.0) (ip-exact a b parts.1)
entry-exact (entry.Route v p) (entry.Route w q) h =
    let parts = and_parts _ _ (sym (routes-tied v w p q) ∙ h) in
    ap₂ (λ x y. entry.Route x y) (router-exact v w parts.0) (prefix-exact p q parts.1)
entry-exact _ _ h = absurd (false≢true h)
