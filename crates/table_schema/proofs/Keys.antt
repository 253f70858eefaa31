-- the laws of the order of keys, and that keys that compare equal are equal
use Rattle.std.proofs.Common.{◌≡◌, ◌∙◌, ℕ, true, sym, ap, ap₂}
use Rattle.std.specs.Cmp.{eq_by_cmp_equiv}
use Rattle.std.proofs.lemmas.Map.Lookups.{CmpEqualImpliesEq, exact_bytes, exact_unsigned}
use Rattle.std.specs.BTreeMap.{is_at}
use Rattle.swss_types.specs.declared.address.Ip.{Ip}
use Rattle.swss_types.specs.declared.interface.IfName.{IfName}
use Rattle.swss_types.specs.declared.interface.IfName.TheVariants as name
use Rattle.swss_types.specs.NameOrder.{name_cmp}
use Rattle.swss_types.proofs.AddressOrders.{ip_exact, prefix_exact}
use Rattle.swss_types.proofs.Routers.{vrf_exact, vrf_name_exact}
use Rattle.swss_types.proofs.Tied.{then_first, then_last, tied}
use Rattle.table_schema.specs.declared.key.Key.{Key}
use Rattle.table_schema.specs.declared.key.Key.TheVariants.{Port, Vlan, Vrf, Member, Intf, Addr, Neigh, Route, Other}
pub use Rattle.table_schema.specs.Key.{key_total}
use Rattle.table_schema.specs.Key.{key_cmp}

pub name_exact : CmpEqualImpliesEq name_cmp
name_exact (name.Ethernet m) (name.Ethernet n) h = ap name.Ethernet (exact_unsigned m n h)
name_exact (name.Vlan m) (name.Vlan n) h = ap name.Vlan (exact_unsigned m n h)
name_exact (name.Loopback m) (name.Loopback n) h = ap name.Loopback (exact_unsigned m n h)
name_exact x y h = cc

-- public, so that crates above can cite it
pub key_exact : CmpEqualImpliesEq key_cmp
key_exact (Port m) (Port n) h = ap Port (exact_unsigned m n h)
key_exact (Vlan m) (Vlan n) h = ap Vlan (exact_unsigned m n h)
key_exact (Vrf m) (Vrf n) h = ap Vrf (vrf_name_exact m n h)
key_exact (Member v m) (Member w n) h = ap₂ Member (exact_unsigned v w (then_first _ _ h)) (exact_unsigned m n (then_last _ _ h))
key_exact (Intf i) (Intf j) h = ap Intf (name_exact i j h)
key_exact (Addr i a m) (Addr j b n) h =
    let made : IfName → Ip → ℕ → Key = λ on ip len. Addr on ip len in
    let last : (ℕ → Key) → ℕ → Key = λ f len. f len in
    ap₂ last (ap₂ made (name_exact i j (then_first _ _ h)) (ip_exact a b (then_first _ _ (then_last _ _ h)))) (exact_unsigned m n (then_last _ _ (then_last _ _ h)))
key_exact (Neigh i a) (Neigh j b) h = ap₂ Neigh (name_exact i j (then_first _ _ h)) (ip_exact a b (then_last _ _ h))
key_exact (Route v p) (Route w q) h = ap₂ Route (vrf_exact v w (then_first _ _ h)) (prefix_exact p q (then_last _ _ h))
key_exact (Other s) (Other t) h = ap Other (exact_bytes s t h)
key_exact x y h = cc

pub tied_keys_same : (k q : Key) → is_at (key_cmp k) q ≡ true → k ≡ q
tied_keys_same k q h = key_exact k q (tied (key_cmp k q) h)

-- a key is at itself
pub at_itself : (k q : Key) → k ≡ q → is_at (key_cmp k) q ≡ true
at_itself k q is = ap (is_at (key_cmp k)) (sym is) ∙ (eq_by_cmp_equiv key_total).refl k
