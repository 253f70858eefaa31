-- natural keys that compare equal are equal
use Rattle.std.proofs.Common.{ap, ap₂, ◌∙◌}
use Rattle.std.specs.Ordering.{is_eq}
use Rattle.std.proofs.lemmas.Bool.{false≢true}
use Rattle.std.proofs.lemmas.Map.Lookups.{CmpEqualImpliesEq, exact_bytes, exact_unsigned}
use Rattle.sai_types.specs.contracts.hop.BaseOrd.TheImpl as base_ord
use Rattle.sai_types.specs.contracts.hop.BaseOrd.TheImpl.Laws as ordered_base
use Rattle.swss_types.proofs.Tied.{then_first, then_last}
use Rattle.swss_types.proofs.AddressOrders.{ip_exact, prefix_exact}
use Rattle.swss_types.proofs.Routers.{vrf_exact, vrf_name_exact}
use Rattle.sai_types.proofs.Rising.{base-exact, hop_exact, hops_exact, whop_exact}
use Rattle.view_match.specs.contracts.key.NaturalKeyOrd.TheImpl.Laws as ordered_key
use Rattle.view_match.specs.declared.key.NaturalKey.TheVariants as key
use Rattle.view_match.specs.Keys.{natural_key_cmp}

base_exact : CmpEqualImpliesEq base_ord.ghosts.cmp
base_exact a b h = base-exact a b (ordered_base.matches_eq-law a b ∙ ap is_eq h)

pub natural_key_exact : CmpEqualImpliesEq natural_key_cmp
natural_key_exact (key.Port m) (key.Port n) h = ap key.Port (exact_bytes m n h)
natural_key_exact (key.Vlan m) (key.Vlan n) h = ap key.Vlan (exact_unsigned m n h)
natural_key_exact (key.VirtualRouter m) (key.VirtualRouter n) h = ap key.VirtualRouter (vrf_name_exact m n h)
natural_key_exact (key.BridgePort m) (key.BridgePort n) h = ap key.BridgePort (exact_unsigned m n h)
natural_key_exact (key.VlanMember v m) (key.VlanMember w n) h = ap₂ key.VlanMember (exact_unsigned v w (then_first _ _ h)) (exact_unsigned m n (then_last _ _ h))
natural_key_exact (key.Rif a) (key.Rif b) h = ap key.Rif (base_exact a b h)
natural_key_exact (key.Own v a) (key.Own w b) h = ap₂ key.Own (vrf_exact v w (then_first _ _ h)) (ip_exact a b (then_last _ _ h))
natural_key_exact (key.Neighbor a) (key.Neighbor b) h = ap key.Neighbor (hop_exact a b h)
natural_key_exact (key.NextHop a) (key.NextHop b) h = ap key.NextHop (hop_exact a b h)
natural_key_exact (key.Group a) (key.Group b) h = ap key.Group (hops_exact a b h)
natural_key_exact (key.GroupMember v m) (key.GroupMember w n) h = ap₂ key.GroupMember (hops_exact v w (then_first _ _ h)) (whop_exact m n (then_last _ _ h))
natural_key_exact (key.Route v a) (key.Route w b) h = ap₂ key.Route (vrf_exact v w (then_first _ _ h)) (prefix_exact a b (then_last _ _ h))
natural_key_exact x y h = absurd (false≢true (ordered_key.matches_eq-law x y ∙ ap is_eq h))
