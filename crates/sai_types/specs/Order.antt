-- The orders of hops and of things, part by part. Own.
use Rattle.std.specs.Prelude.{ℕ}
use Rattle.std.specs.Cmp.Lexicographic.{slice_cmp}
use Rattle.std.specs.Ordering.{nat_cmp, ordering_then}
use Rattle.std.specs.declared.cmp.Ordering.{Ordering}
use Rattle.std.specs.declared.cmp.Ordering.TheVariants.{Equal}
use Rattle.swss_types.specs.AddressOrder.{ip_cmp, prefix_cmp}
use Rattle.swss_types.specs.Vrf.{vrf_cmp, vrf_name_cmp}
use Rattle.sai_types.specs.declared.hop.Base.{Base}
use Rattle.sai_types.specs.declared.hop.Base.TheVariants as base
use Rattle.sai_types.specs.declared.hop.Hop.{Hop}
use Rattle.sai_types.specs.declared.weight.WHop.{WHop}
use Rattle.sai_types.specs.contracts.thing.ThingOrd.TheImpl as thing_ord
use Rattle.sai_types.specs.declared.thing.Thing.{Thing}
use Rattle.sai_types.specs.declared.thing.Thing.TheVariants as thing
use Rattle.sai_types.specs.Names.{thing_kind}
use Rattle.sai_types.specs.Objects.{level}

-- interfaces on ports come first, then those on VLANs
abbrev pub base_place : Base → ℕ
base_place (base.Port lane) = 0
base_place (base.Vlan vlan) = 1

abbrev pub base_number : Base → ℕ
base_number (base.Port lane) = lane
base_number (base.Vlan vlan) = vlan

abbrev pub base_order : Base → Base → Ordering
base_order a b = ordering_then (nat_cmp (base_place a) (base_place b)) (nat_cmp (base_number a) (base_number b))

-- hops by what their interfaces stand on, and then by address
abbrev pub hop_order : Hop → Hop → Ordering
hop_order a b = ordering_then (base_order a.on b.on) (ip_cmp a.ip b.ip)

-- hops with their weights by the hop, and then by the weight
abbrev pub whop_order : WHop → WHop → Ordering
whop_order a b = ordering_then (hop_order a.hop b.hop) (nat_cmp a.weight b.weight)

-- things of one kind by their natural keys, from the first part on
abbrev pub natural_order : Thing → Thing → Ordering
natural_order (thing.Port p) (thing.Port q) = slice_cmp nat_cmp p.lanes q.lanes
natural_order (thing.Vlan v) (thing.Vlan w) = nat_cmp v w
natural_order (thing.VirtualRouter m) (thing.VirtualRouter n) = vrf_name_cmp m n
natural_order (thing.BridgePort p) (thing.BridgePort q) = nat_cmp p q
natural_order (thing.VlanMember v p t) (thing.VlanMember w q u) = ordering_then (nat_cmp v w) (nat_cmp p q)
natural_order (thing.Rif a v) (thing.Rif b w) = base_order a b
natural_order (thing.Own v i) (thing.Own w j) = ordering_then (vrf_cmp v w) (ip_cmp i j)
natural_order (thing.Neighbor g m) (thing.Neighbor h n) = hop_order g h
natural_order (thing.NextHop g) (thing.NextHop h) = hop_order g h
natural_order (thing.Group gs) (thing.Group hs) = slice_cmp whop_order gs hs
natural_order (thing.GroupMember gs g) (thing.GroupMember hs h) = ordering_then (slice_cmp whop_order gs hs) (whop_order g h)
natural_order (thing.Route v p f) (thing.Route w q g) = ordering_then (vrf_cmp v w) (prefix_cmp p q)
natural_order t u = Equal

-- things by their kinds, lowest first, and then by their natural keys
abbrev pub thing_order : Thing → Thing → Ordering
thing_order t u = ordering_then (nat_cmp (level (thing_kind t)) (level (thing_kind u))) (natural_order t u)

-- the order of things: by kind, and within a kind by what they are
abbrev pub thing_cmp : Thing → Thing → Ordering
thing_cmp = thing_ord.ghosts.cmp
