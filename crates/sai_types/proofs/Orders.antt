-- the orders of hops and of things are those of their parts
use Rattle.std.proofs.Common.{◌≡◌, List, [], ◌∷◌, Ordering, ap, ap₂, ◌∙◌, refl, nat_cmp}
use Rattle.std.specs.Cmp.Lexicographic.{slice_cmp}
use Rattle.std.specs.Ordering.{ordering_then}
use Rattle.std.specs.declared.cmp.Ordering.TheVariants.{Less, Equal, Greater}
use Rattle.swss_types.specs.AddressOrder.{ip_cmp, prefix_cmp}
use Rattle.swss_types.specs.Vrf.{vrf_cmp, vrf_name_cmp}
use Rattle.sai_types.specs.contracts.hop.BaseOrd.TheImpl as base_ord
use Rattle.sai_types.specs.contracts.thing.ThingOrd.TheImpl as thing_ord
use Rattle.sai_types.specs.declared.hop.Base.{Base}
use Rattle.sai_types.specs.declared.hop.Base.TheVariants as base
use Rattle.sai_types.specs.declared.hop.Hop.{Hop}
use Rattle.sai_types.specs.declared.weight.WHop.{WHop}
use Rattle.sai_types.specs.declared.thing.Thing.{Thing}
use Rattle.sai_types.specs.declared.thing.Thing.TheVariants as thing
use Rattle.sai_types.specs.Hop.{hop_cmp, whop_cmp}
use Rattle.sai_types.specs.Order.{base_order, hop_order, thing_order, whop_order}

pub bases-by_parts : (a b : Base) → base_ord.ghosts.cmp a b ≡ base_order a b
bases-by_parts (base.Port m) (base.Port n) = refl
bases-by_parts (base.Port m) (base.Vlan n) = refl
bases-by_parts (base.Vlan m) (base.Port n) = refl
bases-by_parts (base.Vlan m) (base.Vlan n) = refl

then_same : (a b c : Ordering) → a ≡ b → ordering_then a c ≡ ordering_then b c
then_same a b c e = ap (λ o. ordering_then o c) e

pub hops-by_parts : (a b : Hop) → hop_cmp a b ≡ hop_order a b
hops-by_parts a b = then_same (base_ord.ghosts.cmp a.on b.on) (base_order a.on b.on) (ip_cmp a.ip b.ip) (bases-by_parts a.on b.on)

pub whops-by_parts : (a b : WHop) → whop_cmp a b ≡ whop_order a b
whops-by_parts a b = then_same (hop_cmp a.hop b.hop) (hop_order a.hop b.hop) (nat_cmp a.weight b.weight) (hops-by_parts a.hop b.hop)

pub lists-by_parts : (gs hs : List WHop) → slice_cmp whop_cmp gs hs ≡ slice_cmp whop_order gs hs
lists-by_parts [] [] = refl
lists-by_parts [] (h ∷ hs) = refl
lists-by_parts (g ∷ gs) [] = refl
lists-by_parts (g ∷ gs) (h ∷ hs) = ap₂ ordering_then (whops-by_parts g h) (lists-by_parts gs hs)

then_assoc : (a b c : Ordering) → ordering_then a (ordering_then b c) ≡ ordering_then (ordering_then a b) c
then_assoc Less b c = refl
then_assoc Equal b c = refl
then_assoc Greater b c = refl

then_none : (a : Ordering) → a ≡ ordering_then a Equal
then_none Less = refl
then_none Equal = refl
then_none Greater = refl

-- by kind and natural key, and then by what can be set
pub things-by_parts : (t u : Thing) → (rest : Ordering) × (thing_ord.ghosts.cmp t u ≡ ordering_then (thing_order t u) rest)
things-by_parts (thing.Port p) (thing.Port q) = (_, refl)
things-by_parts (thing.Vlan v) (thing.Vlan w) = (Equal, then_none (nat_cmp v w))
things-by_parts (thing.VirtualRouter m) (thing.VirtualRouter n) = (Equal, then_none (vrf_name_cmp m n))
things-by_parts (thing.BridgePort p) (thing.BridgePort q) = (Equal, then_none (nat_cmp p q))
things-by_parts (thing.VlanMember v p t) (thing.VlanMember w q u) = (_, then_assoc (nat_cmp v w) (nat_cmp p q) _)
things-by_parts (thing.Rif a v) (thing.Rif b w) = (_, then_same _ (base_order a b) _ (bases-by_parts a b))
things-by_parts (thing.Own v i) (thing.Own w j) = (Equal, then_none (ordering_then (vrf_cmp v w) (ip_cmp i j)))
things-by_parts (thing.Neighbor g m) (thing.Neighbor h n) = (_, then_same (hop_cmp g h) (hop_order g h) _ (hops-by_parts g h))
things-by_parts (thing.NextHop g) (thing.NextHop h) = (Equal, hops-by_parts g h ∙ then_none (hop_order g h))
things-by_parts (thing.Group gs) (thing.Group hs) = (Equal, lists-by_parts gs hs ∙ then_none (slice_cmp whop_order gs hs))
things-by_parts (thing.GroupMember gs g) (thing.GroupMember hs h) = (Equal, ap₂ ordering_then (lists-by_parts gs hs) (whops-by_parts g h) ∙ then_none (ordering_then (slice_cmp whop_order gs hs) (whop_order g h)))
things-by_parts (thing.Route v p f) (thing.Route w q g) = (_, then_assoc (vrf_cmp v w) (prefix_cmp p q) _)
things-by_parts t u = (Equal, refl)
