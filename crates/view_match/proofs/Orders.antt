-- the order of natural keys is that of things by kind and natural key
use Rattle.std.proofs.Common.{◌≡◌, ap₂, refl}
use Rattle.std.specs.Ordering.{ordering_then}
use Rattle.sai_types.specs.declared.thing.Thing.{Thing}
use Rattle.sai_types.specs.declared.thing.Thing.TheVariants as thing
use Rattle.sai_types.specs.Order.{thing_order}
use Rattle.sai_types.proofs.Orders.{bases-by_parts, hops-by_parts, lists-by_parts, whops-by_parts}
use Rattle.view_match.specs.Keys.{natural_key_cmp, natural_key_of}

pub keys-by_parts : (t u : Thing) → natural_key_cmp (natural_key_of t) (natural_key_of u) ≡ thing_order t u
keys-by_parts (thing.Port p) (thing.Port q) = refl
keys-by_parts (thing.Vlan v) (thing.Vlan w) = refl
keys-by_parts (thing.VirtualRouter m) (thing.VirtualRouter n) = refl
keys-by_parts (thing.BridgePort p) (thing.BridgePort q) = refl
keys-by_parts (thing.VlanMember v p t) (thing.VlanMember w q u) = refl
keys-by_parts (thing.Rif a v) (thing.Rif b w) = bases-by_parts a b
keys-by_parts (thing.Own v i) (thing.Own w j) = refl
keys-by_parts (thing.Neighbor g m) (thing.Neighbor h n) = hops-by_parts g h
keys-by_parts (thing.NextHop g) (thing.NextHop h) = hops-by_parts g h
keys-by_parts (thing.Group gs) (thing.Group hs) = lists-by_parts gs hs
keys-by_parts (thing.GroupMember gs g) (thing.GroupMember hs h) = ap₂ ordering_then (lists-by_parts gs hs) (whops-by_parts g h)
keys-by_parts (thing.Route v p f) (thing.Route w q g) = refl
keys-by_parts t u = refl
