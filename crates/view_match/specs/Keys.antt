-- Natural keys: things without what can be set on them. Own; they are those of the OCP SAI headers' key attributes, and a group's the hops of its members with their weights.
use Rattle.std.specs.Prelude.{List, Option, map, option_map}
use Rattle.std.specs.declared.cmp.Ordering.{Ordering}
use Rattle.sai_types.specs.declared.ids.Rid.{Rid}
use Rattle.sai_types.specs.declared.body.Body.{Body}
use Rattle.sai_types.specs.declared.body.Entry.{Entry}
use Rattle.sai_types.specs.declared.thing.Thing.{Thing}
use Rattle.sai_types.specs.declared.thing.Thing.TheVariants as thing
use Rattle.sai_types.specs.Named.{named, thing_of}
use Rattle.sai_types.specs.Objects.{Objects}
use Rattle.view_match.specs.declared.key.NaturalKey.{NaturalKey}
use Rattle.view_match.specs.declared.key.NaturalKey.TheVariants as key
use Rattle.view_match.specs.contracts.key.NaturalKeyOrd.TheImpl as key_ord

-- the order of natural keys: by kind, lowest first, and then part by part
abbrev pub natural_key_cmp : NaturalKey → NaturalKey → Ordering
natural_key_cmp = key_ord.ghosts.cmp

abbrev pub natural_key_of : Thing → NaturalKey
natural_key_of (thing.Port p) = key.Port p.lanes
natural_key_of (thing.Vlan vlan) = key.Vlan vlan
natural_key_of (thing.VirtualRouter label) = key.VirtualRouter label
natural_key_of (thing.BridgePort lane) = key.BridgePort lane
natural_key_of (thing.VlanMember vlan lane tagging) = key.VlanMember vlan lane
natural_key_of (thing.Rif on v) = key.Rif on
natural_key_of (thing.Own v ip) = key.Own v ip
natural_key_of (thing.Neighbor hop mac) = key.Neighbor hop
natural_key_of (thing.NextHop hop) = key.NextHop hop
natural_key_of (thing.Group hops) = key.Group hops
natural_key_of (thing.GroupMember hops hop) = key.GroupMember hops hop
natural_key_of (thing.Route v prefix goal) = key.Route v prefix

-- the natural key of an object, where its references are among these objects
abbrev pub key_among : Objects → (Entry Rid × Body Rid) → Option NaturalKey
key_among objects o = option_map natural_key_of (thing_of objects o)

-- the natural key of each object, in their order, and none for an object with an absent reference
abbrev pub keys_of_objects : Objects → List (Option NaturalKey)
keys_of_objects objects = map (option_map natural_key_of) (named objects)
