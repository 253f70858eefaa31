-- Where goals send, by the Ethernet addresses of neighbours. Own.
use Rattle.std.specs.Prelude.{List, [], ◌∷◌, map, Option}
use Rattle.std.specs.BTreeMap.{insert_entry, is_at}
use Rattle.std.specs.Map.{lookup}
use Rattle.swss_types.specs.declared.address.Mac.{Mac}
use Rattle.sai_types.specs.declared.hop.Hop.{Hop}
use Rattle.sai_types.specs.declared.weight.WHop.{WHop}
use Rattle.sai_types.specs.declared.thing.Goal.{Goal}
use Rattle.sai_types.specs.declared.thing.Goal.TheVariants as goal
use Rattle.sai_types.specs.declared.thing.Thing.{Thing}
use Rattle.sai_types.specs.declared.thing.Thing.TheVariants as thing
use Rattle.sai_types.specs.Forwarding.{alone}
use Rattle.sai_types.specs.Hop.{hop_cmp}
use Rattle.sai_chip.specs.Forward.{ways_of}
use Rattle.sai_chip.specs.declared.forward.Forward.{Forward}
use Rattle.sai_chip.specs.declared.forward.Forward.TheVariants as forward

-- Ethernet addresses by hops
abbrev pub Macs : Type 0
Macs = List (Hop × Mac)

abbrev pub with_mac : Macs → Thing → Macs
with_mac macs (thing.Neighbor h mac) = insert_entry hop_cmp macs h mac
with_mac macs _ = macs

-- those of the neighbours among these things, of several of one hop that of the first
abbrev pub macs_in : List Thing → Macs
macs_in [] = []
macs_in (t ∷ ts) = with_mac (macs_in ts) t

abbrev pub neighbor_mac : Macs → Hop → Option Mac
neighbor_mac macs hop = lookup (is_at (hop_cmp hop)) macs

-- the hops that have an Ethernet address, with it
abbrev pub addressed_ways : Macs → List WHop → List (WHop × Mac)
addressed_ways macs hops = ways_of (map (λ w. (w, neighbor_mac macs w.hop)) hops)

-- where a route to this goal sends
abbrev pub send_by : Macs → Goal → Forward
send_by macs goal.Drop = forward.Drop
send_by macs (goal.Direct base) = forward.Direct base
send_by macs (goal.Via hop) = forward.Via (addressed_ways macs (alone hop ∷ []))
send_by macs (goal.Group hops) = forward.Via (addressed_ways macs hops)
