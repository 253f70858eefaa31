-- What a set of things does with a packet. An own address comes before every route (own rule); a route is chosen by the longest prefix that covers the address (RFC 4632 section 5.1).
use Rattle.std.specs.Prelude.{Bool, false, ◌||◌, ◌&&◌, nat_lt, List, [], ◌∷◌, map, Option, Some, None, if◌then◌else◌}
use Rattle.swss_types.specs.Vrf.{covers_in, same_vrf}
use Rattle.swss_types.specs.declared.address.Mac.{Mac}
use Rattle.swss_types.specs.declared.address.Prefix.{Prefix}
use Rattle.swss_types.specs.declared.vrf.Packet.{Packet}
use Rattle.sai_types.specs.declared.hop.Base.{Base}
use Rattle.sai_types.specs.declared.hop.Hop.{Hop}
use Rattle.sai_types.specs.contracts.hop.HopPartialEq.TheImpl as hop_eq
use Rattle.sai_types.specs.declared.weight.WHop.{WHop}
use Rattle.sai_types.specs.declared.thing.Goal.{Goal}
use Rattle.sai_types.specs.declared.thing.Goal.TheVariants as goal
use Rattle.sai_types.specs.declared.thing.Thing.{Thing}
use Rattle.sai_types.specs.declared.thing.Thing.TheVariants as thing
use Rattle.sai_types.specs.Refusal.{same_ip}

-- where a packet goes
pub data Decision : Type 0 where
  Cpu : Decision
  Drop : Decision
  Direct : Base → Decision
  Via : List WHop → Decision

-- where a packet goes, with the Ethernet address of each hop where its neighbour stands
pub data Forwarding : Type 0 where
  ToCpu : Forwarding
  Dropped : Forwarding
  ToAll : Base → Forwarding
  Through : List (WHop × Option Mac) → Forwarding

abbrev pub is_own : Packet → Thing → Bool
is_own a (thing.Own v ip) = same_vrf v a.vrf && same_ip ip a.to
is_own a _ = false

-- whether it goes to one of the switch's own addresses
abbrev pub has_own : List Thing → Packet → Bool
has_own [] a = false
has_own (t ∷ ts) a = is_own a t || has_own ts a

-- of a route and the best of the others, the one with the longer prefix
abbrev pub longer : Prefix → Goal → Option (Prefix × Goal) → Option (Prefix × Goal)
longer p g None = Some (p, g)
longer p g (Some best) = if nat_lt p.len best.0.len then Some best else Some (p, g)

abbrev pub with_route : Packet → Thing → Option (Prefix × Goal) → Option (Prefix × Goal)
with_route a (thing.Route v p g) best = if covers_in v p a then longer p g best else best
with_route a _ best = best

-- the route of the packet's router with the longest prefix that covers its address
abbrev pub best_route : List Thing → Packet → Option (Prefix × Goal)
best_route [] a = None
best_route (t ∷ ts) a = with_route a t (best_route ts a)

-- a hop with the weight 1
abbrev pub alone : Hop → WHop
alone hop = record { hop = hop; weight = 1 }

-- one hop is the set of itself, with the weight 1
abbrev pub decision_of : Goal → Decision
decision_of goal.Drop = Drop
decision_of (goal.Direct base) = Direct base
decision_of (goal.Via hop) = Via (alone hop ∷ [])
decision_of (goal.Group hops) = Via hops

abbrev pub decide_route : Option (Prefix × Goal) → Decision
decide_route None = Drop
decide_route (Some route) = decision_of route.1

-- where a packet goes: to the switch itself where its address is one of the switch's own in its router, else where the route of the longest prefix there points, else nowhere
abbrev pub decide : List Thing → Packet → Decision
decide things a = if has_own things a then Cpu else decide_route (best_route things a)

abbrev pub same_hop : Hop → Hop → Bool
same_hop = hop_eq.ghosts.eq

-- the Ethernet address of a hop
abbrev pub hop_mac : List Thing → Hop → Option Mac
hop_mac [] hop = None
hop_mac (thing.Neighbor h mac ∷ ts) hop = if same_hop h hop then Some mac else hop_mac ts hop
hop_mac (_ ∷ ts) hop = hop_mac ts hop

abbrev pub forwarding_of : List Thing → Decision → Forwarding
forwarding_of things Cpu = ToCpu
forwarding_of things Drop = Dropped
forwarding_of things (Direct base) = ToAll base
forwarding_of things (Via hops) = Through (map (λ h. (h, hop_mac things h.hop)) hops)

-- the decision with each hop's Ethernet address
abbrev pub forward : List Thing → Packet → Forwarding
forward things a = forwarding_of things (decide things a)
