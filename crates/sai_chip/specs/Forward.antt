-- Where a simulated chip sends packets, as its caller sees it. Own.
use Rattle.std.specs.Prelude.{ℕ, List, [], ◌∷◌, map, Option, Some, None, option_map}
use Rattle.std.specs.Ordering.{match_ordering}
use Rattle.swss_types.specs.declared.address.Mac.{Mac}
use Rattle.swss_types.specs.declared.address.Prefix.{Prefix}
use Rattle.swss_types.specs.declared.vrf.Packet.{Packet}
use Rattle.swss_types.specs.declared.vrf.Vrf.{Vrf}
use Rattle.sai_types.specs.declared.hop.Hop.{Hop}
use Rattle.sai_types.specs.declared.weight.WHop.{WHop}
use Rattle.sai_types.specs.declared.thing.Goal.{Goal}
use Rattle.sai_types.specs.declared.thing.Thing.TheVariants as thing
use Rattle.sai_types.specs.Forwarding.{Forwarding, decision_of, forwarding_of, hop_mac, with_route}
use Rattle.sai_types.specs.Forwarding as forwarding
use Rattle.sai_types.specs.Hop.{heavier}
use Rattle.sai_types.specs.Named.{hop_cmp, named, those}
use Rattle.sai_types.specs.Objects.{Objects}
use Rattle.sai_chip.specs.declared.forward.Forward.{Forward}
use Rattle.sai_chip.specs.declared.forward.Forward.TheVariants as forward

-- a hop with its Ethernet address in front of others, where it has one
abbrev pub with_way : WHop → Option Mac → List (WHop × Mac) → List (WHop × Mac)
with_way hop None ways = ways
with_way hop (Some mac) ways = (hop, mac) ∷ ways

-- the hops that have an Ethernet address; in a state that legal calls made, each has one
abbrev pub ways_of : List (WHop × Option Mac) → List (WHop × Mac)
ways_of [] = []
ways_of (h ∷ hs) = with_way h.0 h.1 (ways_of hs)

-- the answer of a forwarding
abbrev pub answer_of : Forwarding → Forward
answer_of forwarding.ToCpu = forward.Cpu
answer_of forwarding.Dropped = forward.Drop
answer_of (forwarding.ToAll base) = forward.Direct base
answer_of (forwarding.Through hops) = forward.Via (ways_of hops)

-- where a route to this goal sends
abbrev pub sent : Objects → Goal → Forward
sent objects goal = answer_of (forwarding_of (those (named objects)) (decision_of goal))

-- a hop with its Ethernet address, where it has one
abbrev pub way_of : Objects → WHop → WHop × Option Mac
way_of objects whop = (whop, hop_mac (those (named objects)) whop.hop)

-- the same of several, where there are some
abbrev pub ways_by : Objects → Option (List WHop) → Option (List (WHop × Option Mac))
ways_by objects hops = option_map (map (way_of objects)) hops

-- weights and Ethernet addresses by their hops, as ways
abbrev pub ways_in : List (Hop × (ℕ × Option Mac)) → List (WHop × Option Mac)
ways_in entries = map (λ e. (record { hop = e.0; weight = e.1.0 }, e.1.1)) entries

-- the weight of a hop that is put beside what is there of it
abbrev pub weight_beside : Option (ℕ × Option Mac) → ℕ → ℕ
weight_beside None weight = weight
weight_beside (Some there) weight = heavier there.0 weight

-- hops with one more in its place; of one that is there the greater weight is kept
abbrev pub more_ways : List (WHop × Option Mac) → WHop × Option Mac → List (WHop × Option Mac)
more_ways [] way = way ∷ []
more_ways (x ∷ xs) way = match_ordering (hop_cmp way.0.hop x.0.hop) (way ∷ x ∷ xs) ((record { hop = x.0.hop; weight = heavier x.0.weight way.0.weight }, way.1) ∷ xs) (x ∷ more_ways xs way)

-- a route in this router to this goal beside the best of others; none where it has no router or no goal
abbrev pub with_goal : Packet → Prefix → Option Vrf → Option Goal → Option (Prefix × Goal) → Option (Prefix × Goal)
with_goal a p None goal r = r
with_goal a p (Some v) None r = r
with_goal a p (Some v) (Some goal) r = with_route a (thing.Route v p goal) r
