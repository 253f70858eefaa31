-- What stands on a chip, up to identifiers: each object with its identifiers replaced by the natural keys of what they name. Own; the natural keys are those of the OCP SAI headers' key attributes.
use Rattle.std.specs.Prelude.{ℕ, List, [], ◌∷◌, Option, Some, None, slice_index, option_map, if◌then◌else◌}
use Rattle.swss_types.specs.declared.address.Ip.{Ip}
use Rattle.swss_types.specs.declared.vrf.Vrf.{Vrf}
use Rattle.swss_types.specs.declared.vrf.Vrf.TheVariants as vrf
use Rattle.swss_types.specs.declared.vrf.VrfName.{VrfName}
use Rattle.sai_types.specs.declared.ids.Rid.{Rid}
use Rattle.sai_types.specs.declared.hop.Base.{Base}
use Rattle.sai_types.specs.declared.hop.Base.TheVariants as base
use Rattle.sai_types.specs.declared.hop.Hop.{Hop}
use Rattle.sai_types.specs.declared.weight.WHop.{WHop}
use Rattle.sai_types.specs.declared.thing.Goal.{Goal}
use Rattle.sai_types.specs.declared.thing.Goal.TheVariants as goal
use Rattle.sai_types.specs.declared.thing.Thing.{Thing}
use Rattle.sai_types.specs.declared.thing.Thing.TheVariants as thing
use Rattle.sai_types.specs.declared.body.Body.{Body}
use Rattle.sai_types.specs.declared.body.Body.TheVariants as body
use Rattle.sai_types.specs.declared.body.Entry.{Entry}
use Rattle.sai_types.specs.declared.body.Entry.TheVariants as entry
use Rattle.sai_types.specs.declared.body.RifOn.{RifOn}
use Rattle.sai_types.specs.declared.body.RifOn.TheVariants as on
use Rattle.sai_types.specs.declared.body.To.{To}
use Rattle.sai_types.specs.declared.body.To.TheVariants as to
pub use Rattle.sai_types.specs.Hop.{hop_cmp, put_hop, whop_cmp}
use Rattle.sai_types.specs.Objects.{Objects, body_at}
use Rattle.sai_types.specs.Refusal.{same_id}

-- two parts of a name
abbrev pub both : {A B C : Type 0} → (A → B → C) → Option A → Option B → Option C
both f (Some a) (Some b) = Some (f a b)
both f (Some a) None = None
both f None _ = None

-- a port is named by its first lane
abbrev pub first_lane : List ℕ → ℕ
first_lane lanes = slice_index lanes 0

abbrev pub body_port : Option (Body Rid) → Option ℕ
body_port (Some (body.Port lanes speed mtu up)) = Some (first_lane lanes)
body_port _ = None

abbrev pub body_vlan : Option (Body Rid) → Option ℕ
body_vlan (Some (body.Vlan vlan)) = Some vlan
body_vlan _ = None

abbrev pub body_router : Option (Body Rid) → Option VrfName
body_router (Some (body.VirtualRouter label)) = Some label
body_router _ = None

abbrev pub port_at : Objects → Rid → Option ℕ
port_at objects r = body_port (body_at objects (entry.Oid r))

abbrev pub vlan_at : Objects → Rid → Option ℕ
vlan_at objects r = body_vlan (body_at objects (entry.Oid r))

-- the virtual router of an object: the default one is none of the objects
abbrev pub router_at : Objects → Option Rid → Option Vrf
router_at objects None = Some vrf.Default
router_at objects (Some r) = option_map vrf.Named (body_router (body_at objects (entry.Oid r)))

-- a bridge port is named by its port
abbrev pub bridge_port_of : Objects → Option (Body Rid) → Option ℕ
bridge_port_of objects (Some (body.BridgePort port)) = port_at objects port
bridge_port_of objects _ = None

abbrev pub bridge_port_at : Objects → Rid → Option ℕ
bridge_port_at objects r = bridge_port_of objects (body_at objects (entry.Oid r))

-- what a router interface stands on
abbrev pub base_on : Objects → RifOn Rid → Option Base
base_on objects (on.Port p) = option_map base.Port (port_at objects p)
base_on objects (on.Vlan v) = option_map base.Vlan (vlan_at objects v)

-- a router interface is named by its base
abbrev pub rif_of : Objects → Option (Body Rid) → Option Base
rif_of objects (Some (body.Rif vr on)) = base_on objects on
rif_of objects _ = None

abbrev pub rif_at : Objects → Rid → Option Base
rif_at objects r = rif_of objects (body_at objects (entry.Oid r))

-- a neighbour and a next hop are named by their interface and address
abbrev pub hop_on : Objects → Rid → Ip → Option Hop
hop_on objects rif ip = option_map (λ b. record { on = b; ip = ip }) (rif_at objects rif)

abbrev pub next_hop_of : Objects → Option (Body Rid) → Option Hop
next_hop_of objects (Some (body.NextHop rif ip)) = hop_on objects rif ip
next_hop_of objects _ = None

abbrev pub next_hop_at : Objects → Rid → Option Hop
next_hop_at objects r = next_hop_of objects (body_at objects (entry.Oid r))

-- the hop of a member, with its weight
abbrev pub whop_at : Objects → Rid → ℕ → Option WHop
whop_at objects r weight = option_map (λ h. record { hop = h; weight = weight }) (next_hop_at objects r)

-- the hop of a member of this group, beside the hops of others
abbrev pub with_member : Objects → Rid → Body Rid → Option (List WHop) → Option (List WHop)
with_member objects g (body.GroupMember group next_hop weight) others =
    if same_id group g then both put_hop others (whop_at objects next_hop weight) else others
with_member objects g _ others = others

-- the hops of a group's members among these objects, rising
abbrev pub hops_among : Objects → Rid → Objects → Option (List WHop)
hops_among objects g [] = Some []
hops_among objects g (o ∷ os) = with_member objects g o.1 (hops_among objects g os)

-- a group is named by the hops of its members, with their weights
abbrev pub hops_at : Objects → Rid → Option (List WHop)
hops_at objects g = hops_among objects g objects

-- where a route points, where groups have these hops
abbrev pub goal_by : (Rid → Option (List WHop)) → Objects → To Rid → Option Goal
goal_by hops objects to.Drop = Some goal.Drop
goal_by hops objects (to.Rif r) = option_map goal.Direct (rif_at objects r)
goal_by hops objects (to.NextHop n) = option_map goal.Via (next_hop_at objects n)
goal_by hops objects (to.Group g) = option_map goal.Group (hops g)

-- what an object stands for, where groups have these hops; none where a reference is absent
abbrev pub thing_by : (Rid → Option (List WHop)) → Objects → (Entry Rid × Body Rid) → Option Thing
thing_by hops objects (e, body.Port lanes speed mtu up) = Some (thing.Port (record { lanes = lanes; speed = speed; mtu = mtu; up = up }))
thing_by hops objects (e, body.Vlan vlan) = Some (thing.Vlan vlan)
thing_by hops objects (e, body.VirtualRouter label) = Some (thing.VirtualRouter label)
thing_by hops objects (e, body.BridgePort port) = option_map thing.BridgePort (port_at objects port)
thing_by hops objects (e, body.VlanMember vlan bridge_port tagging) = both (λ v p. thing.VlanMember v p tagging) (vlan_at objects vlan) (bridge_port_at objects bridge_port)
thing_by hops objects (e, body.Rif vr on) = both thing.Rif (base_on objects on) (router_at objects vr)
thing_by hops objects (e, body.OwnAddress vr ip) = option_map (λ v. thing.Own v ip) (router_at objects vr)
thing_by hops objects (e, body.Neighbor rif ip mac) = option_map (λ h. thing.Neighbor h mac) (hop_on objects rif ip)
thing_by hops objects (e, body.NextHop rif ip) = option_map thing.NextHop (hop_on objects rif ip)
thing_by hops objects (entry.Oid g, body.Group) = option_map thing.Group (hops g)
thing_by hops objects (_, body.Group) = None
thing_by hops objects (e, body.GroupMember group next_hop weight) = both thing.GroupMember (hops group) (whop_at objects next_hop weight)
thing_by hops objects (e, body.Route vr prefix to) = both (λ v g. thing.Route v prefix g) (router_at objects vr) (goal_by hops objects to)

-- what an object stands for, a group by the hops of its members
abbrev pub thing_of : Objects → (Entry Rid × Body Rid) → Option Thing
thing_of objects o = thing_by (hops_at objects) objects o

-- the things of objects among these, in their order, and none for an object with an absent reference
abbrev pub things_among : Objects → Objects → List (Option Thing)
things_among objects [] = []
things_among objects (o ∷ os) = thing_of objects o ∷ things_among objects os

-- what stands on a chip, object by object
abbrev pub named : Objects → List (Option Thing)
named objects = things_among objects objects

-- the things that stand, in the order of their objects
abbrev pub those : {X : Type 0} → List (Option X) → List X
those [] = []
those (None ∷ os) = those os
those (Some x ∷ os) = x ∷ those os
