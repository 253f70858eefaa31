-- By what things speak of each other, and which can't stand together. The names are the natural keys of the OCP SAI headers' key attributes, but of a port its first lane; the references are the attributes that hold another object's identifier, and of a next hop its neighbour too.
use Rattle.std.specs.Prelude.{◌≡◌, ◌⊎◌, ℕ, true, List, [], ◌∷◌}
use Rattle.swss_types.specs.declared.address.Ip.{Ip}
use Rattle.swss_types.specs.declared.address.Prefix.{Prefix}
use Rattle.swss_types.specs.declared.vrf.Vrf.{Vrf}
use Rattle.swss_types.specs.declared.vrf.Vrf.TheVariants as vrf
use Rattle.swss_types.specs.declared.vrf.VrfName.{VrfName}
use Rattle.sai_types.specs.declared.hop.Base.{Base}
use Rattle.sai_types.specs.declared.hop.Base.TheVariants as base
use Rattle.sai_types.specs.declared.hop.Hop.{Hop}
use Rattle.sai_types.specs.declared.weight.WHop.{WHop}
use Rattle.sai_types.specs.declared.kind.Kind.{Kind}
use Rattle.sai_types.specs.declared.kind.Kind.TheVariants as kind
use Rattle.sai_types.specs.declared.thing.Goal.{Goal}
use Rattle.sai_types.specs.declared.thing.Goal.TheVariants as goal
use Rattle.sai_types.specs.declared.thing.Thing.{Thing}
use Rattle.sai_types.specs.declared.thing.Thing.TheVariants as thing
use Rattle.sai_types.specs.Alike.{IsIn}
use Rattle.sai_types.specs.Named.{first_lane}
use Rattle.sai_types.specs.Refusal.{share_lane}

-- by what two things of a kind are the same thing: what can be set on an object has no part in it, nor has the router of an interface
pub data ThingName : Type 0 where
  Port : ℕ → ThingName
  Vlan : ℕ → ThingName
  VirtualRouter : VrfName → ThingName
  BridgePort : ℕ → ThingName
  VlanMember : ℕ → ℕ → ThingName
  Rif : Base → ThingName
  Own : Vrf → Ip → ThingName
  Neighbor : Hop → ThingName
  NextHop : Hop → ThingName
  Group : List WHop → ThingName
  GroupMember : List WHop → WHop → ThingName
  Route : Vrf → Prefix → ThingName

abbrev pub name_of : Thing → ThingName
name_of (thing.Port p) = Port (first_lane p.lanes)
name_of (thing.Vlan vlan) = Vlan vlan
name_of (thing.VirtualRouter label) = VirtualRouter label
name_of (thing.BridgePort lane) = BridgePort lane
name_of (thing.VlanMember vlan lane tagging) = VlanMember vlan lane
name_of (thing.Rif on v) = Rif on
name_of (thing.Own v ip) = Own v ip
name_of (thing.Neighbor hop mac) = Neighbor hop
name_of (thing.NextHop hop) = NextHop hop
name_of (thing.Group hops) = Group hops
name_of (thing.GroupMember hops whop) = GroupMember hops whop
name_of (thing.Route v prefix goal) = Route v prefix

-- the kind of object that a name is for
abbrev pub name_kind : ThingName → Kind
name_kind (Port lane) = kind.Port
name_kind (Vlan vlan) = kind.Vlan
name_kind (VirtualRouter label) = kind.VirtualRouter
name_kind (BridgePort lane) = kind.BridgePort
name_kind (VlanMember vlan lane) = kind.VlanMember
name_kind (Rif on) = kind.Rif
name_kind (Own v ip) = kind.OwnAddress
name_kind (Neighbor hop) = kind.Neighbor
name_kind (NextHop hop) = kind.NextHop
name_kind (Group hops) = kind.Group
name_kind (GroupMember hops hop) = kind.GroupMember
name_kind (Route v prefix) = kind.Route

-- the kind of object that a thing is
abbrev pub thing_kind : Thing → Kind
thing_kind t = name_kind (name_of t)

abbrev pub base_name : Base → ThingName
base_name (base.Port lane) = Port lane
base_name (base.Vlan vlan) = Vlan vlan

abbrev pub goal_names : Goal → List ThingName
goal_names goal.Drop = []
goal_names (goal.Direct on) = Rif on ∷ []
goal_names (goal.Via hop) = NextHop hop ∷ []
goal_names (goal.Group hops) = Group hops ∷ []

-- the virtual router that a thing is in
abbrev pub thing_router : Thing → Vrf
thing_router (thing.Rif on v) = v
thing_router (thing.Own v ip) = v
thing_router (thing.Route v prefix goal) = v
thing_router _ = vrf.Default

-- with the name of a virtual router in front, unless it is the default one
abbrev pub with_router : Vrf → List ThingName → List ThingName
with_router vrf.Default ks = ks
with_router (vrf.Named label) ks = VirtualRouter label ∷ ks

-- the names that a thing refers to beside its virtual router
abbrev pub main_references : Thing → List ThingName
main_references (thing.BridgePort lane) = Port lane ∷ []
main_references (thing.VlanMember vlan lane tagging) = Vlan vlan ∷ BridgePort lane ∷ []
main_references (thing.Rif on v) = base_name on ∷ []
main_references (thing.Neighbor hop mac) = Rif hop.on ∷ []
main_references (thing.NextHop hop) = Rif hop.on ∷ Neighbor hop ∷ []
main_references (thing.GroupMember hops whop) = Group hops ∷ NextHop whop.hop ∷ []
main_references (thing.Route v prefix goal) = goal_names goal
main_references _ = []

-- the names that a thing refers to
abbrev pub thing_references : Thing → List ThingName
thing_references t = with_router (thing_router t) (main_references t)

-- a thing refers to what has this name
abbrev pub Refers : Thing → ThingName → Type 0
Refers t k = IsIn k (thing_references t)

-- what no two things that stand together have in common: two ports a lane, two members of a group a hop
abbrev pub Overlap : Thing → Thing → Type 0
Overlap (thing.Port p) (thing.Port q) = share_lane p.lanes q.lanes ≡ true
Overlap (thing.GroupMember gs x) (thing.GroupMember hs y) = (gs ≡ hs) × (x.hop ≡ y.hop)
Overlap _ _ = ⊥

-- two things can't stand together
abbrev pub Meet : Thing → Thing → Type 0
Meet t u = (name_of t ≡ name_of u) ⊎ Overlap t u
