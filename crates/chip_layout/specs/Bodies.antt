-- The body of a thing's object. Own. I is the type of identifiers: those of the chip, or those that the service makes up.
use Rattle.std.specs.Prelude.{◌≡◌, Bool, true, false, List, [], ◌∷◌, Option, Some, None, if◌then◌else◌}
use Rattle.sai_types.specs.declared.hop.Base.{Base}
use Rattle.sai_types.specs.declared.hop.Base.TheVariants as base
use Rattle.sai_types.specs.declared.kind.Kind.{Kind}
use Rattle.sai_types.specs.declared.kind.Kind.TheVariants as kind
use Rattle.sai_types.specs.declared.body.Body.{Body}
use Rattle.sai_types.specs.declared.body.Body.TheVariants as body
use Rattle.sai_types.specs.declared.body.Attr.{Attr}
use Rattle.sai_types.specs.declared.body.Attr.TheVariants as attr
use Rattle.sai_types.specs.declared.body.RifOn.{RifOn}
use Rattle.sai_types.specs.declared.body.RifOn.TheVariants as on
use Rattle.sai_types.specs.declared.body.To.{To}
use Rattle.sai_types.specs.declared.body.To.TheVariants as to
use Rattle.sai_types.specs.declared.thing.Goal.{Goal}
use Rattle.sai_types.specs.declared.thing.Goal.TheVariants as goal
use Rattle.sai_types.specs.declared.thing.Thing.{Thing}
use Rattle.sai_types.specs.declared.thing.Thing.TheVariants as thing
use Rattle.sai_types.specs.Names.{ThingName, VirtualRouter, goal_names, main_references, name_kind}
use Rattle.swss_types.specs.declared.vrf.Vrf.{Vrf}
use Rattle.swss_types.specs.declared.vrf.Vrf.TheVariants as vrf

-- whether objects of this kind have identifiers
abbrev pub is_numbered : Kind → Bool
is_numbered kind.OwnAddress = false
is_numbered kind.Neighbor = false
is_numbered kind.Route = false
is_numbered _ = true

abbrev pub first_thing_name : List ThingName → Option ThingName
first_thing_name [] = None
first_thing_name (k ∷ ks) = Some k

-- the second of some names, where its object has an identifier
abbrev pub second_of : List ThingName → Option ThingName
second_of (k ∷ l ∷ ks) = if is_numbered (name_kind l) then Some l else None
second_of _ = None

-- the name of a virtual router, which the default one has not
abbrev pub router_name : Vrf → Option ThingName
router_name vrf.Default = None
router_name (vrf.Named label) = Some (VirtualRouter label)

-- what the first identifier in a thing's object names, and the second: that of the virtual router is the second, and a next hop's neighbour is named by the identifier of its interface
abbrev pub first_name : Thing → Option ThingName
first_name t = first_thing_name (main_references t)

abbrev pub second_name : Thing → Option ThingName
second_name (thing.Rif on v) = router_name v
second_name (thing.Own v ip) = router_name v
second_name (thing.Route v prefix goal) = router_name v
second_name t = second_of (main_references t)

abbrev pub goal_name : Goal → Option ThingName
goal_name goal = first_thing_name (goal_names goal)

abbrev pub on_with : {I : Type 0} → Base → I → RifOn I
on_with (base.Port lane) i = on.Port i
on_with (base.Vlan vlan) i = on.Vlan i

abbrev pub to_with : {I : Type 0} → Goal → I → To I
to_with goal.Drop i = to.Drop
to_with (goal.Direct on) i = to.Rif i
to_with (goal.Via hop) i = to.NextHop i
to_with (goal.Group hops) i = to.Group i

abbrev pub vr_with : {I : Type 0} → Vrf → I → Option I
vr_with vrf.Default j = None
vr_with (vrf.Named label) j = Some j

-- the body of a thing whose references have the identifiers i and j
abbrev pub body_with : {I : Type 0} → Thing → I → I → Body I
body_with (thing.Port p) i j = body.Port p.lanes p.speed p.mtu p.up
body_with (thing.Vlan vlan) i j = body.Vlan vlan
body_with (thing.VirtualRouter label) i j = body.VirtualRouter label
body_with (thing.BridgePort lane) i j = body.BridgePort i
body_with (thing.VlanMember vlan lane tagging) i j = body.VlanMember i j tagging
body_with (thing.Rif on v) i j = body.Rif (vr_with v j) (on_with on i)
body_with (thing.Own v ip) i j = body.OwnAddress (vr_with v j) ip
body_with (thing.Neighbor hop mac) i j = body.Neighbor i hop.ip mac
body_with (thing.NextHop hop) i j = body.NextHop i hop.ip
body_with (thing.Group hops) i j = body.Group
body_with (thing.GroupMember hops whop) i j = body.GroupMember i j whop.weight
body_with (thing.Route v prefix goal) i j = body.Route (vr_with v j) prefix (to_with goal i)

-- an identifier is that of a name, where there is a name
abbrev pub IsAt : {I : Type 0} → (ThingName → I → Type 0) → Option ThingName → I → Type 0
IsAt at None i = Unit {0}
IsAt at (Some k) i = at k i

-- the body of a thing, where names have identifiers
pub record IsBody {I : Type 0} (at : ThingName → I → Type 0) (t : Thing) (b : Body I) : Type 0 where
  pub first : I
  pub second : I
  pub first_at : IsAt at (first_name t) first
  pub second_at : IsAt at (second_name t) second
  pub body_is : b ≡ body_with t first second

-- a set of an attribute makes another thing of a thing; the new target of a route has an identifier
abbrev pub IsChange : {I : Type 0} → (ThingName → I → Type 0) → Thing → Attr I → Thing → Type 0
IsChange at (thing.Port p) (attr.Speed s) u = u ≡ thing.Port (record { lanes = p.lanes; speed = s; mtu = p.mtu; up = p.up })
IsChange at (thing.Port p) (attr.Mtu m) u = u ≡ thing.Port (record { lanes = p.lanes; speed = p.speed; mtu = m; up = p.up })
IsChange at (thing.Port p) (attr.Up x) u = u ≡ thing.Port (record { lanes = p.lanes; speed = p.speed; mtu = p.mtu; up = x })
IsChange at (thing.VlanMember vlan lane tagging) (attr.Tagging x) u = u ≡ thing.VlanMember vlan lane x
IsChange at (thing.Neighbor hop mac) (attr.Mac m) u = u ≡ thing.Neighbor hop m
IsChange {I} at (thing.Route v prefix goal) (attr.To x) u = (next : Goal) × (i : I) × IsAt at (goal_name next) i × (x ≡ to_with next i) × (u ≡ thing.Route v prefix next)
IsChange at _ _ u = ⊥
