-- What rows share, and which rows use it. Own.
use Rattle.std.specs.Prelude.{◌⊎◌, List, [], ◌∷◌, Option, Some, None}
use Rattle.swss_types.specs.declared.address.Ip.{Ip}
use Rattle.swss_types.specs.declared.interface.IfName.{IfName}
use Rattle.swss_types.specs.declared.interface.IfName.TheVariants as name
use Rattle.swss_types.specs.declared.vrf.Vrf.{Vrf}
use Rattle.table_schema.specs.Plan.{Ports}
use Rattle.table_schema.specs.declared.key.Key.{Key}
use Rattle.table_schema.specs.declared.key.Key.TheVariants as key
use Rattle.table_schema.specs.declared.row.RouteRow.{RouteRow}
use Rattle.table_schema.specs.declared.row.RouteRow.TheVariants as route
use Rattle.sai_types.specs.declared.weight.WHop.{WHop}
use Rattle.sai_types.specs.declared.thing.Thing.{Thing}
use Rattle.sai_types.specs.declared.thing.Thing.TheVariants as thing
use Rattle.switch_model.specs.Placed as row
use Rattle.switch_model.specs.Placed.{Placed as Row}
use Rattle.switch_model.specs.Things.{hops_of, lane_of, members_of}
use Rattle.sai_types.specs.Alike.{IsIn}
use Rattle.row_layout.specs.Rows.{Owner, OfRow, Bridge, Own, Group, IsPlanned, from, own_things}

-- the things of what is shared
abbrev pub shared_things : Owner → List Thing
shared_things (OfRow k) = []
shared_things (Bridge lane) = thing.BridgePort lane ∷ []
shared_things (Own v ip) = thing.Own v ip ∷ []
shared_things (Group hops) = thing.Group hops ∷ members_of hops hops

abbrev pub group_by : Option (List WHop) → List Owner
group_by None = []
group_by (Some []) = []
group_by (Some (hop ∷ [])) = []
group_by (Some (hop ∷ next ∷ hops)) = Group (hop ∷ next ∷ hops) ∷ []

abbrev pub route_uses : Ports → RouteRow → List Owner
route_uses plan route.Drop = []
route_uses plan (route.Direct n) = []
route_uses plan (route.Hops hops) = group_by (hops_of plan hops)

-- the own address of an interface: none where its port is not in the plan
abbrev pub address_uses : Ports → IfName → Vrf → Ip → List Owner
address_uses plan (name.Ethernet port) v ip = from (lane_of plan port) (λ lane. Own v ip ∷ [])
address_uses plan (name.Vlan vlan) v ip = Own v ip ∷ []
address_uses plan (name.Loopback number) v ip = Own v ip ∷ []

-- what a row uses with others
abbrev pub uses : Ports → Key → Row → List Owner
uses plan (key.Member vlan port) (row.Member tagging) = from (lane_of plan port) (λ lane. Bridge lane ∷ [])
uses plan (key.Addr n ip len) (row.Addr v) = address_uses plan n v ip
uses plan (key.Route v prefix) (row.Route r) = route_uses plan r
uses plan _ _ = []

-- a thing is one of a row's own, or of what it uses
abbrev pub IsOf : List Thing → List Owner → Thing → Type 0
IsOf own used t = IsIn t own ⊎ ((o : Owner) × IsIn o used × IsIn t (shared_things o))

-- an owner can hold this thing
abbrev pub CanHold : Ports → Owner → Thing → Type 0
CanHold plan (OfRow k) t = (r : Row) × IsPlanned plan k r × IsIn t (own_things plan k r)
CanHold plan o t = IsIn t (shared_things o)
