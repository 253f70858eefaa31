-- The kinds of objects, as the report names and orders them. Own; the words are those of the SAI object types.
use Rattle.std.specs.Prelude.{ℕ, List, codes}
use Rattle.sai_types.specs.declared.kind.Kind.{Kind}
use Rattle.sai_types.specs.declared.kind.Kind.TheVariants as kind

abbrev pub kind_name : Kind → List ℕ
kind_name kind.Port = codes "PORT"
kind_name kind.Vlan = codes "VLAN"
kind_name kind.VirtualRouter = codes "VIRTUAL_ROUTER"
kind_name kind.BridgePort = codes "BRIDGE_PORT"
kind_name kind.VlanMember = codes "VLAN_MEMBER"
kind_name kind.Rif = codes "RIF"
kind_name kind.OwnAddress = codes "OWN_ADDRESS"
kind_name kind.Neighbor = codes "NEIGHBOR"
kind_name kind.NextHop = codes "NEXT_HOP"
kind_name kind.Group = codes "GROUP"
kind_name kind.GroupMember = codes "GROUP_MEMBER"
kind_name kind.Route = codes "ROUTE"
