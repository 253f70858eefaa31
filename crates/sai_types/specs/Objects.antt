-- Objects of a chip (OCP SAI headers): entries with their bodies, in the order of the entries, each entry once.
use Rattle.std.specs.Prelude.{ℕ, Bool, false, ◌==◌, List, Option, Some, None, count_by}
use Rattle.std.specs.BTreeMap.{is_at}
use Rattle.std.specs.Map.{lookup}
use Rattle.std.specs.declared.cmp.Ordering.{Ordering}
use Rattle.sai_types.specs.declared.ids.Rid.{Rid}
use Rattle.sai_types.specs.declared.kind.Kind.{Kind}
use Rattle.sai_types.specs.declared.kind.Kind.TheVariants as kind
use Rattle.sai_types.specs.declared.body.Body.{Body}
use Rattle.sai_types.specs.declared.body.Body.TheVariants as body
use Rattle.sai_types.specs.declared.body.Entry.{Entry}
use Rattle.sai_types.specs.declared.body.Entry.TheVariants as entry
use Rattle.sai_types.specs.contracts.ids.Rid as rid
use Rattle.sai_types.specs.contracts.ids.RidOrd.TheImpl as rid_ord
use Rattle.sai_types.specs.contracts.ids.RidEq.TheImpl as rid_eq
use Rattle.sai_types.specs.contracts.ids.RidPartialEq.TheImpl as rid_partial_eq
use Rattle.sai_types.specs.contracts.ids.RidPartialOrd.TheImpl as rid_partial_ord
use Rattle.sai_types.specs.contracts.body.EntryOrd.TheImpl as entry_ord

-- the order of entries: identifiers by number, then own addresses, neighbours, routes
abbrev pub entry_cmp : Entry Rid → Entry Rid → Ordering
entry_cmp = (entry_ord.ghosts rid.the_row rid_ord.ghosts rid_ord.dict rid_eq.ghosts rid_eq.dict rid_partial_eq.ghosts rid_partial_eq.dict rid_partial_ord.ghosts rid_partial_ord.dict).cmp

abbrev pub Objects : Type 0
Objects = List (Entry Rid × Body Rid)

-- the body of the object with this entry
abbrev pub body_at : Objects → Entry Rid → Option (Body Rid)
body_at objects e = lookup (is_at (entry_cmp e)) objects

-- the place of a kind in the chip's table, lowest level first
abbrev pub level : Kind → ℕ
level kind.Port = 0
level kind.Vlan = 1
level kind.VirtualRouter = 2
level kind.BridgePort = 3
level kind.VlanMember = 4
level kind.Rif = 5
level kind.OwnAddress = 6
level kind.Neighbor = 7
level kind.NextHop = 8
level kind.Group = 9
level kind.GroupMember = 10
level kind.Route = 11

abbrev pub kind_of : {I : Type 0} → Body I → Kind
kind_of (body.Port lanes speed mtu up) = kind.Port
kind_of (body.Vlan vlan) = kind.Vlan
kind_of (body.VirtualRouter label) = kind.VirtualRouter
kind_of (body.BridgePort port) = kind.BridgePort
kind_of (body.VlanMember vlan bridge_port tagging) = kind.VlanMember
kind_of (body.Rif vr on) = kind.Rif
kind_of (body.OwnAddress vr ip) = kind.OwnAddress
kind_of (body.Neighbor rif ip mac) = kind.Neighbor
kind_of (body.NextHop rif ip) = kind.NextHop
kind_of body.Group = kind.Group
kind_of (body.GroupMember group next_hop weight) = kind.GroupMember
kind_of (body.Route vr prefix to) = kind.Route

-- whether a body is of this kind
abbrev pub is_of : {I : Type 0} → Kind → Body I → Bool
is_of k b = level (kind_of b) == level k

-- how many objects of a kind stand
abbrev pub used : Objects → Kind → ℕ
used objects k = count_by (λ o. is_of k o.1) objects

-- whether an object of this kind has this identifier
abbrev pub is_kind_of : Kind → Option (Body Rid) → Bool
is_kind_of k None = false
is_kind_of k (Some b) = is_of k b

abbrev pub is_there : Objects → Kind → Rid → Bool
is_there objects k r = is_kind_of k (body_at objects (entry.Oid r))
