-- What the objects of a chip refer to: the attributes of the OCP SAI headers that hold another object's identifier, and of a next hop the neighbour that it goes through.
use Rattle.std.specs.Prelude.{Bool, List, [], ◌∷◌, Option, Some, None}
use Rattle.std.specs.BTreeMap.{is_at}
use Rattle.std.specs.List.{list_all, list_any}
use Rattle.std.specs.Option.{is_some}
use Rattle.sai_types.specs.declared.ids.Rid.{Rid}
use Rattle.sai_types.specs.declared.kind.Kind.{Kind}
use Rattle.sai_types.specs.declared.kind.Kind.TheVariants as kind
use Rattle.sai_types.specs.declared.body.Attr.{Attr}
use Rattle.sai_types.specs.declared.body.Attr.TheVariants as attr
use Rattle.sai_types.specs.declared.body.Body.{Body}
use Rattle.sai_types.specs.declared.body.Body.TheVariants as body
use Rattle.sai_types.specs.declared.body.Entry.{Entry}
use Rattle.sai_types.specs.declared.body.Entry.TheVariants as entry
use Rattle.sai_types.specs.declared.body.RifOn.{RifOn}
use Rattle.sai_types.specs.declared.body.RifOn.TheVariants as on
use Rattle.sai_types.specs.declared.body.To.{To}
use Rattle.sai_types.specs.declared.body.To.TheVariants as to
use Rattle.sai_types.specs.Objects.{Objects, body_at, entry_cmp, is_kind_of}

-- a reference: the kind of the object, and its entry
abbrev pub Reference : Type 0 → Type 0
Reference I = Kind × Entry I

abbrev pub base_reference : {I : Type 0} → RifOn I → Reference I
base_reference (on.Port p) = (kind.Port, entry.Oid p)
base_reference (on.Vlan v) = (kind.Vlan, entry.Oid v)

abbrev pub target_references : {I : Type 0} → To I → List (Reference I)
target_references to.Drop = []
target_references (to.Rif r) = (kind.Rif, entry.Oid r) ∷ []
target_references (to.NextHop n) = (kind.NextHop, entry.Oid n) ∷ []
target_references (to.Group g) = (kind.Group, entry.Oid g) ∷ []

-- the virtual router that an object is in, unless it is the default one
abbrev pub router_of : {I : Type 0} → Body I → Option I
router_of (body.Rif vr on) = vr
router_of (body.OwnAddress vr ip) = vr
router_of (body.Route vr prefix to) = vr
router_of _ = None

-- with the virtual router in front, unless it is the default one
abbrev pub beside_router : {I : Type 0} → Option I → List (Reference I) → List (Reference I)
beside_router None rs = rs
beside_router (Some r) rs = (kind.VirtualRouter, entry.Oid r) ∷ rs

-- what an object refers to beside its virtual router
abbrev pub main_targets : {I : Type 0} → Body I → List (Reference I)
main_targets (body.BridgePort port) = (kind.Port, entry.Oid port) ∷ []
main_targets (body.VlanMember vlan bridge_port tagging) = (kind.Vlan, entry.Oid vlan) ∷ (kind.BridgePort, entry.Oid bridge_port) ∷ []
main_targets (body.Rif vr on) = base_reference on ∷ []
main_targets (body.Neighbor rif ip mac) = (kind.Rif, entry.Oid rif) ∷ []
main_targets (body.NextHop rif ip) = (kind.Rif, entry.Oid rif) ∷ (kind.Neighbor, entry.Neigh rif ip) ∷ []
main_targets (body.GroupMember group next_hop weight) = (kind.Group, entry.Oid group) ∷ (kind.NextHop, entry.Oid next_hop) ∷ []
main_targets (body.Route vr prefix to) = target_references to
main_targets _ = []

-- what an object refers to
abbrev pub references : {I : Type 0} → Body I → List (Reference I)
references b = beside_router (router_of b) (main_targets b)

-- what a new value of an attribute refers to
abbrev pub attr_references : {I : Type 0} → Attr I → List (Reference I)
attr_references (attr.To to) = target_references to
attr_references _ = []

-- whether what a reference's entry finds is meant by it: under an identifier an object of any kind can stand, under a key only one
abbrev pub is_meant : Reference Rid → Option (Body Rid) → Bool
is_meant (k, entry.Oid r) found = is_kind_of k found
is_meant (k, e) found = is_some found

-- whether what is referred to stands
abbrev pub stands : Objects → Reference Rid → Bool
stands objects r = is_meant r (body_at objects r.1)

-- whether what a router interface is to stand on stands
abbrev pub is_base : Objects → RifOn Rid → Bool
is_base objects on = stands objects (base_reference on)

-- whether a route's target stands
abbrev pub is_target : Objects → To Rid → Bool
is_target objects to = list_all (stands objects) (target_references to)

-- whether each reference of a body stands and is of the right kind
abbrev pub refers_well : Objects → Body Rid → Bool
refers_well objects b = list_all (stands objects) (references b)

-- whether the new target of an attribute stands
abbrev pub attr_refers_well : Objects → Attr Rid → Bool
attr_refers_well objects a = list_all (stands objects) (attr_references a)

-- whether a body refers to the object with this entry
abbrev pub refers_to : Body Rid → Entry Rid → Bool
refers_to b e = list_any (λ r. is_at (entry_cmp r.1) e) (references b)
