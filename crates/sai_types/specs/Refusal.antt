-- What a chip refuses (OCP SAI headers for the references and attributes; own for the order of the answers and the capacities).
use Rattle.std.specs.Prelude.{◌≡◌, ℕ, Bool, true, false, not, ◌==◌, ◌&&◌, nat_le, List, Option, Some, None, slice_index}
use Rattle.std.specs.List.{list_any}
use Rattle.std.specs.Option.{is_some}
use Rattle.swss_types.specs.declared.address.Ip.{Ip}
use Rattle.swss_types.specs.Vrf.{same_vrf_name}
use Rattle.swss_types.specs.declared.address.Prefix.{Prefix}
use Rattle.swss_types.specs.contracts.address.IpPartialEq.TheImpl as ip_eq
use Rattle.swss_types.specs.contracts.address.PrefixPartialEq.TheImpl as prefix_eq
use Rattle.sai_types.specs.declared.answer.ChipAnswer.{ChipAnswer}
use Rattle.sai_types.specs.declared.answer.ChipAnswer.TheVariants.{BadReference, Exists, Full, NotFound, InUse}
use Rattle.sai_types.specs.declared.ids.Rid.{Rid}
use Rattle.sai_types.specs.declared.kind.Kind.{Kind}
use Rattle.sai_types.specs.declared.body.Body.{Body}
use Rattle.sai_types.specs.declared.body.Body.TheVariants as body
use Rattle.sai_types.specs.declared.body.Entry.{Entry}
use Rattle.sai_types.specs.declared.body.Attr.{Attr}
use Rattle.sai_types.specs.declared.body.Attr.TheVariants as attr
use Rattle.sai_types.specs.declared.body.Call.{Call}
use Rattle.sai_types.specs.declared.body.Call.TheVariants as call
use Rattle.sai_types.specs.declared.body.RifOn.{RifOn}
use Rattle.sai_types.specs.declared.body.RifOn.TheVariants as on
use Rattle.sai_types.specs.Objects.{Objects, body_at, used, kind_of, level}
pub use Rattle.sai_types.specs.References.{attr_refers_well, is_base, is_target, refers_to, refers_well}

abbrev pub same_ip : Ip → Ip → Bool
same_ip = ip_eq.ghosts.eq

abbrev pub same_prefix : Prefix → Prefix → Bool
same_prefix = prefix_eq.ghosts.eq

abbrev pub same_id : Rid → Rid → Bool
same_id a b = a.0 == b.0

abbrev pub same_base : RifOn Rid → RifOn Rid → Bool
same_base (on.Port a) (on.Port b) = same_id a b
same_base (on.Vlan a) (on.Vlan b) = same_id a b
same_base (on.Port a) (on.Vlan b) = false
same_base (on.Vlan a) (on.Port b) = false

-- whether two objects are in one virtual router
abbrev pub same_router : Option Rid → Option Rid → Bool
same_router None None = true
same_router None (Some b) = false
same_router (Some a) None = false
same_router (Some a) (Some b) = same_id a b

-- whether two lists of lanes have a lane in common
abbrev pub share_lane : List ℕ → List ℕ → Bool
share_lane lanes others = list_any (λ lane. list_any (λ other. lane == other) others) lanes

-- whether two bodies can't stand together: the same natural key, or a lane in two ports. Groups have no natural key here
abbrev pub clash : Body Rid → Body Rid → Bool
clash (body.Port lanes speed mtu up) (body.Port others speed' mtu' up') = share_lane lanes others
clash (body.Vlan vlan) (body.Vlan other) = vlan == other
clash (body.VirtualRouter label) (body.VirtualRouter other) = same_vrf_name label other
clash (body.BridgePort port) (body.BridgePort other) = same_id port other
clash (body.VlanMember vlan bridge_port tagging) (body.VlanMember vlan' bridge_port' tagging') = same_id vlan vlan' && same_id bridge_port bridge_port'
clash (body.Rif vr on) (body.Rif vr' other) = same_base on other
clash (body.OwnAddress vr ip) (body.OwnAddress vr' other) = same_router vr vr' && same_ip ip other
clash (body.Neighbor rif ip mac) (body.Neighbor rif' ip' mac') = same_id rif rif' && same_ip ip ip'
clash (body.NextHop rif ip) (body.NextHop rif' ip') = same_id rif rif' && same_ip ip ip'
clash (body.GroupMember group next_hop weight) (body.GroupMember group' next_hop' weight') = same_id group group' && same_id next_hop next_hop'
clash (body.Route vr prefix to) (body.Route vr' prefix' to') = same_router vr vr' && same_prefix prefix prefix'
clash _ _ = false

-- how many objects of a kind there is room for
abbrev pub capacity_of : List ℕ → Kind → ℕ
capacity_of capacities k = slice_index capacities (level k)

-- an attribute that a kind lets be set
abbrev pub has_attr : Body Rid → Attr Rid → Bool
has_attr (body.Port lanes speed mtu up) (attr.Speed s) = true
has_attr (body.Port lanes speed mtu up) (attr.Mtu m) = true
has_attr (body.Port lanes speed mtu up) (attr.Up u) = true
has_attr (body.VlanMember vlan bridge_port tagging) (attr.Tagging t) = true
has_attr (body.Neighbor rif ip mac) (attr.Mac m) = true
has_attr (body.Route vr prefix to) (attr.To t) = true
has_attr _ _ = false

-- the first of several refusals
abbrev pub first_refusal : Bool → ChipAnswer → Option ChipAnswer → Option ChipAnswer
first_refusal true refusal others = Some refusal
first_refusal false refusal others = others

abbrev pub create_refusal : List ℕ → Objects → Body Rid → Option ChipAnswer
create_refusal capacities objects b =
    first_refusal (not (refers_well objects b)) BadReference
    (first_refusal (list_any (λ o. clash b o.1) objects) Exists
    (first_refusal (nat_le (capacity_of capacities (kind_of b)) (used objects (kind_of b))) Full None))

abbrev pub set_refusal : Objects → Option (Body Rid) → Attr Rid → Option ChipAnswer
set_refusal objects None a = Some NotFound
set_refusal objects (Some b) a = first_refusal (not (has_attr b a)) NotFound (first_refusal (not (attr_refers_well objects a)) BadReference None)

abbrev pub remove_refusal : Objects → Entry Rid → Option (Body Rid) → Option ChipAnswer
remove_refusal objects e None = Some NotFound
remove_refusal objects e (Some b) = first_refusal (list_any (λ o. refers_to o.1 e) objects) InUse None

-- the first refusal of the chip's table that holds, and none where the call is legal
abbrev pub refusal_of : List ℕ → Objects → Call Rid → Option ChipAnswer
refusal_of capacities objects (call.Create b) = create_refusal capacities objects b
refusal_of capacities objects (call.Set e a) = set_refusal objects (body_at objects e) a
refusal_of capacities objects (call.Remove e) = remove_refusal objects e (body_at objects e)

-- a call is legal where the chip's table refuses it for no reason: its references stand, its key and lanes are free, there is room, its entry stands, and nothing refers to what it removes
abbrev pub IsLegal : List ℕ → Objects → Call Rid → Type 0
IsLegal capacities objects c = refusal_of capacities objects c ≡ None

abbrev pub is_legal : List ℕ → Objects → Call Rid → Bool
is_legal capacities objects c = not (is_some (refusal_of capacities objects c))
