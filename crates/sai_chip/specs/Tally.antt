-- How often each mark stands: the counts, by what is marked. Own.
use Rattle.std.specs.Prelude.{ℕ, ◌<◌, ◌==◌, Bool, false, ◌&&◌, List, [], count_by}
use Rattle.std.specs.BTreeMap.{is_at}
use Rattle.std.specs.List.{AllByRecursion, list_any}
use Rattle.std.specs.Map.{lookup}
use Rattle.std.specs.Option.{unwrap_or}
use Rattle.std.specs.Ordering.{nat_cmp, ordering_then}
use Rattle.std.specs.declared.cmp.Ordering.{Ordering}
use Rattle.swss_types.specs.declared.address.Ip.{Ip}
use Rattle.swss_types.specs.contracts.address.IpOrd.TheImpl as ip_ord
use Rattle.swss_types.specs.declared.vrf.VrfName.{VrfName}
use Rattle.swss_types.specs.Vrf.{vrf_name_cmp}
use Rattle.sai_types.specs.declared.ids.Rid.{Rid}
use Rattle.sai_types.specs.declared.kind.Kind.{Kind}
use Rattle.sai_types.specs.declared.body.RifOn.{RifOn}
use Rattle.sai_types.specs.contracts.kind.KindOrd.TheImpl as kind_ord
use Rattle.sai_types.specs.contracts.ids.Rid as rid
use Rattle.sai_types.specs.contracts.ids.RidOrd.TheImpl as rid_ord
use Rattle.sai_types.specs.contracts.ids.RidEq.TheImpl as rid_eq
use Rattle.sai_types.specs.contracts.ids.RidPartialEq.TheImpl as rid_partial_eq
use Rattle.sai_types.specs.contracts.ids.RidPartialOrd.TheImpl as rid_partial_ord
use Rattle.sai_types.specs.contracts.body.RifOnOrd.TheImpl as rif_on_ord
use Rattle.sai_types.specs.Refusal.{same_id}
use Rattle.chip_names.specs.Naming.{rid_cmp}
use Rattle.sai_chip.specs.declared.mark.TakenMark.{TakenMark}
use Rattle.sai_chip.specs.declared.mark.TakenMark.TheVariants as mark

-- the orders of what is marked
abbrev pub kind_cmp : Kind → Kind → Ordering
kind_cmp = kind_ord.ghosts.cmp

abbrev pub rif_on_cmp : RifOn Rid → RifOn Rid → Ordering
rif_on_cmp = (rif_on_ord.ghosts rid.the_row rid_ord.ghosts rid_ord.dict rid_eq.ghosts rid_eq.dict rid_partial_eq.ghosts rid_partial_eq.dict rid_partial_ord.ghosts rid_partial_ord.dict).cmp

abbrev pub pair_cmp : Rid × Rid → Rid × Rid → Ordering
pair_cmp a b = ordering_then (rid_cmp a.0 b.0) (rid_cmp a.1 b.1)

-- a member of a group: the group, and a next hop with its weight
abbrev pub Member : Type 0
Member = Rid × Rid × ℕ

abbrev pub member_cmp : Member → Member → Ordering
member_cmp a b = ordering_then (pair_cmp (a.0, a.1) (b.0, b.1)) (nat_cmp a.2 b.2)

abbrev pub neighbor_cmp : Rid × Ip → Rid × Ip → Ordering
neighbor_cmp a b = ordering_then (rid_cmp a.0 b.0) (ip_ord.ghosts.cmp a.1 b.1)

-- the counts of the marks of each kind, in order
pub record Tally : Type 0 where
  pub kinds : List (Kind × ℕ)
  pub references : List (Rid × ℕ)
  pub lanes : List (ℕ × ℕ)
  pub vlans : List (ℕ × ℕ)
  pub routers : List (VrfName × ℕ)
  pub bridge_ports : List (Rid × ℕ)
  pub vlan_members : List ((Rid × Rid) × ℕ)
  pub rifs : List (RifOn Rid × ℕ)
  pub next_hops : List ((Rid × Ip) × ℕ)
  pub group_members : List (Member × ℕ)

-- no mark is counted
abbrev pub empty_tally : Tally
empty_tally = record { kinds = []; references = []; lanes = []; vlans = []; routers = []; bridge_ports = []; vlan_members = []; rifs = []; next_hops = []; group_members = [] }

abbrev pub count_in : {K : Type 0} → (K → K → Ordering) → List (K × ℕ) → K → ℕ
count_in cmp counts k = unwrap_or (lookup (is_at (cmp k)) counts) 0

-- how often a mark is counted
abbrev pub count_at : Tally → TakenMark → ℕ
count_at t (mark.Of k) = count_in kind_cmp t.kinds k
count_at t (mark.RefersTo r) = count_in rid_cmp t.references r
count_at t (mark.Lane lane) = count_in nat_cmp t.lanes lane
count_at t (mark.Vlan vlan) = count_in nat_cmp t.vlans vlan
count_at t (mark.VirtualRouter label) = count_in vrf_name_cmp t.routers label
count_at t (mark.BridgePort port) = count_in rid_cmp t.bridge_ports port
count_at t (mark.VlanMember vlan port) = count_in pair_cmp t.vlan_members (vlan, port)
count_at t (mark.Rif on) = count_in rif_on_cmp t.rifs on
count_at t (mark.NextHop rif ip) = count_in neighbor_cmp t.next_hops (rif, ip)
count_at t (mark.GroupMember group next_hop weight) = count_in member_cmp t.group_members (group, next_hop, weight)

-- neither weights nor counts of members are 0
abbrev pub AreMembers : List (Member × ℕ) → Type 0
AreMembers counts = AllByRecursion (λ e. (0 < e.0.2) × (0 < e.1)) counts

-- whether a next hop is counted as a member of a group, with whatever weight
abbrev pub has_member : List (Member × ℕ) → Rid → Rid → Bool
has_member counts group next_hop = list_any (λ e. same_id e.0.0 group && same_id e.0.1 next_hop) counts

-- whether two next hops with their weights are the same
abbrev pub same_member : Rid × ℕ → Rid × ℕ → Bool
same_member a b = same_id a.0 b.0 && a.1 == b.1

-- whether two marks are the same
abbrev pub is_mark : TakenMark → TakenMark → Bool
is_mark (mark.Of k) (mark.Of k') = is_at (kind_cmp k) k'
is_mark (mark.RefersTo r) (mark.RefersTo r') = is_at (rid_cmp r) r'
is_mark (mark.Lane lane) (mark.Lane lane') = is_at (nat_cmp lane) lane'
is_mark (mark.Vlan vlan) (mark.Vlan vlan') = is_at (nat_cmp vlan) vlan'
is_mark (mark.VirtualRouter label) (mark.VirtualRouter label') = is_at (vrf_name_cmp label) label'
is_mark (mark.BridgePort port) (mark.BridgePort port') = is_at (rid_cmp port) port'
is_mark (mark.VlanMember vlan port) (mark.VlanMember vlan' port') = is_at (pair_cmp (vlan, port)) (vlan', port')
is_mark (mark.Rif on) (mark.Rif on') = is_at (rif_on_cmp on) on'
is_mark (mark.NextHop rif ip) (mark.NextHop rif' ip') = is_at (neighbor_cmp (rif, ip)) (rif', ip')
is_mark (mark.GroupMember group next_hop weight) (mark.GroupMember group' next_hop' weight') = is_at (member_cmp (group, next_hop, weight)) (group', next_hop', weight')
is_mark _ _ = false

-- how often a mark is among marks
abbrev pub claims : TakenMark → List TakenMark → ℕ
claims m marks = count_by (λ k. is_mark k m) marks
