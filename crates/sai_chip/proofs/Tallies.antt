-- the counts of all marks where those of one kind of mark change
use Rattle.std.proofs.Common.{◌≡◌, ℕ, ◌+◌, ◌-◌, Bool, false, cond, List, sym, arith}
use Rattle.std.specs.Ordering.{nat_cmp}
use Rattle.std.specs.BTreeMap.{is_at}
use Rattle.swss_types.specs.declared.address.Ip.{Ip}
use Rattle.swss_types.specs.declared.vrf.VrfName.{VrfName}
use Rattle.swss_types.specs.Vrf.{vrf_name_cmp}
use Rattle.sai_types.specs.declared.ids.Rid.{Rid}
use Rattle.sai_types.specs.declared.kind.Kind.{Kind}
use Rattle.sai_types.specs.declared.body.RifOn.{RifOn}
use Rattle.chip_names.specs.Naming.{rid_cmp}
use Rattle.sai_chip.specs.declared.mark.TakenMark.{TakenMark}
use Rattle.sai_chip.specs.declared.mark.TakenMark.TheVariants as mark
use Rattle.sai_chip.specs.Tally.{Member, Tally, count_in, count_at, is_mark, kind_cmp, member_cmp, rif_on_cmp, pair_cmp, neighbor_cmp}

-- one more, or one less, where a test passes
abbrev pub more : ℕ → Bool → ℕ
more n b = n + cond b 1 0

abbrev pub less : ℕ → Bool → ℕ
less n b = n - cond b 1 0

pub more_none : (n : ℕ) → more n false ≡ n
more_none n = omega arith

pub less_none : (n : ℕ) → less n false ≡ n
less_none n = omega arith

module _ (f : ℕ → Bool → ℕ) (none : (n : ℕ) → f n false ≡ n) (t : Tally) where
  pub with_kinds : (k : Kind) (new : List (Kind × ℕ)) → ((x : Kind) → count_in kind_cmp new x ≡ f (count_in kind_cmp t.kinds x) (is_at (kind_cmp k) x)) → (m : TakenMark) → count_at (record t { kinds = new }) m ≡ f (count_at t m) (is_mark (mark.Of k) m)
  with_kinds k new h (mark.Of x) = h x
  with_kinds k new h m = sym (none (count_at t m))

  pub with_references : (r : Rid) (new : List (Rid × ℕ)) → ((x : Rid) → count_in rid_cmp new x ≡ f (count_in rid_cmp t.references x) (is_at (rid_cmp r) x)) → (m : TakenMark) → count_at (record t { references = new }) m ≡ f (count_at t m) (is_mark (mark.RefersTo r) m)
  with_references r new h (mark.RefersTo x) = h x
  with_references r new h m = sym (none (count_at t m))

  pub with_lanes : (l : ℕ) (new : List (ℕ × ℕ)) → ((x : ℕ) → count_in nat_cmp new x ≡ f (count_in nat_cmp t.lanes x) (is_at (nat_cmp l) x)) → (m : TakenMark) → count_at (record t { lanes = new }) m ≡ f (count_at t m) (is_mark (mark.Lane l) m)
  with_lanes l new h (mark.Lane x) = h x
  with_lanes l new h m = sym (none (count_at t m))

  pub with_vlans : (v : ℕ) (new : List (ℕ × ℕ)) → ((x : ℕ) → count_in nat_cmp new x ≡ f (count_in nat_cmp t.vlans x) (is_at (nat_cmp v) x)) → (m : TakenMark) → count_at (record t { vlans = new }) m ≡ f (count_at t m) (is_mark (mark.Vlan v) m)
  with_vlans v new h (mark.Vlan x) = h x
  with_vlans v new h m = sym (none (count_at t m))

  pub with_routers : (label : VrfName) (new : List (VrfName × ℕ)) → ((x : VrfName) → count_in vrf_name_cmp new x ≡ f (count_in vrf_name_cmp t.routers x) (is_at (vrf_name_cmp label) x)) → (m : TakenMark) → count_at (record t { routers = new }) m ≡ f (count_at t m) (is_mark (mark.VirtualRouter label) m)
  with_routers label new h (mark.VirtualRouter x) = h x
  with_routers label new h m = sym (none (count_at t m))

  pub with_bridge_ports : (p : Rid) (new : List (Rid × ℕ)) → ((x : Rid) → count_in rid_cmp new x ≡ f (count_in rid_cmp t.bridge_ports x) (is_at (rid_cmp p) x)) → (m : TakenMark) → count_at (record t { bridge_ports = new }) m ≡ f (count_at t m) (is_mark (mark.BridgePort p) m)
  with_bridge_ports p new h (mark.BridgePort x) = h x
  with_bridge_ports p new h m = sym (none (count_at t m))

  pub with_vlan_members : (v p : Rid) (new : List ((Rid × Rid) × ℕ)) → ((x : Rid × Rid) → count_in pair_cmp new x ≡ f (count_in pair_cmp t.vlan_members x) (is_at (pair_cmp (v, p)) x)) → (m : TakenMark) → count_at (record t { vlan_members = new }) m ≡ f (count_at t m) (is_mark (mark.VlanMember v p) m)
  with_vlan_members v p new h (mark.VlanMember x y) = h (x, y)
  with_vlan_members v p new h m = sym (none (count_at t m))

  pub with_rifs : (on : RifOn Rid) (new : List (RifOn Rid × ℕ)) → ((x : RifOn Rid) → count_in rif_on_cmp new x ≡ f (count_in rif_on_cmp t.rifs x) (is_at (rif_on_cmp on) x)) → (m : TakenMark) → count_at (record t { rifs = new }) m ≡ f (count_at t m) (is_mark (mark.Rif on) m)
  with_rifs on new h (mark.Rif x) = h x
  with_rifs on new h m = sym (none (count_at t m))

  pub with_next_hops : (r : Rid) (ip : Ip) (new : List ((Rid × Ip) × ℕ)) → ((x : Rid × Ip) → count_in neighbor_cmp new x ≡ f (count_in neighbor_cmp t.next_hops x) (is_at (neighbor_cmp (r, ip)) x)) → (m : TakenMark) → count_at (record t { next_hops = new }) m ≡ f (count_at t m) (is_mark (mark.NextHop r ip) m)
  with_next_hops r ip new h (mark.NextHop x y) = h (x, y)
  with_next_hops r ip new h m = sym (none (count_at t m))

  pub with_group_members : (g n : Rid) (w : ℕ) (new : List (Member × ℕ)) → ((x : Member) → count_in member_cmp new x ≡ f (count_in member_cmp t.group_members x) (is_at (member_cmp (g, n, w)) x)) → (m : TakenMark) → count_at (record t { group_members = new }) m ≡ f (count_at t m) (is_mark (mark.GroupMember g n w) m)
  with_group_members g n w new h (mark.GroupMember x y z) = h (x, y, z)
  with_group_members g n w new h m = sym (none (count_at t m))
