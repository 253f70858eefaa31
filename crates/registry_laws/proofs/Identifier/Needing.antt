-- which identifiers a change needs: those of rows that are named, of what is shared, and of its own name
use Rattle.std.proofs.Common.{◌≡◌, ◌∷◌, ◌++◌, ◌∙◌, inl, inr, ℕ, true, List, [], map, Option, None, Some, refl, sym, ap, subst}
use Rattle.std.specs.Prelude.{IsSome}
use Rattle.swss_types.specs.declared.address.Prefix as key_prefix
use Rattle.swss_types.specs.declared.interface.IfName.{IfName}
use Rattle.swss_types.specs.declared.interface.IfName.TheVariants as on
use Rattle.swss_types.specs.declared.vrf.Vrf.{Vrf}
use Rattle.swss_types.specs.declared.vrf.Vrf.TheVariants as vrf
use Rattle.swss_types.proofs.Proper.{mapped}
use Rattle.table_schema.specs.Names.{intf_names, route_names, router_names}
use Rattle.table_schema.specs.Plan.{Ports}
use Rattle.table_schema.specs.declared.key.Key.{Key}
use Rattle.table_schema.specs.declared.key.Key.TheVariants as key
use Rattle.table_schema.specs.declared.row.RouteRow.{RouteRow}
use Rattle.table_schema.specs.declared.row.RouteRow.TheVariants as route
use Rattle.table_schema.specs.declared.row_hop.RowHop.{RowHop}
use Rattle.sai_types.specs.declared.hop.Base.{Base}
use Rattle.sai_types.specs.declared.hop.Base.TheVariants as base
use Rattle.sai_types.specs.declared.hop.Hop.{Hop}
use Rattle.sai_types.specs.declared.weight.WHop.{WHop}
use Rattle.sai_types.specs.declared.thing.Goal.{Goal}
use Rattle.sai_types.specs.declared.thing.Goal.TheVariants as goal
use Rattle.sai_types.specs.declared.thing.Thing.{Thing}
use Rattle.sai_types.specs.declared.thing.Thing.TheVariants as thing
use Rattle.sai_types.specs.Alike.{IsIn}
use Rattle.sai_types.specs.Hop.{put_hop}
use Rattle.sai_types.specs.Names as thing_name
use Rattle.sai_types.specs.Names.{ThingName, name_kind, name_of}
use Rattle.sai_types.proofs.Things.{both_mapped}
use Rattle.sai_types.proofs.Membership.{all-in, in-right, in-left}
use Rattle.switch_model.specs.Things.{base_of, hop_of, hops_of, lane_of, whop_of}
use Rattle.chip_layout.specs.Bodies.{is_numbered}
use Rattle.switch_model.specs.Placed as row
use Rattle.switch_model.specs.Placed.{Placed as Row, placed_names as names_of}
use Rattle.row_layout.specs.Rows as owner
use Rattle.row_layout.specs.Rows.{Owner, goal_to, goal_of, own_things}
use Rattle.row_layout.specs.Shared.{shared_things, uses}
use Rattle.row_layout.proofs.Members.{from_in, in_map, only, two}
use Rattle.switch_machine.specs.Flights.{Fits, own_names}
use Rattle.switch_machine.proofs.Tabled.{group_use, member_of, in_from, address_use}
use Rattle.ref_counts.specs.declared.name.Name as registry_name
use Rattle.ref_counts.specs.declared.name.Name.TheVariants as name
use Rattle.ref_counts.specs.Registered.{first_of}
use Rattle.ref_counts.specs.Registry.{Names, ids_of}
use Rattle.orch_flight.specs.Calling.{HaveIds, entered, pointed, referred}
use Rattle.orch_flight.specs.Needing.{name_for}
use Rattle.registry_laws.proofs.Listing.{map_in, not_some}
use Rattle.registry_laws.proofs.Launched.{use_is}
use Rattle.registry_laws.proofs.Identifier.Owning.{IsFirst}

-- each hop of a route's row is on an interface of the plan
same_hop_base : (plan : Ports) (x h : RowHop × ℕ) (b : WHop) → whop_of plan x ≡ Some b → h ≡ x → (c : Base) × (base_of plan h.0.on ≡ Some c)
same_hop_base plan x h b at same =
    let hop = mapped (λ k. record { hop = k; weight = x.1 }) (hop_of plan x.0) b at in
    let m = mapped (λ c. record { on = c; ip = x.0.ip }) (base_of plan x.0.on) hop.0 hop.1 in
    (m.0, ap (λ (z : RowHop × ℕ). base_of plan z.0.on) same ∙ m.1)

hops_based : (plan : Ports) (hops : List (RowHop × ℕ)) (group : List WHop) (h : RowHop × ℕ) → hops_of plan hops ≡ Some group → IsIn h hops → (c : Base) × (base_of plan h.0.on ≡ Some c)
hops_based plan [] group h e i = elim i [ ]
hops_based plan (x ∷ xs) group h e (inl same) =
    let parts = both_mapped put_hop (hops_of plan xs) (whop_of plan x) group e in
    same_hop_base plan x h parts.1 parts.3 same
hops_based plan (x ∷ xs) group h e (inr more) =
    let parts = both_mapped put_hop (hops_of plan xs) (whop_of plan x) group e in
    hops_based plan xs parts.0 h parts.2 more

some_hops : (o : Option (List WHop)) (g : Goal) → goal_to o ≡ Some g → (group : List WHop) × (o ≡ Some group)
some_hops None g h = not_some g h
some_hops (Some hops) g h = (hops, refl)

-- the registry has an identifier of a name
abbrev pub IsKnown : Names → registry_name.Name → Type 0
IsKnown names n = IsSome (first_of (ids_of names n))

pub both_known : (names : Names) (ns ms : List registry_name.Name) → HaveIds names ns → HaveIds names ms → HaveIds names (ns ++ ms)
both_known names [] ms x y = y
both_known names (n ∷ ns) ms x y = (x.0, both_known names ns ms x.1 y)

-- of rows that this row names, and of what it shares
module _ (plan : Ports) (names : Names) (k : Key) (r : Row) where
  abbrev pub RowsKnown : Type 0
  RowsKnown = (p : Key) (n : ThingName) → IsIn p (names_of k r) → IsIn n (own_names plan p) → is_numbered (name_kind n) ≡ true → IsFirst n → IsKnown names (name.Row p)

  abbrev pub SharedKnown : Type 0
  SharedKnown = (o : Owner) (x : Thing) → IsIn o (uses plan k r) → IsIn x (shared_things o) → is_numbered (name_kind (name_of x)) ≡ true → IsFirst (name_of x) → IsKnown names (name_for o)

module _ (plan : Ports) (names : Names) where
  -- the router that a row is in
  router_known : (k : Key) (r : Row) (v : Vrf) → ((p : Key) → IsIn p (router_names v) → IsIn p (names_of k r)) → RowsKnown plan names k r → HaveIds names (map name.Row (router_names v))
  router_known k r vrf.Default into rows = tt
  router_known k r (vrf.Named label) into rows = (rows (key.Vrf label) (thing_name.VirtualRouter label) (into (key.Vrf label) (inl refl)) (inl refl) refl tt, tt)

  interface_known : (i : IfName) (v : Vrf) (b : Base) → base_of plan i ≡ Some b → RowsKnown plan names (key.Intf i) (row.Intf v) → HaveIds names (map name.Row (intf_names i v))
  interface_known (on.Ethernet p) v b at rows =
      let m = mapped base.Port (lane_of plan p) b at in
      (rows (key.Port p) (thing_name.Port m.0) (inl refl) (in_from (lane_of plan p) (λ l. thing_name.Port l ∷ []) m.0 (thing_name.Port m.0) m.1 (inl refl)) refl tt, router_known (key.Intf (on.Ethernet p)) (row.Intf v) v (λ q h. inr h) rows)
  interface_known (on.Vlan n) v b at rows = (rows (key.Vlan n) (thing_name.Vlan n) (inl refl) (inl refl) refl tt, router_known (key.Intf (on.Vlan n)) (row.Intf v) v (λ q h. inr h) rows)
  interface_known (on.Loopback l) v b at rows = router_known (key.Intf (on.Loopback l)) (row.Intf v) v (λ q h. h) rows

  rif_known : (k : Key) (r : Row) (i : IfName) (b : Base) → base_of plan i ≡ Some b → IsIn (key.Intf i) (names_of k r) → RowsKnown plan names k r → HaveIds names (name.Row (key.Intf i) ∷ [])
  rif_known k r i b at h rows = (rows (key.Intf i) (thing_name.Rif b) h (in_from (base_of plan i) (λ c. thing_name.Rif c ∷ []) b (thing_name.Rif b) at (inl refl)) refl tt, tt)

  -- a row that a route's row names, be it in whatever router
  named_by : (v : Vrf) (prefix : key_prefix.Prefix) (r : RouteRow) (k : Key) → IsIn k (route_names r) → IsIn k (names_of (key.Route v prefix) (row.Route r))
  named_by v prefix r k h = in-right k (router_names v) (route_names r) h

  hops_known : (v : Vrf) (prefix : key_prefix.Prefix) (hops : List (RowHop × ℕ)) (g : Goal) → goal_to (hops_of plan hops) ≡ Some g → RowsKnown plan names (key.Route v prefix) (row.Route (route.Hops hops)) → HaveIds names (map (λ h. name.Row (key.Neigh h.0.on h.0.ip)) hops)
  hops_known v prefix hops g at rows = all-in (IsKnown names) (map (λ (h : RowHop × ℕ). name.Row (key.Neigh h.0.on h.0.ip)) hops) (λ n i. by n (map_in (λ (h : RowHop × ℕ). name.Row (key.Neigh h.0.on h.0.ip)) n hops i))
    where
      group : (group : List WHop) × (hops_of plan hops ≡ Some group)
      group = some_hops (hops_of plan hops) g at

      by : (n : registry_name.Name) → (h : RowHop × ℕ) × IsIn h hops × (n ≡ name.Row (key.Neigh h.0.on h.0.ip)) → IsKnown names n
      by n (h, i, same) =
          let b = hops_based plan hops group.0 h group.1 i in
          let ip = h.0.ip in
          let hop : Hop = record { on = b.0; ip = ip } in
          subst (IsKnown names) (sym same) (rows (key.Neigh h.0.on ip) (thing_name.NextHop hop) (named_by v prefix (route.Hops hops) (key.Neigh h.0.on ip) (in_map (λ (z : RowHop × ℕ). key.Neigh z.0.on z.0.ip) h hops i)) (in_from (base_of plan h.0.on) (λ c. thing_name.Neighbor (record { on = c; ip = ip }) ∷ thing_name.NextHop (record { on = c; ip = ip }) ∷ []) b.0 (thing_name.NextHop hop) b.1 (inr (inl refl))) refl tt)

  -- what a route's row points at
  pub pointed_known : (v : Vrf) (prefix : key_prefix.Prefix) (r : RouteRow) (g : Goal) → goal_of plan r ≡ Some g → RowsKnown plan names (key.Route v prefix) (row.Route r) → SharedKnown plan names (key.Route v prefix) (row.Route r) → HaveIds names (pointed (Some (row.Route r)) g)
  pointed_known v prefix route.Drop g at rows shared = tt
  pointed_known v prefix (route.Direct i) g at rows shared =
      let m = mapped goal.Direct (base_of plan i) g at in
      rif_known (key.Route v prefix) (row.Route (route.Direct i)) i m.0 m.1 (named_by v prefix (route.Direct i) (key.Intf i) (inl refl)) rows
  pointed_known v prefix (route.Hops hops) (goal.Group group) at rows shared = (shared (owner.Group group) (thing.Group group) (use_is (hops_of plan hops) group at) (inl refl) refl tt, tt)
  pointed_known v prefix (route.Hops hops) g at rows shared = hops_known v prefix hops g at rows

  -- what a thing of the row refers to
  pub referred_known : (k : Key) (r : Row) (t : Thing) → Fits plan k r → IsIn t (own_things plan k r) → RowsKnown plan names k r → SharedKnown plan names k r → HaveIds names (referred k (Some r) t)
  referred_known (key.Port p) (row.Port r) t fit h rows shared = tt
  referred_known (key.Vlan v) row.Vlan t fit h rows shared = tt
  referred_known (key.Vrf label) row.Vrf t fit h rows shared = tt
  referred_known (key.Member v p) (row.Member tagging) t fit h rows shared =
      let m = from_in (lane_of plan p) _ t h in
      only (λ z. HaveIds names (referred (key.Member v p) (Some (row.Member tagging)) z)) t (thing.VlanMember v m.0 tagging) (
        rows (key.Vlan v) (thing_name.Vlan v) (inl refl) (inl refl) refl tt,
        (shared (owner.Bridge m.0) (thing.BridgePort m.0) (in_from (lane_of plan p) (λ l. owner.Bridge l ∷ []) m.0 (owner.Bridge m.0) m.1 (inl refl)) (inl refl) refl tt, tt),
      ) m.2
  referred_known (key.Intf i) (row.Intf v) t fit h rows shared =
      let m = from_in (base_of plan i) _ t h in
      only (λ z. HaveIds names (referred (key.Intf i) (Some (row.Intf v)) z)) t (thing.Rif m.0 v) (interface_known i v m.0 m.1 rows) m.2
  referred_known (key.Neigh i ip) (row.Neigh mac) t fit h rows shared =
      let m = from_in (base_of plan i) _ t h in
      let on = rif_known (key.Neigh i ip) (row.Neigh mac) i m.0 m.1 (inl refl) rows in
      two (λ z. HaveIds names (referred (key.Neigh i ip) (Some (row.Neigh mac)) z)) t (thing.Neighbor (record { on = m.0; ip = ip }) mac) (thing.NextHop (record { on = m.0; ip = ip })) on on m.2
  referred_known (key.Route v prefix) (row.Route r) t fit h rows shared =
      let m = from_in (goal_of plan r) _ t h in
      let pointed_at = pointed_known v prefix r m.0 m.1 rows shared in
      only (λ z. HaveIds names (referred (key.Route v prefix) (Some (row.Route r)) z)) t (thing.Route v prefix m.0) (both_known names (map name.Row (router_names v)) (pointed (Some (row.Route r)) m.0) (router_known (key.Route v prefix) (row.Route r) v (λ q h. in-left q (router_names v) (route_names r) h) rows) pointed_at) m.2
  referred_known k r t fit h rows shared = elim h [ ]

  -- and a thing that it shares
  pub shared_referred : (k : Key) (r : Row) (o : Owner) (t : Thing) → IsIn o (uses plan k r) → IsIn t (shared_things o) → Fits plan k r → RowsKnown plan names k r → HaveIds names (referred k (Some r) t)
  shared_referred (key.Member v p) (row.Member tagging) o t h in_it fit rows =
      let m = from_in (lane_of plan p) _ o h in
      only (λ o. IsIn t (shared_things o) → HaveIds names (referred (key.Member v p) (Some (row.Member tagging)) t)) o (owner.Bridge m.0) (λ y. only (λ z. HaveIds names (referred (key.Member v p) (Some (row.Member tagging)) z)) t (thing.BridgePort m.0) (
        rows (key.Port p) (thing_name.Port m.0) (inr (inl refl)) (in_from (lane_of plan p) (λ l. thing_name.Port l ∷ []) m.0 (thing_name.Port m.0) m.1 (inl refl)) refl tt,
        tt,
      ) y) m.2 in_it
  shared_referred (key.Addr i ip len) (row.Addr v) o t h in_it fit rows =
      only (λ z. HaveIds names (referred (key.Addr i ip len) (Some (row.Addr v)) z)) t (thing.Own v ip) (router_known (key.Addr i ip len) (row.Addr v) v (λ q h. inr h) rows) (subst (λ z. IsIn t (shared_things z)) (address_use plan i v ip o h) in_it)
  shared_referred (key.Route v prefix) (row.Route (route.Hops hops)) o t h in_it fit rows =
      let x = group_use o (hops_of plan hops) h in
      of_group x.0 (subst (λ o. IsIn t (shared_things o)) x.2 in_it)
    where
      of_group : (group : List WHop) → IsIn t (shared_things (owner.Group group)) → HaveIds names (referred (key.Route v prefix) (Some (row.Route (route.Hops hops))) t)
      of_group group (inl e) = subst (λ z. HaveIds names (referred (key.Route v prefix) (Some (row.Route (route.Hops hops))) z)) (sym e) tt
      of_group group (inr y) = let m = member_of group group t y in subst (λ z. HaveIds names (referred (key.Route v prefix) (Some (row.Route (route.Hops hops))) z)) (sym m.2) tt
  shared_referred (key.Route v prefix) (row.Route route.Drop) o t h in_it fit rows = elim h [ ]
  shared_referred (key.Route v prefix) (row.Route (route.Direct i)) o t h in_it fit rows = elim h [ ]
  shared_referred k r o t h in_it fit rows = elim h [ ]

-- ---- by what a thing is named itself

-- but for a neighbour, which is named by its interface
abbrev pub entered_by : Key → ThingName → List registry_name.Name
entered_by k (thing_name.BridgePort lane) = name.BridgePort lane ∷ []
entered_by k (thing_name.Own v ip) = map name.Row (router_names v)
entered_by k (thing_name.Route v prefix) = map name.Row (router_names v)
entered_by k n = name.Row k ∷ []

pub entered_other : (k : Key) (n : ThingName) → ((hop : Hop) → n ≡ thing_name.Neighbor hop → ⊥) → entered k n ≡ entered_by k n
entered_other (key.Neigh i ip) (thing_name.Neighbor hop) other = absurd (other hop refl)
entered_other (key.Neigh i ip) _ other = refl
entered_other k n other = refl
