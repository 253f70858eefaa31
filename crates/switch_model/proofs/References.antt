-- whatever a thing of closed rows that read refers to is a thing of them
use Rattle.std.proofs.Common.{◌≡◌, inl, inr, ℕ, true, List, [], ◌∷◌, ◌++◌, map, Option, None, Some, refl, sym, ap, ◌∙◌, subst}
use Rattle.std.proofs.lemmas.Bool.{and_from, and_parts}
use Rattle.std.specs.Option.{is_some}
use Rattle.std.specs.Prelude.{option_map}
use Rattle.swss_types.specs.declared.address.Ip.{Ip}
use Rattle.swss_types.specs.declared.address.Mac.{Mac}
use Rattle.swss_types.specs.declared.address.Prefix.{Prefix}
use Rattle.swss_types.specs.declared.interface.IfName.{IfName}
use Rattle.swss_types.specs.declared.interface.IfName.TheVariants as name
use Rattle.swss_types.specs.declared.tagging.Tagging.{Tagging}
use Rattle.swss_types.specs.declared.vrf.Vrf.{Vrf}
use Rattle.swss_types.specs.declared.vrf.Vrf.TheVariants as vrf
use Rattle.swss_types.specs.declared.vrf.VrfName.{VrfName}
use Rattle.swss_types.proofs.Proper.{mapped}
use Rattle.table_schema.specs.Names.{names_of, base_names, route_names, router_names}
use Rattle.table_schema.specs.Plan.{Ports}
use Rattle.table_schema.specs.Rows.{Rows}
use Rattle.table_schema.specs.declared.key.Key.{Key}
use Rattle.table_schema.specs.declared.key.Key.TheVariants as key
use Rattle.table_schema.specs.declared.row.Row.{Row}
use Rattle.table_schema.specs.declared.row.Row.TheVariants as row
use Rattle.table_schema.specs.declared.row.RouteRow.{RouteRow}
use Rattle.table_schema.specs.declared.row.RouteRow.TheVariants as route
use Rattle.table_schema.specs.declared.row_hop.RowHop.{RowHop}
use Rattle.sai_types.specs.declared.hop.Base.{Base}
use Rattle.sai_types.specs.declared.hop.Base.TheVariants as base
use Rattle.sai_types.specs.declared.hop.Hop.{Hop}
use Rattle.sai_types.specs.declared.weight.WHop.{WHop}
use Rattle.sai_types.specs.declared.thing.Goal.TheVariants as goal
use Rattle.sai_types.specs.declared.thing.Thing.{Thing}
use Rattle.sai_types.specs.declared.thing.Thing.TheVariants as thing
use Rattle.sai_types.specs.Alike.{IsIn}
use Rattle.sai_types.specs.Hop.{put_hop}
use Rattle.sai_types.specs.Named.{first_lane}
use Rattle.sai_types.specs.Names as thing_name
use Rattle.sai_types.specs.Names.{ThingName, base_name, name_of, thing_references, with_router}
use Rattle.sai_types.proofs.Things.{both_mapped}
use Rattle.sai_types.proofs.Weights.{put-back}
use Rattle.switch_model.specs.Placed.{router_in, router_of_row}
use Rattle.switch_model.specs.Desired.{IsClosed, IsThingOf, desired_view, have_rows, ready_rows, placed_things}
use Rattle.switch_model.specs.Good.{TypedRows, good_rows}
use Rattle.switch_model.specs.References.{IsSelfContained}
use Rattle.switch_model.specs.Things.{address_things, base_of, from_base, from_hops, from_lane, hop_of, hops_of, lane_of, members_of, route_things, route_to, things_of, whop_of}
use Rattle.switch_model.proofs.ReadRows.{IsRead, IsRead-good, intf_read, neigh_read, port_read, vlan_read, vrf_read}
use Rattle.switch_model.proofs.Ready.{IsClosed-ready, ready-there}

row_there : (o : Option Row) → is_some o ≡ true → (r : Row) × (o ≡ Some r)
row_there None h = cc
row_there (Some r) h = (r, refl)

-- the rows of one name and of two
one_there : (rows : TypedRows) (k : Key) → have_rows rows (k ∷ []) ≡ true → (r : Row) × (rows k ≡ Some r)
one_there rows k h = row_there (rows k) ((and_parts (is_some (rows k)) true h).0)

two_there : (rows : TypedRows) (k q : Key) → have_rows rows (k ∷ q ∷ []) ≡ true → ((r : Row) × (rows k ≡ Some r)) × ((r : Row) × (rows q ≡ Some r))
two_there rows k q h =
    let parts = and_parts (is_some (rows k)) (have_rows rows (q ∷ [])) h in
    (row_there (rows k) parts.0, one_there rows q parts.1)

-- the rows of the names of two lists
both_there : (rows : TypedRows) (ks qs : List Key) → have_rows rows (ks ++ qs) ≡ true → (have_rows rows ks ≡ true) × (have_rows rows qs ≡ true)
both_there rows [] qs h = (refl, h)
both_there rows (k ∷ ks) qs h =
    let parts = and_parts (is_some (rows k)) (have_rows rows (ks ++ qs)) h in
    let behind = both_there rows ks qs parts.1 in
    (and_from (is_some (rows k)) (have_rows rows ks) parts.0 behind.0, behind.1)

some_is : (n m : ℕ) (o : Option ℕ) → o ≡ Some n → o ≡ Some m → n ≡ m
some_is n m o h k = cc

abbrev AllIn : {X : Type 0} → (X → Type 0) → List X → Type 0
AllIn P [] = Unit {0}
AllIn P (x ∷ xs) = P x × AllIn P xs

one_of : {X : Type 0} (P : X → Type 0) (x : X) (xs : List X) → AllIn P xs → IsIn x xs → P x
one_of P x [] all h = absurd h
one_of P x (y ∷ ys) all (inl e) = subst P (sym e) all.0
one_of P x (y ∷ ys) all (inr h) = one_of P x ys all.1 h

all_of : {X : Type 0} (P : X → Type 0) (xs : List X) → ((x : X) → IsIn x xs → P x) → AllIn P xs
all_of P [] each = tt
all_of P (x ∷ xs) each = (each x (inl refl), all_of P xs (λ y h. each y (inr h)))

module _ (plan : Ports) (rows : TypedRows) (closed : IsClosed rows) (read : (k : Key) (r : Row) → rows k ≡ Some r → IsRead plan k r) where
  -- some thing of the rows has the name
  abbrev IsMet : ThingName → Type 0
  IsMet k = (y : Thing) × IsThingOf plan rows y × (name_of y ≡ k)

  abbrev AreMet : Thing → Type 0
  AreMet x = AllIn IsMet (thing_references x)

  -- a thing of a row meets the references to its name
  met_by : (k : Key) (r : Row) (y : Thing) → rows k ≡ Some r → IsIn y (placed_things plan rows k r) → IsMet (name_of y)
  met_by k r y is h = (y, (k, r, is, h), refl)

  port_met : (port lane : ℕ) (r : Row) → rows (key.Port port) ≡ Some r → lane_of plan port ≡ Some lane → IsMet (thing_name.Port lane)
  port_met port lane r is at =
      let p = port_read plan port r (read (key.Port port) r is) in
      let here : lane_of plan port ≡ Some (first_lane (p.0).lanes) = ap (option_map first_lane) p.2 in
      let same : first_lane (p.0).lanes ≡ lane = some_is (first_lane (p.0).lanes) lane (lane_of plan port) here at in
      let made = thing.Port (record { lanes = (p.0).lanes; speed = (p.0).speed; mtu = (p.0).mtu; up = (p.0).up }) in
      (made, (key.Port port, row.Port p.0, is ∙ ap Some p.1, subst (λ o. IsIn made (from_lane (λ lane. made ∷ []) o)) (sym here) (inl refl)), ap thing_name.Port same)

  vlan_met : (vlan : ℕ) (r : Row) → rows (key.Vlan vlan) ≡ Some r → IsMet (thing_name.Vlan vlan)
  vlan_met vlan r is = met_by (key.Vlan vlan) row.Vlan (thing.Vlan vlan) (is ∙ ap Some (vlan_read plan vlan r (read (key.Vlan vlan) r is))) (inl refl)

  router_met : (n : VrfName) (r : Row) → rows (key.Vrf n) ≡ Some r → IsMet (thing_name.VirtualRouter n)
  router_met n r is = met_by (key.Vrf n) row.Vrf (thing.VirtualRouter n) (is ∙ ap Some (vrf_read plan n r (read (key.Vrf n) r is))) (inl refl)

  -- names with that of a virtual router in front, whose row is there
  in_router_met : (v : Vrf) (ks : List ThingName) → have_rows rows (router_names v) ≡ true → AllIn IsMet ks → AllIn IsMet (with_router v ks)
  in_router_met vrf.Default ks routed all = all
  in_router_met (vrf.Named n) ks routed all = let there = one_there rows (key.Vrf n) routed in (router_met n there.0 there.1, all)

  -- what an interface stands on
  base_met : (on : IfName) (b : Base) → have_rows rows (base_names on) ≡ true → base_of plan on ≡ Some b → IsMet (base_name b)
  base_met (name.Ethernet port) b named h =
      let there = one_there rows (key.Port port) named in
      let lane = mapped base.Port (lane_of plan port) b h in
      subst (λ x. IsMet (base_name x)) lane.2 (port_met port lane.0 there.0 there.1 lane.1)
  base_met (name.Vlan vlan) b named h =
      let there = one_there rows (key.Vlan vlan) named in
      let is : base.Vlan vlan ≡ b = cc in
      subst (λ x. IsMet (base_name x)) is (vlan_met vlan there.0 there.1)
  base_met (name.Loopback number) b named h = absurd cc

  rif_met : (on : IfName) (b : Base) (r : Row) → rows (key.Intf on) ≡ Some r → base_of plan on ≡ Some b → IsMet (thing_name.Rif b)
  rif_met on b r is at =
      let (v, of) = intf_read plan on r (read (key.Intf on) r is) in
      met_by (key.Intf on) (row.Intf v) (thing.Rif b v) (is ∙ ap Some of)
      (subst (λ o. IsIn (thing.Rif b v) (from_base (λ b. thing.Rif b v ∷ []) o)) (sym at) (inl refl))

  abbrev through : Base → Ip → Hop
  through b ip = record { on = b; ip = ip }

  abbrev IsHopMet : Hop → Type 0
  IsHopMet hop = IsMet (thing_name.NextHop hop)

  hop_met : (on : IfName) (ip : Ip) (b : Base) (r : Row) → rows (key.Neigh on ip) ≡ Some r → base_of plan on ≡ Some b → IsHopMet (through b ip)
  hop_met on ip b r is at =
      let mac = neigh_read plan on ip r (read (key.Neigh on ip) r is) in
      met_by (key.Neigh on ip) (row.Neigh mac.0) (thing.NextHop (through b ip)) (is ∙ ap Some mac.1)
      (subst (λ o. IsIn (thing.NextHop (through b ip)) (from_base (λ b. thing.Neighbor (through b ip) mac.0 ∷ thing.NextHop (through b ip) ∷ []) o)) (sym at) (inr (inl refl)))

  -- each hop of the chip, whatever its weight, is a hop of the row
  hop_in : (hops : List (RowHop × ℕ)) (group : List WHop) → have_rows rows (map (λ h. key.Neigh h.0.on h.0.ip) hops) ≡ true → hops_of plan hops ≡ Some group → (w : WHop) → IsIn w group → IsHopMet w.hop
  hop_in [] group named h w i = let is : group ≡ [] = cc in elim (subst (IsIn w) is i) [ ]
  hop_in (hop ∷ hops) group named h w i =
      let first = and_parts (is_some (rows (key.Neigh hop.0.on hop.0.ip))) (have_rows rows (map (λ h. key.Neigh h.0.on h.0.ip) hops)) named in
      let there = row_there (rows (key.Neigh hop.0.on hop.0.ip)) first.0 in
      let parts = both_mapped put_hop (hops_of plan hops) (whop_of plan hop) group h in
      let weighed = mapped (λ z. record { hop = z; weight = hop.1 }) (hop_of plan hop.0) parts.1 parts.3 in
      let on = mapped (λ b. through b hop.0.ip) (base_of plan hop.0.on) weighed.0 weighed.1 in
      let here : IsHopMet (parts.1).hop = subst IsHopMet (on.2 ∙ ap (λ (z : WHop). z.hop) weighed.2) (hop_met hop.0.on hop.0.ip on.0 there.0 there.1 on.1) in
      elim (put-back parts.1 w parts.0 (subst (IsIn w) (sym parts.4) i)) [ inl same ↦ subst IsHopMet (sym same) here | inr j ↦ hop_in hops parts.0 first.1 parts.2 w j ]

  abbrev AreHopsMet : List WHop → Type 0
  AreHopsMet hops = AllIn (λ (w : WHop). IsHopMet w.hop) hops

  hops_met : (hops : List (RowHop × ℕ)) (group : List WHop) → have_rows rows (map (λ h. key.Neigh h.0.on h.0.ip) hops) ≡ true → hops_of plan hops ≡ Some group → AreHopsMet group
  hops_met hops group named h = all_of (λ (w : WHop). IsHopMet w.hop) group (hop_in hops group named h)

  members_met : (group hops : List WHop) → IsMet (thing_name.Group group) → AreHopsMet hops → AllIn AreMet (members_of group hops)
  members_met group [] whole all = tt
  members_met group (hop ∷ hops) whole all = ((whole, (all.0, tt)), members_met group hops whole all.1)

  -- a route's things
  route_met : (v : Vrf) (prefix : Prefix) (group : List WHop) → have_rows rows (router_names v) ≡ true → AreHopsMet group → ((y : Thing) → IsIn y (route_to v prefix group) → IsMet (name_of y)) → AllIn AreMet (route_to v prefix group)
  route_met v prefix [] routed all there = tt
  route_met v prefix (hop ∷ []) routed all there = (in_router_met v _ routed (all.0, tt), tt)
  route_met v prefix (hop ∷ next ∷ hops) routed all there =
      let group = hop ∷ next ∷ hops in
      let whole = there (thing.Group group) (inr (inl refl)) in
      (in_router_met v _ routed (whole, tt), (tt, members_met group group whole all))

  hops_by : (v : Vrf) (prefix : Prefix) (hops : List (RowHop × ℕ)) (o : Option (List WHop)) → rows (key.Route v prefix) ≡ Some (row.Route (route.Hops hops)) → have_rows rows (router_names v) ≡ true → have_rows rows (map (λ h. key.Neigh h.0.on h.0.ip) hops) ≡ true → hops_of plan hops ≡ o → AllIn AreMet (from_hops v prefix o)
  hops_by v prefix hops None is routed named at = tt
  hops_by v prefix hops (Some group) is routed named at =
      route_met v prefix group routed (hops_met hops group named at)
      (λ y h. met_by (key.Route v prefix) (row.Route (route.Hops hops)) y is (subst (λ o. IsIn y (from_hops v prefix o)) (sym at) h))

  direct_by : (v : Vrf) (prefix : Prefix) (on : IfName) (o : Option Base) → have_rows rows (router_names v) ≡ true → have_rows rows (key.Intf on ∷ []) ≡ true → base_of plan on ≡ o → AllIn AreMet (from_base (λ b. thing.Route v prefix (goal.Direct b) ∷ []) o)
  direct_by v prefix on None routed named at = tt
  direct_by v prefix on (Some b) routed named at =
      let there = one_there rows (key.Intf on) named in
      (in_router_met v _ routed (rif_met on b there.0 there.1 at, tt), tt)

  target_met : (v : Vrf) (prefix : Prefix) (target : RouteRow) → rows (key.Route v prefix) ≡ Some (row.Route target) → have_rows rows (router_names v) ≡ true → have_rows rows (route_names target) ≡ true → AllIn AreMet (route_things plan v prefix target)
  target_met v prefix route.Drop is routed named = (in_router_met v [] routed tt, tt)
  target_met v prefix (route.Direct on) is routed named = direct_by v prefix on (base_of plan on) routed named refl
  target_met v prefix (route.Hops hops) is routed named = hops_by v prefix hops (hops_of plan hops) is routed named refl

  member_by : (vlan port : ℕ) (tagging : Tagging) (o : Option ℕ) → rows (key.Member vlan port) ≡ Some (row.Member tagging) → have_rows rows (key.Vlan vlan ∷ key.Port port ∷ []) ≡ true → lane_of plan port ≡ o → AllIn AreMet (from_lane (λ lane. thing.BridgePort lane ∷ thing.VlanMember vlan lane tagging ∷ []) o)
  member_by vlan port tagging None is named at = tt
  member_by vlan port tagging (Some lane) is named at =
      let there = two_there rows (key.Vlan vlan) (key.Port port) named in
      let bridged = met_by (key.Member vlan port) (row.Member tagging) (thing.BridgePort lane) is
      (subst (λ o. IsIn (thing.BridgePort lane) (from_lane (λ lane. thing.BridgePort lane ∷ thing.VlanMember vlan lane tagging ∷ []) o)) (sym at) (inl refl)) in
      ((port_met port lane (there.1).0 (there.1).1 at, tt), ((vlan_met vlan (there.0).0 (there.0).1, (bridged, tt)), tt))

  rif_by : (on : IfName) (v : Vrf) (o : Option Base) → have_rows rows (base_names on) ≡ true → have_rows rows (router_names v) ≡ true → base_of plan on ≡ o → AllIn AreMet (from_base (λ b. thing.Rif b v ∷ []) o)
  rif_by on v None named routed at = tt
  rif_by on v (Some b) named routed at = (in_router_met v _ routed (base_met on b named at, tt), tt)

  neigh_by : (on : IfName) (ip : Ip) (mac : Mac) (o : Option Base) → rows (key.Neigh on ip) ≡ Some (row.Neigh mac) → have_rows rows (key.Intf on ∷ []) ≡ true → base_of plan on ≡ o → AllIn AreMet (from_base (λ b. thing.Neighbor (through b ip) mac ∷ thing.NextHop (through b ip) ∷ []) o)
  neigh_by on ip mac None is named at = tt
  neigh_by on ip mac (Some b) is named at =
      let there = one_there rows (key.Intf on) named in
      let rif = rif_met on b there.0 there.1 at in
      let beside = met_by (key.Neigh on ip) (row.Neigh mac) (thing.Neighbor (through b ip) mac) is
      (subst (λ o. IsIn (thing.Neighbor (through b ip) mac) (from_base (λ b. thing.Neighbor (through b ip) mac ∷ thing.NextHop (through b ip) ∷ []) o)) (sym at) (inl refl)) in
      ((rif, tt), ((rif, (beside, tt)), tt))

  port_by : (port : ℕ) (made : ℕ → Thing) (o : Option ℕ) → ((lane : ℕ) → AreMet (made lane)) → AllIn AreMet (from_lane (λ lane. made lane ∷ []) o)
  port_by port made None each = tt
  port_by port made (Some lane) each = (each lane, tt)

  own_by : (on : IfName) (v : Vrf) (ip : Ip) → have_rows rows (router_names v) ≡ true → AllIn AreMet (address_things plan on v ip)
  own_by (name.Ethernet port) v ip routed = port_by port (λ lane. thing.Own v ip) (lane_of plan port) (λ lane. in_router_met v [] routed tt)
  own_by (name.Vlan vlan) v ip routed = (in_router_met v [] routed tt, tt)
  own_by (name.Loopback number) v ip routed = (in_router_met v [] routed tt, tt)

  -- the router of an interface's row has its row
  routed_by : (on : IfName) (o : Option Row) → rows (key.Intf on) ≡ o → have_rows rows (router_names (router_of_row o)) ≡ true
  routed_by on None is = refl
  routed_by on (Some (row.Intf v)) is = (both_there rows (base_names on) (router_names v) (closed (key.Intf on) (row.Intf v) is)).1
  routed_by on (Some (row.Port p)) is = refl
  routed_by on (Some row.Vlan) is = refl
  routed_by on (Some row.Vrf) is = refl
  routed_by on (Some (row.Member t)) is = refl
  routed_by on (Some row.Addr) is = refl
  routed_by on (Some (row.Neigh mac)) is = refl
  routed_by on (Some (row.Route t)) is = refl

  -- the things of a row of this key
  row_met : (k : Key) (r : Row) → rows k ≡ Some r → have_rows rows (names_of k r) ≡ true → AllIn AreMet (placed_things plan rows k r)
  row_met (key.Port port) (row.Port p) is named = port_by port (λ lane. thing.Port (record { lanes = p.lanes; speed = p.speed; mtu = p.mtu; up = p.up })) (lane_of plan port) (λ lane. tt)
  row_met (key.Vlan vlan) row.Vlan is named = (tt, tt)
  row_met (key.Vrf n) row.Vrf is named = (tt, tt)
  row_met (key.Member vlan port) (row.Member tagging) is named = member_by vlan port tagging (lane_of plan port) is named refl
  row_met (key.Intf on) (row.Intf v) is named =
      let parts = both_there rows (base_names on) (router_names v) named in
      rif_by on v (base_of plan on) parts.0 parts.1 refl
  row_met (key.Addr on ip len) row.Addr is named = own_by on (router_in rows (key.Addr on ip len)) ip (routed_by on (rows (key.Intf on)) refl)
  row_met (key.Neigh on ip) (row.Neigh mac) is named = neigh_by on ip mac (base_of plan on) is named refl
  row_met (key.Route v prefix) (row.Route target) is named =
      let parts = both_there rows (router_names v) (route_names target) named in
      target_met v prefix target is parts.0 parts.1
  row_met _ _ is named = tt

  -- closed rows that read have all that their things refer to
  pub IsSelfContained-closed : IsSelfContained (IsThingOf plan rows)
  IsSelfContained-closed x n (k, r, is, h) refers =
      one_of IsMet n (thing_references x) (one_of AreMet x (placed_things plan rows k r) (row_met k r is (closed k r is)) h) refers

-- and so has the desired view
pub IsSelfContained-desired_view : (plan : Ports) (rows : Rows) → IsSelfContained (desired_view plan rows)
IsSelfContained-desired_view plan rows =
    IsSelfContained-closed plan (ready_rows (good_rows plan rows)) (IsClosed-ready (good_rows plan rows))
    (λ k r h. IsRead-good plan rows k r (ready-there (good_rows plan rows) k r h))
