-- what the events need to know of each table's rows, proved
use Rattle.std.proofs.Common.{◌≡◌, ◌⊎◌, ◌∷◌, inl, inr, ℕ, List, [], Option, None, Some, option_map, refl, sym, ap, subst}
use Rattle.swss_types.specs.declared.address.Ip.{Ip}
use Rattle.swss_types.specs.declared.address.Prefix.{Prefix}
use Rattle.swss_types.specs.declared.interface.IfName.{IfName}
use Rattle.swss_types.specs.declared.interface.IfName.TheVariants as on
use Rattle.swss_types.specs.declared.vrf.Vrf.{Vrf}
use Rattle.swss_types.specs.declared.vrf.Vrf.TheVariants as vrf
use Rattle.swss_types.proofs.Proper.{mapped}
use Rattle.table_schema.specs.Names.{base_names, router_names}
use Rattle.table_schema.specs.Plan.{Ports, IsPlan}
use Rattle.table_schema.specs.declared.key.Key.{Key}
use Rattle.table_schema.specs.declared.key.Key.TheVariants as key
use Rattle.table_schema.specs.declared.row.RouteRow.{RouteRow}
use Rattle.table_schema.specs.declared.row.RouteRow.TheVariants as route
use Rattle.table_schema.specs.declared.row_hop.RowHop.{RowHop}
use Rattle.sai_types.specs.declared.hop.Base.{Base}
use Rattle.sai_types.specs.declared.hop.Base.TheVariants as base
use Rattle.sai_types.specs.declared.weight.WHop.{WHop}
use Rattle.sai_types.specs.declared.thing.Goal.{Goal}
use Rattle.sai_types.specs.declared.thing.Goal.TheVariants as goal
use Rattle.sai_types.specs.declared.thing.Thing.{Thing}
use Rattle.sai_types.specs.declared.thing.Thing.TheVariants as thing
use Rattle.sai_types.specs.Alike.{IsIn}
use Rattle.sai_types.specs.Named.{first_lane}
use Rattle.sai_types.specs.Names as name
use Rattle.sai_types.specs.Names.{ThingName, Refers, base_name, goal_names, name_of, with_router}
use Rattle.sai_types.proofs.Membership.{in-left, in-right}
use Rattle.switch_model.specs.Placed as row
use Rattle.switch_model.specs.Placed.{Placed as Row, placed_names as names_of, placed_route_names as names_of_route}
use Rattle.switch_model.specs.Things.{base_of, hops_of, lane_of, members_of}
use Rattle.row_layout.specs.Rows as owner
use Rattle.row_layout.specs.Rows.{IsPlanned, Owner, from, goal_to, goal_of, own_things}
use Rattle.row_layout.specs.Shared.{address_uses, group_by, shared_things, uses}
use Rattle.row_layout.proofs.Members.{from_in, in_map, only, two}
use Rattle.row_layout.proofs.Naming.{beside_router, hop_from}
use Rattle.row_layout.proofs.Owners.{interface_by, own, port_by, shared-own}
use Rattle.switch_machine.specs.Flights.{Fits, IsOwnedBy, IsShared, own_names}
use Rattle.switch_machine.specs.Tables.{ComesBefore, IsNamed, TableLaws}

pub in_from : {X Y : Type 0} (o : Option X) (f : X → List Y) (x : X) (y : Y) → o ≡ Some x → IsIn y (f x) → IsIn y (from o f)
in_from o f x y e h = subst (λ z. IsIn y (from z f)) (sym e) h

fit_planned : (plan : Ports) (k : Key) (r : Row) → Fits plan k r → IsPlanned plan k r
fit_planned plan (key.Port p) (row.Port r) h = h
fit_planned plan _ _ h = tt

-- a thing of this name
abbrev Gives : List Thing → ThingName → Type 0
Gives ts n = (t : Thing) × IsIn t ts × (name_of t ≡ n)

gives_from : {X : Type 0} (o : Option X) (f : X → List ThingName) (g : X → List Thing) (n : ThingName) → ((x : X) → IsIn n (f x) → Gives (g x) n) → IsIn n (from o f) → Gives (from o g) n
gives_from None f g n each h = elim h [ ]
gives_from (Some x) f g n each h = each x h

neigh_gives : (n : ThingName) (a b : Thing) → IsIn n (name_of a ∷ name_of b ∷ []) → Gives (a ∷ b ∷ []) n
neigh_gives n a b (inl is) = (a, inl refl, sym is)
neigh_gives n a b (inr (inl is)) = (b, inr (inl refl), sym is)
neigh_gives n a b (inr (inr h)) = elim h [ ]

pub member_of : (all hops : List WHop) (u : Thing) → IsIn u (members_of all hops) → (hop : WHop) × IsIn hop hops × (u ≡ thing.GroupMember all hop)
member_of all [] u h = elim h [ ]
member_of all (hop ∷ hops) u (inl e) = (hop, inl refl, e)
member_of all (hop ∷ hops) u (inr h) = let x = member_of all hops u h in (x.0, inr x.1, x.2)

pub group_use : (o : Owner) (hops : Option (List WHop)) → IsIn o (group_by hops) → (group : List WHop) × (hops ≡ Some group) × (o ≡ owner.Group group)
group_use o None h = elim h [ ]
group_use o (Some []) h = elim h [ ]
group_use o (Some (hop ∷ [])) h = elim h [ ]
group_use o (Some (hop ∷ next ∷ hops)) (inl e) = (hop ∷ next ∷ hops, refl, e)
group_use o (Some (hop ∷ next ∷ hops)) (inr h) = elim h [ ]

pub in_members : (all hops : List WHop) (hop : WHop) → IsIn hop hops → IsIn (thing.GroupMember all hop) (members_of all hops)
in_members all [] hop h = elim h [ ]
in_members all (x ∷ xs) hop (inl e) = inl (ap (thing.GroupMember all) e)
in_members all (x ∷ xs) hop (inr h) = inr (in_members all xs hop h)

pub member_hop : (all hops : List WHop) (hop : WHop) → IsIn (thing.GroupMember all hop) (members_of all hops) → IsIn hop hops
member_hop all hops hop h = let x = member_of all hops (thing.GroupMember all hop) h in let same : x.0 ≡ hop = cc in subst (λ z. IsIn z hops) same x.1

-- what an address row uses is its own address
pub address_use : (plan : Ports) (i : IfName) (v : Vrf) (ip : Ip) (o : Owner) → IsIn o (address_uses plan i v ip) → o ≡ owner.Own v ip
address_use plan (on.Ethernet port) v ip o h = only (λ o. o ≡ owner.Own v ip) o (owner.Own v ip) refl (from_in (lane_of plan port) _ o h).2
address_use plan (on.Vlan n) v ip o h = only (λ o. o ≡ owner.Own v ip) o (owner.Own v ip) refl h
address_use plan (on.Loopback n) v ip o h = only (λ o. o ≡ owner.Own v ip) o (owner.Own v ip) refl h

module _ (plan : Ports) (is : IsPlan plan) where
  names_by : (k : Key) (r : Row) (n : ThingName) → Fits plan k r → IsIn n (own_names plan k) → Gives (own_things plan k r) n
  names_by (key.Port p) (row.Port r) n fit h =
      let t : Thing = thing.Port (record { lanes = r.lanes; speed = r.speed; mtu = r.mtu; up = r.up }) in
      let at : lane_of plan p ≡ Some (first_lane r.lanes) = ap (option_map first_lane) fit in
      (t, in_from (lane_of plan p) (λ lane. t ∷ []) (first_lane r.lanes) t at (inl refl), named (subst (λ o. IsIn n (from o (λ lane. name.Port lane ∷ []))) at h))
    where
      named : IsIn n (name.Port (first_lane r.lanes) ∷ []) → name.Port (first_lane r.lanes) ≡ n
      named (inl e) = sym e
      named (inr h) = elim h [ ]
  names_by (key.Vlan v) row.Vlan n fit (inl e) = (thing.Vlan v, inl refl, sym e)
  names_by (key.Vlan v) row.Vlan n fit (inr h) = elim h [ ]
  names_by (key.Vrf label) row.Vrf n fit (inl e) = (thing.VirtualRouter label, inl refl, sym e)
  names_by (key.Vrf label) row.Vrf n fit (inr h) = elim h [ ]
  names_by (key.Intf i) (row.Intf v) n fit h = gives_from (base_of plan i) (λ b. name.Rif b ∷ []) (λ b. thing.Rif b v ∷ []) n each h
    where
      each : (b : Base) → IsIn n (name.Rif b ∷ []) → Gives (thing.Rif b v ∷ []) n
      each b (inl e) = (thing.Rif b v, inl refl, sym e)
      each b (inr h) = elim h [ ]
  names_by (key.Neigh i ip) (row.Neigh mac) n fit h =
      gives_from (base_of plan i) _ (λ b. thing.Neighbor (record { on = b; ip = ip }) mac ∷ thing.NextHop (record { on = b; ip = ip }) ∷ []) n
      (λ b x. neigh_gives n (thing.Neighbor (record { on = b; ip = ip }) mac) (thing.NextHop (record { on = b; ip = ip })) x) h
  names_by (key.Port p) _ n fit h = elim fit [ ]
  names_by (key.Vlan v) _ n fit h = elim fit [ ]
  names_by (key.Vrf label) _ n fit h = elim fit [ ]
  names_by (key.Intf i) _ n fit h = elim fit [ ]
  names_by (key.Neigh i ip) _ n fit h = elim fit [ ]
  names_by _ r n fit h = elim h [ ]

  names_own_by : (k : Key) (n : ThingName) → IsIn n (own_names plan k) → IsOwnedBy plan n (owner.OfRow k)
  names_own_by (key.Port p) n h =
      let m = from_in (lane_of plan p) _ n h in
      only (λ x. IsOwnedBy plan x (owner.OfRow (key.Port p))) n (name.Port m.0) (ap (option_map (λ q. owner.OfRow (key.Port q))) (port_by plan is p m.0 m.1)) m.2
  names_own_by (key.Vlan v) n h = only (λ x. IsOwnedBy plan x (owner.OfRow (key.Vlan v))) n (name.Vlan v) refl h
  names_own_by (key.Vrf label) n h = only (λ x. IsOwnedBy plan x (owner.OfRow (key.Vrf label))) n (name.VirtualRouter label) refl h
  names_own_by (key.Intf i) n h =
      let m = from_in (base_of plan i) _ n h in
      only (λ x. IsOwnedBy plan x (owner.OfRow (key.Intf i))) n (name.Rif m.0) (ap (option_map (λ q. owner.OfRow (key.Intf q))) (interface_by plan is i m.0 m.1)) m.2
  names_own_by (key.Neigh i ip) n h =
      let m = from_in (base_of plan i) _ n h in
      let o = ap (option_map (λ q. owner.OfRow (key.Neigh q ip))) (interface_by plan is i m.0 m.1) in
      two (λ x. IsOwnedBy plan x (owner.OfRow (key.Neigh i ip))) n (name.Neighbor (record { on = m.0; ip = ip })) (name.NextHop (record { on = m.0; ip = ip })) o o m.2
  names_own_by k n h = elim h [ ]

  pub are_shared_by : (k : Key) (r : Row) (o : Owner) → IsIn o (uses plan k r) → IsShared o
  are_shared_by (key.Member v p) (row.Member t) o h = let m = from_in (lane_of plan p) _ o h in only IsShared o (owner.Bridge m.0) tt m.2
  are_shared_by (key.Addr i ip len) (row.Addr v) o h = subst IsShared (sym (address_use plan i v ip o h)) tt
  are_shared_by (key.Route v prefix) (row.Route (route.Hops hops)) o h = let x = group_use o (hops_of plan hops) h in subst IsShared (sym x.2) tt
  are_shared_by (key.Route v prefix) (row.Route route.Drop) o h = elim h [ ]
  are_shared_by (key.Route v prefix) (row.Route (route.Direct i)) o h = elim h [ ]
  are_shared_by k r o h = elim h [ ]

  -- where a reference of a row's things leads
  abbrev pub Leads : Key → Row → Thing → ThingName → Type 0
  Leads k r t n = IsNamed plan k r n ⊎ ((IsOwnedBy plan n (owner.OfRow k) × ComesBefore n t (own_things plan k r)) ⊎ ((o : Owner) × IsOwnedBy plan n o × IsIn o (uses plan k r) × ((u : Thing) × IsIn u (shared_things o) × (name_of u ≡ n))))

  abbrev pub LeadAll : Key → Row → Thing → Type 0
  LeadAll k r t = (n : ThingName) → Refers t n → Leads k r t n

  port_named_by : (k : Key) (r : Row) (p lane : ℕ) → lane_of plan p ≡ Some lane → IsIn (key.Port p) (names_of k r) → IsNamed plan k r (name.Port lane)
  port_named_by k r p lane at h = record { by = key.Port p; named = h; own = in_from (lane_of plan p) (λ l. name.Port l ∷ []) lane (name.Port lane) at (inl refl) }

  rif_named_by : (k : Key) (r : Row) (i : IfName) (b : Base) → base_of plan i ≡ Some b → IsIn (key.Intf i) (names_of k r) → IsNamed plan k r (name.Rif b)
  rif_named_by k r i b at h = record { by = key.Intf i; named = h; own = in_from (base_of plan i) (λ b. name.Rif b ∷ []) b (name.Rif b) at (inl refl) }

  -- a named virtual router is given by its row
  router_leads : (k : Key) (r : Row) (v : Vrf) → ((p : Key) → IsIn p (router_names v) → IsIn p (names_of k r)) → (n : ThingName) → IsIn n (with_router v []) → IsNamed plan k r n
  router_leads k r vrf.Default f n h = elim h [ ]
  router_leads k r (vrf.Named label) f n h = only (IsNamed plan k r) n (name.VirtualRouter label) (record { by = key.Vrf label; named = f (key.Vrf label) (inl refl); own = inl refl }) h

  intf_leads : (i : IfName) (v : Vrf) (b : Base) → base_of plan i ≡ Some b → IsNamed plan (key.Intf i) (row.Intf v) (base_name b)
  intf_leads (on.Ethernet p) v b at = let m = mapped base.Port (lane_of plan p) b at in subst (λ z. IsNamed plan (key.Intf (on.Ethernet p)) (row.Intf v) (base_name z)) m.2 (port_named_by (key.Intf (on.Ethernet p)) (row.Intf v) p m.0 m.1 (inl refl))
  intf_leads (on.Vlan n) v b at = let e : base.Vlan n ≡ b = cc in subst (λ z. IsNamed plan (key.Intf (on.Vlan n)) (row.Intf v) (base_name z)) e (record { by = key.Vlan n; named = inl refl; own = inl refl })
  intf_leads (on.Loopback l) v b at = absurd cc

  -- a hop of a route is of a neighbour that the route names
  hop_leads : (v : Vrf) (prefix : Prefix) (hops : List (RowHop × ℕ)) (group : List WHop) (hop : WHop) → hops_of plan hops ≡ Some group → IsIn hop group → IsNamed plan (key.Route v prefix) (row.Route (route.Hops hops)) (name.NextHop hop.hop)
  hop_leads v prefix hops group hop e h =
      let x = hop_from plan hops group hop e h in
      let m = mapped (λ b. record { on = b; ip = x.0.0.ip }) (base_of plan x.0.0.on) hop.hop x.2 in
      subst (λ z. IsNamed plan (key.Route v prefix) (row.Route (route.Hops hops)) (name.NextHop z)) m.2 (record {
        by = key.Neigh x.0.0.on x.0.0.ip;
        named = in-right _ (router_names v) _ (in_map (λ (h : RowHop × ℕ). key.Neigh h.0.on h.0.ip) x.0 hops x.1);
        own = in_from (base_of plan x.0.0.on) _ m.0 (name.NextHop (record { on = m.0; ip = x.0.0.ip })) m.1 (inr (inl refl));
      })

  -- what a goal refers to
  abbrev RouteLeads : Vrf → Prefix → RouteRow → Goal → Type 0
  RouteLeads v prefix r g = (n : ThingName) → IsIn n (goal_names g) → Leads (key.Route v prefix) (row.Route r) (thing.Route v prefix g) n

  goal_leads : (v : Vrf) (prefix : Prefix) (hops : List (RowHop × ℕ)) (o : Option (List WHop)) (g : Goal) → hops_of plan hops ≡ o → goal_to o ≡ Some g → RouteLeads v prefix (route.Hops hops) g
  goal_leads v prefix hops None g at e = absurd cc
  goal_leads v prefix hops (Some []) g at e = absurd cc
  goal_leads v prefix hops (Some (hop ∷ [])) g at e =
      let is : goal.Via hop.hop ≡ g = cc in
      subst (RouteLeads v prefix (route.Hops hops)) is
      (λ n h. only (Leads (key.Route v prefix) (row.Route (route.Hops hops)) (thing.Route v prefix (goal.Via hop.hop))) n (name.NextHop hop.hop) (inl (hop_leads v prefix hops (hop ∷ []) hop at (inl refl))) h)
  goal_leads v prefix hops (Some (hop ∷ next ∷ more)) g at e =
      let all = hop ∷ next ∷ more in
      let is : goal.Group all ≡ g = cc in
      let used : IsIn (owner.Group all) (group_by (hops_of plan hops)) = subst (λ z. IsIn (owner.Group all) (group_by z)) (sym at) (inl refl) in
      subst (RouteLeads v prefix (route.Hops hops)) is
      (λ n h. only (Leads (key.Route v prefix) (row.Route (route.Hops hops)) (thing.Route v prefix (goal.Group all))) n (name.Group all) (inr (inr (owner.Group all, refl, used, (thing.Group all, inl refl, refl)))) h)

  route_leads : (v : Vrf) (prefix : Prefix) (r : RouteRow) (g : Goal) → goal_of plan r ≡ Some g → RouteLeads v prefix r g
  route_leads v prefix route.Drop g at = let e : goal.Drop ≡ g = cc in subst (RouteLeads v prefix route.Drop) e (λ n h. elim h [ ])
  route_leads v prefix (route.Direct i) g at =
      let m = mapped goal.Direct (base_of plan i) g at in
      subst (RouteLeads v prefix (route.Direct i)) m.2
      (λ n h. only (Leads (key.Route v prefix) (row.Route (route.Direct i)) (thing.Route v prefix (goal.Direct m.0))) n (name.Rif m.0) (inl (rif_named_by (key.Route v prefix) (row.Route (route.Direct i)) i m.0 m.1 (in-right _ (router_names v) _ (inl refl)))) h)
  route_leads v prefix (route.Hops hops) g at = goal_leads v prefix hops (hops_of plan hops) g refl at

  -- and a route's thing, its virtual router beside that
  route_thing_leads : (v : Vrf) (prefix : Prefix) (r : RouteRow) (g : Goal) → goal_of plan r ≡ Some g → LeadAll (key.Route v prefix) (row.Route r) (thing.Route v prefix g)
  route_thing_leads v prefix r g at n e = by (beside_router v (goal_names g) n e)
    where
      by : IsIn n (with_router v []) ⊎ IsIn n (goal_names g) → Leads (key.Route v prefix) (row.Route r) (thing.Route v prefix g) n
      by (inl h) = inl (router_leads (key.Route v prefix) (row.Route r) v (λ p i. in-left p (router_names v) (names_of_route (row.Route r)) i) n h)
      by (inr h) = route_leads v prefix r g at n h

  pub own_refers_by : (k : Key) (r : Row) (t : Thing) → Fits plan k r → IsIn t (own_things plan k r) → LeadAll k r t
  own_refers_by (key.Port p) (row.Port r) t fit h = only (LeadAll (key.Port p) (row.Port r)) t _ (λ n e. elim e [ ]) (from_in (lane_of plan p) _ t h).2
  own_refers_by (key.Vlan v) row.Vlan t fit h = only (LeadAll (key.Vlan v) row.Vlan) t (thing.Vlan v) (λ n e. elim e [ ]) h
  own_refers_by (key.Vrf label) row.Vrf t fit h = only (LeadAll (key.Vrf label) row.Vrf) t (thing.VirtualRouter label) (λ n e. elim e [ ]) h
  own_refers_by (key.Member v p) (row.Member tagging) t fit h = let m = from_in (lane_of plan p) _ t h in only (LeadAll (key.Member v p) (row.Member tagging)) t (thing.VlanMember v m.0 tagging) (leads m.0 m.1) m.2
    where
      leads : (lane : ℕ) → lane_of plan p ≡ Some lane → LeadAll (key.Member v p) (row.Member tagging) (thing.VlanMember v lane tagging)
      leads lane at n e =
          two (Leads (key.Member v p) (row.Member tagging) (thing.VlanMember v lane tagging)) n (name.Vlan v) (name.BridgePort lane)
          (inl (record { by = key.Vlan v; named = inl refl; own = inl refl }))
          (inr (inr (owner.Bridge lane, refl, in_from (lane_of plan p) (λ l. owner.Bridge l ∷ []) lane (owner.Bridge lane) at (inl refl), (thing.BridgePort lane, inl refl, refl)))) e
  own_refers_by (key.Intf i) (row.Intf v) t fit h =
      let m = from_in (base_of plan i) _ t h in
      only (LeadAll (key.Intf i) (row.Intf v)) t (thing.Rif m.0 v) (λ n e. rif_leads m.0 m.1 n (beside_router v (base_name m.0 ∷ []) n e)) m.2
    where
      rif_leads : (b : Base) → base_of plan i ≡ Some b → (n : ThingName) → IsIn n (with_router v []) ⊎ IsIn n (base_name b ∷ []) → Leads (key.Intf i) (row.Intf v) (thing.Rif b v) n
      rif_leads b at n (inl e) = inl (router_leads (key.Intf i) (row.Intf v) v (λ p j. in-right p (base_names i) (router_names v) j) n e)
      rif_leads b at n (inr e) = only (Leads (key.Intf i) (row.Intf v) (thing.Rif b v)) n (base_name b) (inl (intf_leads i v b at)) e
  own_refers_by (key.Neigh i ip) (row.Neigh mac) t fit h = let m = from_in (base_of plan i) _ t h in two (LeadAll (key.Neigh i ip) (row.Neigh mac)) t (thing.Neighbor (record { on = m.0; ip = ip }) mac) (thing.NextHop (record { on = m.0; ip = ip })) (neighbor m.0 m.1) (next_hop m.0 m.1) m.2
    where
      rif : (t : Thing) (b : Base) → base_of plan i ≡ Some b → Leads (key.Neigh i ip) (row.Neigh mac) t (name.Rif b)
      rif t b at = inl (rif_named_by (key.Neigh i ip) (row.Neigh mac) i b at (inl refl))

      neighbor : (b : Base) → base_of plan i ≡ Some b → LeadAll (key.Neigh i ip) (row.Neigh mac) (thing.Neighbor (record { on = b; ip = ip }) mac)
      neighbor b at n e = let t = thing.Neighbor (record { on = b; ip = ip }) mac in only (Leads (key.Neigh i ip) (row.Neigh mac) t) n (name.Rif b) (rif t b at) e

      next_hop : (b : Base) → base_of plan i ≡ Some b → LeadAll (key.Neigh i ip) (row.Neigh mac) (thing.NextHop (record { on = b; ip = ip }))
      next_hop b at n e =
          two (Leads (key.Neigh i ip) (row.Neigh mac) (thing.NextHop (record { on = b; ip = ip }))) n (name.Rif b) (name.Neighbor (record { on = b; ip = ip }))
          (rif (thing.NextHop (record { on = b; ip = ip })) b at)
          (inr (inl (
            names_own_by (key.Neigh i ip) (name.Neighbor (record { on = b; ip = ip })) (in_from (base_of plan i) _ b (name.Neighbor (record { on = b; ip = ip })) at (inl refl)),
            subst (λ o. ComesBefore (name.Neighbor (record { on = b; ip = ip })) (thing.NextHop (record { on = b; ip = ip })) (from o (λ b. thing.Neighbor (record { on = b; ip = ip }) mac ∷ thing.NextHop (record { on = b; ip = ip }) ∷ []))) (sym at) (inl (refl, inl refl)),
          ))) e
  own_refers_by (key.Route v prefix) (row.Route r) t fit h = let m = from_in (goal_of plan r) _ t h in only (LeadAll (key.Route v prefix) (row.Route r)) t (thing.Route v prefix m.0) (route_thing_leads v prefix r m.0 m.1) m.2
  own_refers_by k r t fit h = elim h [ ]

  -- and of what a row shares
  abbrev pub SharedLeads : Key → Row → Owner → Thing → ThingName → Type 0
  SharedLeads k r o u n = IsNamed plan k r n ⊎ (IsOwnedBy plan n o × ComesBefore n u (shared_things o))

  abbrev pub SharedLeadAll : Key → Row → Owner → Thing → Type 0
  SharedLeadAll k r o u = (n : ThingName) → Refers u n → SharedLeads k r o u n

  pub shared_refers_by : (k : Key) (r : Row) (o : Owner) (u : Thing) → Fits plan k r → IsIn o (uses plan k r) → IsIn u (shared_things o) → SharedLeadAll k r o u
  shared_refers_by (key.Member v p) (row.Member t) o u fit h in_it =
      let m = from_in (lane_of plan p) _ o h in
      only (λ o. IsIn u (shared_things o) → SharedLeadAll (key.Member v p) (row.Member t) o u) o (owner.Bridge m.0) (λ y. only (SharedLeadAll (key.Member v p) (row.Member t) (owner.Bridge m.0)) u (thing.BridgePort m.0) (bridge m.0 m.1) y) m.2 in_it
    where
      bridge : (lane : ℕ) → lane_of plan p ≡ Some lane → SharedLeadAll (key.Member v p) (row.Member t) (owner.Bridge lane) (thing.BridgePort lane)
      bridge lane at n e = only (SharedLeads (key.Member v p) (row.Member t) (owner.Bridge lane) (thing.BridgePort lane)) n (name.Port lane) (inl (port_named_by (key.Member v p) (row.Member t) p lane at (inr (inl refl)))) e
  shared_refers_by (key.Addr i ip len) (row.Addr v) o u fit h in_it =
      let same = address_use plan i v ip o h in
      subst (λ o. SharedLeadAll (key.Addr i ip len) (row.Addr v) o u) (sym same)
      (only (SharedLeadAll (key.Addr i ip len) (row.Addr v) (owner.Own v ip)) u (thing.Own v ip) (λ n e. inl (router_leads (key.Addr i ip len) (row.Addr v) v (λ p j. inr j) n e)) (subst (λ o. IsIn u (shared_things o)) same in_it))
  shared_refers_by (key.Route v prefix) (row.Route (route.Hops hops)) o u fit h in_it =
      let x = group_use o (hops_of plan hops) h in
      subst (λ o. SharedLeadAll (key.Route v prefix) (row.Route (route.Hops hops)) o u) (sym x.2) (group x.0 x.1 (subst (λ o. IsIn u (shared_things o)) x.2 in_it))
    where
      member : (all : List WHop) (hop : WHop) → hops_of plan hops ≡ Some all → IsIn hop all → SharedLeadAll (key.Route v prefix) (row.Route (route.Hops hops)) (owner.Group all) (thing.GroupMember all hop)
      member all hop at i n e =
          two (SharedLeads (key.Route v prefix) (row.Route (route.Hops hops)) (owner.Group all) (thing.GroupMember all hop)) n (name.Group all) (name.NextHop hop.hop)
          (inr (refl, inl (refl, in_members all all hop i))) (inl (hop_leads v prefix hops all hop at i)) e

      group : (all : List WHop) → hops_of plan hops ≡ Some all → IsIn u (shared_things (owner.Group all)) → SharedLeadAll (key.Route v prefix) (row.Route (route.Hops hops)) (owner.Group all) u
      group all at (inl e) = subst (SharedLeadAll (key.Route v prefix) (row.Route (route.Hops hops)) (owner.Group all)) (sym e) (λ n x. elim x [ ])
      group all at (inr y) = let m = member_of all all u y in subst (SharedLeadAll (key.Route v prefix) (row.Route (route.Hops hops)) (owner.Group all)) (sym m.2) (member all m.0 at m.1)
  shared_refers_by (key.Route v prefix) (row.Route route.Drop) o u fit h in_it = elim h [ ]
  shared_refers_by (key.Route v prefix) (row.Route (route.Direct i)) o u fit h in_it = elim h [ ]
  shared_refers_by k r o u fit h in_it = elim h [ ]

  pub tabled : TableLaws plan
  tabled = record {
    names = names_by;
    names_own = names_own_by;
    own = λ k r t fit h. own plan is k r t (fit_planned plan k r fit) h;
    shared = λ o u h. shared-own plan is o u h;
    are_shared = are_shared_by;
    own_refers = λ k r t n fit h refers. weaker k r t n (own_refers_by k r t fit h n refers);
    shared_refers = λ k r o u n fit h in_it refers. weaker_shared k r o u n (shared_refers_by k r o u fit h in_it n refers);
  }
    where
      weaker : (k : Key) (r : Row) (t : Thing) (n : ThingName) → Leads k r t n → IsNamed plan k r n ⊎ (IsOwnedBy plan n (owner.OfRow k) ⊎ ((o : Owner) × IsOwnedBy plan n o × IsIn o (uses plan k r)))
      weaker k r t n (inl named) = inl named
      weaker k r t n (inr (inl own)) = inr (inl own.0)
      weaker k r t n (inr (inr x)) = inr (inr (x.0, x.1, x.2))

      weaker_shared : (k : Key) (r : Row) (o : Owner) (u : Thing) (n : ThingName) → SharedLeads k r o u n → IsNamed plan k r n ⊎ IsOwnedBy plan n o
      weaker_shared k r o u n (inl named) = inl named
      weaker_shared k r o u n (inr x) = inr x.0
