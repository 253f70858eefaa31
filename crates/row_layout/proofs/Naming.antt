-- what a row's things refer to is named by the row
use Rattle.std.proofs.Common.{◌≡◌, ◌⊎◌, inl, inr, ℕ, List, [], ◌∷◌, Option, None, Some, option_map, refl, sym, ap, ◌∙◌, subst}
use Rattle.std.proofs.lemmas.Option.{same_Some}
use Rattle.swss_types.specs.declared.address.Ip.{Ip}
use Rattle.swss_types.specs.declared.address.Mac.{Mac}
use Rattle.swss_types.specs.declared.address.Prefix.{Prefix}
use Rattle.swss_types.specs.declared.tagging.Tagging.{Tagging}
use Rattle.swss_types.specs.declared.interface.IfName.{IfName}
use Rattle.swss_types.specs.declared.interface.IfName.TheVariants as on
use Rattle.swss_types.specs.declared.vrf.Vrf.{Vrf}
use Rattle.swss_types.specs.declared.vrf.Vrf.TheVariants as vrf
use Rattle.swss_types.proofs.Proper.{mapped}
use Rattle.table_schema.specs.Names.{base_names, router_names}
use Rattle.table_schema.specs.Plan.{Ports, IsPlan}
use Rattle.table_schema.specs.declared.key.Key.{Key}
use Rattle.table_schema.specs.declared.key.Key.TheVariants as key
use Rattle.table_schema.specs.declared.row.RouteRow.{RouteRow}
use Rattle.table_schema.specs.declared.row.RouteRow.TheVariants as route
use Rattle.table_schema.specs.declared.row_hop.RowHop.{RowHop}
use Rattle.sai_types.specs.declared.hop.Base.{Base}
use Rattle.sai_types.specs.declared.hop.Base.TheVariants as base
use Rattle.sai_types.specs.declared.weight.WHop.{WHop}
use Rattle.sai_types.specs.declared.thing.Goal.{Goal}
use Rattle.sai_types.specs.declared.thing.Goal.TheVariants as goal
use Rattle.sai_types.specs.declared.thing.Thing.{Thing}
use Rattle.sai_types.specs.declared.thing.Thing.TheVariants as thing
use Rattle.sai_types.specs.Alike.{IsIn}
use Rattle.sai_types.specs.Hop.{put_hop}
use Rattle.switch_model.specs.Placed as row
use Rattle.switch_model.specs.Placed.{Placed as Row, placed_names as names_of}
use Rattle.switch_model.specs.Things.{base_of, hop_of, hops_of, lane_of, whop_of}
use Rattle.sai_types.specs.Names as name
use Rattle.sai_types.specs.Names.{ThingName, Refers, base_name, goal_names, with_router}
use Rattle.sai_types.proofs.Membership.{in-left, in-right}
use Rattle.sai_types.proofs.Things.{both_mapped}
use Rattle.sai_types.proofs.Weights.{put-back}
use Rattle.row_layout.specs.Rows as owner
use Rattle.row_layout.specs.Rows.{goal_to, goal_of, own_things, owner_of}
use Rattle.row_layout.proofs.Members.{from_in, in_map, only, two}
use Rattle.row_layout.proofs.Owners.{interface_by, port_by}

owners : (p q : Key) → Some (owner.OfRow p) ≡ Some (owner.OfRow q) → p ≡ q
owners p q h = cc

-- what is behind a virtual router's name is its name, or of the rest
pub beside_router : (v : Vrf) (ks : List ThingName) (k : ThingName) → IsIn k (with_router v ks) → IsIn k (with_router v []) ⊎ IsIn k ks
beside_router vrf.Default ks k h = inr h
beside_router (vrf.Named n) ks k (inl is) = inl (inl is)
beside_router (vrf.Named n) ks k (inr h) = inr h

hop_step : (plan : Ports) (x : RowHop × ℕ) (xs : List (RowHop × ℕ)) (a : List WHop) (b hop : WHop) → hop_of plan x.0 ≡ Some b.hop → (IsIn hop a → (h : RowHop × ℕ) × IsIn h xs × (hop_of plan h.0 ≡ Some hop.hop)) → (hop.hop ≡ b.hop) ⊎ IsIn hop a → (h : RowHop × ℕ) × IsIn h (x ∷ xs) × (hop_of plan h.0 ≡ Some hop.hop)
hop_step plan x xs a b hop q rest (inl is) = (x, inl refl, q ∙ ap Some (sym is))
hop_step plan x xs a b hop q rest (inr more) = let found = rest more in (found.0, inr found.1, found.2)

-- a hop of the chip, whatever its weight, is one of the row's
pub hop_from : (plan : Ports) (hops : List (RowHop × ℕ)) (group : List WHop) (hop : WHop) → hops_of plan hops ≡ Some group → IsIn hop group → (h : RowHop × ℕ) × IsIn h hops × (hop_of plan h.0 ≡ Some hop.hop)
hop_from plan [] group hop e h = let is : group ≡ [] = cc in elim (subst (IsIn hop) is h) [ ]
hop_from plan (x ∷ xs) group hop e h =
    let parts = both_mapped put_hop (hops_of plan xs) (whop_of plan x) group e in
    let weighed = mapped (λ z. record { hop = z; weight = x.1 }) (hop_of plan x.0) parts.1 parts.3 in
    hop_step plan x xs parts.0 parts.1 hop (weighed.1 ∙ ap (λ (z : WHop). Some z.hop) weighed.2) (hop_from plan xs parts.0 hop parts.2) (put-back parts.1 hop parts.0 (subst (IsIn hop) (sym parts.4) h))

module _ (plan : Ports) (is : IsPlan plan) where
  -- the owner of a name is not a row, or a row that is named, or the row itself
  abbrev IsNamed : Key → Row → ThingName → Type 0
  IsNamed q r k = (p : Key) → owner_of plan k ≡ Some (owner.OfRow p) → IsIn p (names_of q r) ⊎ (p ≡ q)

  abbrev AreNamed : Key → Row → Thing → Type 0
  AreNamed q r t = (k : ThingName) → Refers t k → IsNamed q r k

  by_owner : (q : Key) (r : Row) (k : ThingName) (p : Key) → owner_of plan k ≡ Some (owner.OfRow p) → IsIn p (names_of q r) → IsNamed q r k
  by_owner q r k p owns h other e = inl (subst (λ z. IsIn z (names_of q r)) (owners p other (sym owns ∙ e)) h)

  base_owner : (n : IfName) (b : Base) (v : Vrf) → base_of plan n ≡ Some b → IsNamed (key.Intf n) (row.Intf v) (base_name b)
  base_owner (on.Ethernet p) b v h =
      let m = mapped base.Port (lane_of plan p) b h in
      subst (λ z. IsNamed (key.Intf (on.Ethernet p)) (row.Intf v) (base_name z)) m.2
      (by_owner (key.Intf (on.Ethernet p)) (row.Intf v) (name.Port m.0) (key.Port p) (ap (option_map (λ x. owner.OfRow (key.Port x))) (port_by plan is p m.0 m.1)) (inl refl))
  base_owner (on.Vlan n) b v h =
      let same : base.Vlan n ≡ b = cc in
      subst (λ z. IsNamed (key.Intf (on.Vlan n)) (row.Intf v) (base_name z)) same (by_owner (key.Intf (on.Vlan n)) (row.Intf v) (name.Vlan n) (key.Vlan n) refl (inl refl))
  base_owner (on.Loopback n) b v h = absurd cc

  rif_owner : (n : IfName) (b : Base) → base_of plan n ≡ Some b → owner_of plan (name.Rif b) ≡ Some (owner.OfRow (key.Intf n))
  rif_owner n b h = ap (option_map (λ m. owner.OfRow (key.Intf m))) (interface_by plan is n b h)

  hop_owner : (n : IfName) (ip : Ip) (b : Base) → base_of plan n ≡ Some b → owner_of plan (name.NextHop (record { on = b; ip = ip })) ≡ Some (owner.OfRow (key.Neigh n ip))
  hop_owner n ip b h = ap (option_map (λ m. owner.OfRow (key.Neigh m ip))) (interface_by plan is n b h)

  member_refers : (v p lane : ℕ) (r : Row) (tagging : Tagging) → AreNamed (key.Member v p) r (thing.VlanMember v lane tagging)
  member_refers v p lane r tagging k e = two (IsNamed (key.Member v p) r) k (name.Vlan v) (name.BridgePort lane) (by_owner (key.Member v p) r (name.Vlan v) (key.Vlan v) refl (inl refl)) (λ o h. absurd cc) e

  neighbor_refers : (n : IfName) (ip : Ip) (b : Base) (r : Row) (mac : Mac) → base_of plan n ≡ Some b → AreNamed (key.Neigh n ip) r (thing.Neighbor (record { on = b; ip = ip }) mac)
  neighbor_refers n ip b r mac h k e = only (IsNamed (key.Neigh n ip) r) k (name.Rif b) (by_owner (key.Neigh n ip) r (name.Rif b) (key.Intf n) (rif_owner n b h) (inl refl)) e

  next_hop_refers : (n : IfName) (ip : Ip) (b : Base) (r : Row) → base_of plan n ≡ Some b → AreNamed (key.Neigh n ip) r (thing.NextHop (record { on = b; ip = ip }))
  next_hop_refers n ip b r h k e =
      two (IsNamed (key.Neigh n ip) r) k (name.Rif b) (name.Neighbor (record { on = b; ip = ip }))
      (by_owner (key.Neigh n ip) r (name.Rif b) (key.Intf n) (rif_owner n b h) (inl refl))
      (λ o g. inr (sym (owners (key.Neigh n ip) o (sym (hop_owner n ip b h) ∙ g)))) e

  -- what a goal refers to
  abbrev GoalIsNamed : Vrf → Prefix → RouteRow → Goal → Type 0
  GoalIsNamed v prefix r g = (k : ThingName) → IsIn k (goal_names g) → IsNamed (key.Route v prefix) (row.Route r) k

  via_by : (v : Vrf) (prefix : Prefix) (hops : List (RowHop × ℕ)) (o : Option (List WHop)) (g : Goal) → hops_of plan hops ≡ o → goal_to o ≡ Some g → GoalIsNamed v prefix (route.Hops hops) g
  via_by v prefix hops None g at e = λ k h. absurd cc
  via_by v prefix hops (Some []) g at e = λ k h. absurd cc
  via_by v prefix hops (Some (hop ∷ [])) g at e =
      let from_row = hop_from plan hops (hop ∷ []) hop at (inl refl) in
      let m = mapped (λ b. record { on = b; ip = from_row.0.0.ip }) (base_of plan from_row.0.0.on) hop.hop from_row.2 in
      let here = in-right _ (router_names v) _ (in_map (λ (h : RowHop × ℕ). key.Neigh h.0.on h.0.ip) from_row.0 hops from_row.1) in
      let named = by_owner (key.Route v prefix) (row.Route (route.Hops hops)) (name.NextHop (record { on = m.0; ip = from_row.0.0.ip })) (key.Neigh from_row.0.0.on from_row.0.0.ip) (hop_owner from_row.0.0.on from_row.0.0.ip m.0 m.1) here in
      subst (GoalIsNamed v prefix (route.Hops hops)) (same_Some _ g e)
      (λ k h. only (IsNamed (key.Route v prefix) (row.Route (route.Hops hops))) k (name.NextHop hop.hop) (subst (λ z. IsNamed (key.Route v prefix) (row.Route (route.Hops hops)) (name.NextHop z)) m.2 named) h)
  via_by v prefix hops (Some (hop ∷ next ∷ more)) g at e =
      subst (GoalIsNamed v prefix (route.Hops hops)) (same_Some _ g e)
      (λ k h. only (IsNamed (key.Route v prefix) (row.Route (route.Hops hops))) k (name.Group (hop ∷ next ∷ more)) (λ o q. absurd cc) h)

  route_refers : (v : Vrf) (prefix : Prefix) (r : RouteRow) (g : Goal) → goal_of plan r ≡ Some g → GoalIsNamed v prefix r g
  route_refers v prefix route.Drop g e = subst (GoalIsNamed v prefix route.Drop) (same_Some goal.Drop g e) (λ k h. elim h [ ])
  route_refers v prefix (route.Direct n) g e =
      let m = mapped goal.Direct (base_of plan n) g e in
      subst (GoalIsNamed v prefix (route.Direct n)) m.2
      (λ k h. only (IsNamed (key.Route v prefix) (row.Route (route.Direct n))) k (name.Rif m.0) (by_owner (key.Route v prefix) (row.Route (route.Direct n)) (name.Rif m.0) (key.Intf n) (rif_owner n m.0 m.1) (in-right _ (router_names v) _ (inl refl))) h)
  route_refers v prefix (route.Hops hops) g e = via_by v prefix hops (hops_of plan hops) g refl e

  -- a named virtual router is its row's
  router_owner : (q : Key) (r : Row) (v : Vrf) → ((p : Key) → IsIn p (router_names v) → IsIn p (names_of q r)) → (k : ThingName) → IsIn k (with_router v []) → IsNamed q r k
  router_owner q r vrf.Default f k h = elim h [ ]
  router_owner q r (vrf.Named n) f k h = only (IsNamed q r) k (name.VirtualRouter n) (by_owner q r (name.VirtualRouter n) (key.Vrf n) refl (f (key.Vrf n) (inl refl))) h

  route_thing_refers : (v : Vrf) (prefix : Prefix) (r : RouteRow) (g : Goal) → goal_of plan r ≡ Some g → AreNamed (key.Route v prefix) (row.Route r) (thing.Route v prefix g)
  route_thing_refers v prefix r g e k h = by (beside_router v (goal_names g) k h)
    where
      by : IsIn k (with_router v []) ⊎ IsIn k (goal_names g) → IsNamed (key.Route v prefix) (row.Route r) k
      by (inl i) = router_owner (key.Route v prefix) (row.Route r) v (λ p j. in-left p (router_names v) _ j) k i
      by (inr i) = route_refers v prefix r g e k i

  intf_refers : (n : IfName) (v : Vrf) (b : Base) → base_of plan n ≡ Some b → AreNamed (key.Intf n) (row.Intf v) (thing.Rif b v)
  intf_refers n v b e k h = by (beside_router v (base_name b ∷ []) k h)
    where
      by : IsIn k (with_router v []) ⊎ IsIn k (base_name b ∷ []) → IsNamed (key.Intf n) (row.Intf v) k
      by (inl i) = router_owner (key.Intf n) (row.Intf v) v (λ p j. in-right p (base_names n) (router_names v) j) k i
      by (inr i) = only (IsNamed (key.Intf n) (row.Intf v)) k (base_name b) (base_owner n b v e) i

  -- what a thing of a row refers to belongs to a row that it names, to the row itself, or to no row
  pub refers-named : (q : Key) (r : Row) (t : Thing) → IsIn t (own_things plan q r) → AreNamed q r t
  refers-named (key.Port p) (row.Port r) t h = only (AreNamed (key.Port p) (row.Port r)) t _ (λ k e. elim e [ ]) (from_in (lane_of plan p) _ t h).2
  refers-named (key.Vlan v) row.Vlan t h = only (AreNamed (key.Vlan v) row.Vlan) t (thing.Vlan v) (λ k e. elim e [ ]) h
  refers-named (key.Vrf label) row.Vrf t h = only (AreNamed (key.Vrf label) row.Vrf) t (thing.VirtualRouter label) (λ k e. elim e [ ]) h
  refers-named (key.Member v p) (row.Member tagging) t h = let m = from_in (lane_of plan p) _ t h in only (AreNamed (key.Member v p) (row.Member tagging)) t _ (member_refers v p m.0 (row.Member tagging) tagging) m.2
  refers-named (key.Intf n) (row.Intf v) t h = let m = from_in (base_of plan n) _ t h in only (AreNamed (key.Intf n) (row.Intf v)) t _ (intf_refers n v m.0 m.1) m.2
  refers-named (key.Neigh n ip) (row.Neigh mac) t h = let m = from_in (base_of plan n) _ t h in two (AreNamed (key.Neigh n ip) (row.Neigh mac)) t _ _ (neighbor_refers n ip m.0 (row.Neigh mac) mac m.1) (next_hop_refers n ip m.0 (row.Neigh mac) m.1) m.2
  refers-named (key.Route v prefix) (row.Route r) t h = let m = from_in (goal_of plan r) _ t h in only (AreNamed (key.Route v prefix) (row.Route r)) t _ (route_thing_refers v prefix r m.0 m.1) m.2
  refers-named _ _ t h = elim h [ ]
