-- where a route's row points, and what it shares
use Rattle.std.proofs.Common.{◌≡◌, inl, inr, ℕ, List, [], ◌∷◌, Option, Some, None, option_map, refl, sym, ap, subst, ◌∙◌}
use Rattle.std.proofs.lemmas.Option.{none-some, same_Some}
use Rattle.swss_types.specs.declared.address.Prefix.{Prefix}
use Rattle.swss_types.specs.declared.vrf.Vrf.{Vrf}
use Rattle.swss_types.proofs.Proper.{mapped}
use Rattle.table_schema.specs.Plan.{IsPlan, Ports}
use Rattle.table_schema.specs.declared.key.Key.TheVariants as key
use Rattle.switch_model.specs.Placed as row
use Rattle.table_schema.specs.declared.row.RouteRow.{RouteRow}
use Rattle.table_schema.specs.declared.row.RouteRow.TheVariants as route
use Rattle.table_schema.specs.declared.row_hop.RowHop.{RowHop}
use Rattle.sai_types.specs.Alike.{IsIn}
use Rattle.sai_types.specs.Named.{both, put_hop}
use Rattle.sai_types.specs.declared.hop.Hop.{Hop}
use Rattle.sai_types.specs.declared.weight.WHop.{WHop}
use Rattle.sai_types.specs.declared.ids.Vid.{Vid}
use Rattle.sai_types.specs.declared.body.To.{To}
use Rattle.sai_types.specs.declared.thing.Goal.{Goal}
use Rattle.sai_types.specs.declared.thing.Goal.TheVariants as goal
use Rattle.sai_types.specs.declared.thing.Thing.TheVariants as thing
use Rattle.sai_types.proofs.Weights.{put-hop}
use Rattle.chip_layout.specs.Bodies.{IsAt, goal_name, to_with}
use Rattle.switch_model.specs.Things.{base_of, hop_of, hops_of}
use Rattle.row_layout.specs.Rows.{Owner, Group, goal_to, goal_of, interface_on}
use Rattle.row_layout.specs.Shared.{group_by, route_uses}
use Rattle.row_layout.proofs.Owners.{interface_by}
use Rattle.ref_counts.specs.declared.name.Name.{Name}
use Rattle.ref_counts.specs.declared.name.Name.TheVariants as name
use Rattle.ref_counts.specs.Registry.{Names}
use Rattle.orch_flight.specs.Calling.{HasVid, row_vid}
use Rattle.orch_flight.specs.Sharing.{owners_of}
use Rattle.route_orch.specs.Targets.{AreGroups, IsTargetOf, IsToFirst, PointsTo, goal_at, goal_with, way_goal, row_way, way_on}
use Rattle.route_orch.specs.declared.target.Target.{Target}
use Rattle.route_orch.specs.declared.target.Way.{Way}
use Rattle.route_orch.specs.declared.target.Way.TheVariants as way

-- what a goal shares
abbrev pub goal_uses : Goal → List Owner
goal_uses (goal.Group hops) = Group hops ∷ []
goal_uses _ = []

single : (l : List WHop) (x hop : WHop) → Some l ≡ Some (hop ∷ []) → IsIn x l → x ≡ hop
single l x hop is h = by (subst (IsIn x) (same_Some l (hop ∷ []) is) h)
  where
    by : IsIn x (hop ∷ []) → x ≡ hop
    by (inl same) = same
    by (inr h) = elim h [ ]

-- where the hops of a row are one hop, the first is that, whatever their weights
first_hop_by : (o : Option (List WHop)) (p : Option Hop) (weight : ℕ) (hop : WHop) → both put_hop o (option_map (λ h. record { hop = h; weight = weight }) p) ≡ Some (hop ∷ []) → p ≡ Some hop.hop
first_hop_by None p weight hop h = absurd (none-some (hop ∷ []) h)
first_hop_by (Some l) None weight hop h = absurd (none-some (hop ∷ []) h)
first_hop_by (Some l) (Some k) weight hop h =
    let x : WHop = record { hop = k; weight = weight } in
    let (y, there, same) = put-hop x l in
    ap Some (sym same ∙ ap (λ (z : WHop). z.hop) (single (put_hop l x) y hop h there))

hops_use : (o : Option (List WHop)) (g : Goal) → goal_to o ≡ Some g → group_by o ≡ goal_uses g
hops_use None g e = absurd (none-some g e)
hops_use (Some []) g e = absurd (none-some g e)
hops_use (Some (hop ∷ [])) g e = ap goal_uses (same_Some (goal.Via hop.hop) g e)
hops_use (Some (hop ∷ more ∷ hops)) g e = ap goal_uses (same_Some (goal.Group (hop ∷ more ∷ hops)) g e)

-- a row shares what its goal does
pub uses-goal : (plan : Ports) (r : RouteRow) (g : Goal) → goal_of plan r ≡ Some g → route_uses plan r ≡ goal_uses g
uses-goal plan route.Drop g e = ap goal_uses (same_Some goal.Drop g e)
uses-goal plan (route.Direct n) g e = let m = mapped goal.Direct (base_of plan n) g e in ap goal_uses m.2
uses-goal plan (route.Hops hops) g e = hops_use (hops_of plan hops) g e

goal_kept : (group : Option Name) (w : Way) (g : Goal) → goal_uses g ≡ owners_of group → AreGroups group → (group ≡ None → way_goal w ≡ g) → goal_with group w ≡ g
goal_kept None w g uses groups own = own refl
goal_kept (Some (name.Group hops)) w (goal.Group others) uses groups own = cc
goal_kept (Some (name.Group hops)) w goal.Drop uses groups own = cc
goal_kept (Some (name.Group hops)) w (goal.Direct b) uses groups own = cc
goal_kept (Some (name.Group hops)) w (goal.Via hop) uses groups own = cc
goal_kept (Some (name.Row k)) w g uses groups own = elim groups [ ]
goal_kept (Some (name.BridgePort lane)) w g uses groups own = elim groups [ ]
goal_kept (Some (name.Own v ip)) w g uses groups own = elim groups [ ]

way_by : (plan : Ports) (h : RowHop × ℕ) (hs : List (RowHop × ℕ)) (o : Option (List WHop)) (g : Goal) → hops_of plan (h ∷ hs) ≡ o → goal_to o ≡ Some g → group_by o ≡ [] → way_goal (row_way plan (route.Hops (h ∷ hs))) ≡ g
way_by plan h hs None g at e none = absurd (none-some g e)
way_by plan h hs (Some []) g at e none = absurd (none-some g e)
way_by plan h hs (Some (hop ∷ [])) g at e none =
    let m = mapped (λ b. record { on = b; ip = h.0.ip }) (base_of plan h.0.on) hop.hop (first_hop_by (hops_of plan hs) (hop_of plan h.0) h.1 hop at) in
    ap (λ o. way_goal (way_on (λ b. way.Via (record { on = b; ip = h.0.ip })) o)) m.1 ∙ ap goal.Via m.2 ∙ same_Some (goal.Via hop.hop) g e
way_by plan h hs (Some (hop ∷ more ∷ hops)) g at e none = cc

way_of_goal : (plan : Ports) (r : RouteRow) (g : Goal) → goal_of plan r ≡ Some g → route_uses plan r ≡ [] → way_goal (row_way plan r) ≡ g
way_of_goal plan route.Drop g e none = same_Some goal.Drop g e
way_of_goal plan (route.Direct n) g e none = let m = mapped goal.Direct (base_of plan n) g e in ap (λ o. way_goal (way_on way.Direct o)) m.1 ∙ m.2
way_of_goal plan (route.Hops []) g e none = absurd (none-some g e)
way_of_goal plan (route.Hops (h ∷ hs)) g e none = way_by plan h hs (hops_of plan (h ∷ hs)) g refl e none

-- the target of a row is its goal
pub target-goal : (plan : Ports) (v : Vrf) (p : Prefix) (r : RouteRow) (t : Target) (g : Goal) → IsTargetOf plan (key.Route v p) (Some (row.Route r)) t → goal_of plan r ≡ Some g → goal_at t ≡ g
target-goal plan v p r t g is e =
    goal_kept t.group t.way g (sym (uses-goal plan r g e) ∙ is.shares) is.groups
    (λ none. ap way_goal (is.way r refl) ∙ way_of_goal plan r g e (is.shares ∙ ap owners_of none))

-- equal routes have equal goals
pub goal-same : (v : Vrf) (p : Prefix) (g h : Goal) → thing.Route v p g ≡ thing.Route v p h → g ≡ h
goal-same v p g h is = cc

-- ---- the target of a call

module _ (plan : Ports) (names : Names) (x : To Vid) (is : IsPlan plan) where
  abbrev IsTarget : Goal → Type 0
  IsTarget g = (i : Vid) × IsAt (HasVid plan names) (goal_name g) i × (x ≡ to_with g i)

  first_at : (hops : List (RowHop × ℕ)) (hop : WHop) → hops_of plan hops ≡ Some (hop ∷ []) → IsToFirst names hops x → IsTarget (goal.Via hop.hop)
  first_at [] hop at p = absurd cc
  first_at (h ∷ hs) hop at (v, known, same) =
      let m = mapped (λ b. record { on = b; ip = h.0.ip }) (base_of plan h.0.on) hop.hop (first_hop_by (hops_of plan hs) (hop_of plan h.0) h.1 hop at) in
      (v, subst (λ (z : Hop). row_vid names (option_map (λ on. key.Neigh on z.ip) (interface_on plan z.on)) ≡ Some v) m.2 (ap (λ o. row_vid names (option_map (λ on. key.Neigh on h.0.ip) o)) (interface_by plan is h.0.on m.0 m.1) ∙ known), same)

  hops_at : (hops : List (RowHop × ℕ)) (o : Option (List WHop)) (g : Goal) → hops_of plan hops ≡ o → goal_to o ≡ Some g → PointsTo names (route.Hops hops) g x → IsTarget g
  hops_at hops None g at e = absurd (none-some g e)
  hops_at hops (Some []) g at e = absurd (none-some g e)
  hops_at hops (Some (hop ∷ [])) g at e = subst (λ g. PointsTo names (route.Hops hops) g x → IsTarget g) (same_Some (goal.Via hop.hop) g e) (first_at hops hop at)
  hops_at hops (Some (hop ∷ more ∷ rest)) g at e = subst (λ g. PointsTo names (route.Hops hops) g x → IsTarget g) (same_Some (goal.Group (hop ∷ more ∷ rest)) g e) (λ p. p)

  -- what the registry tells under the names of the row is the target, over a plan in which the row has this goal
  pub to-at : (r : RouteRow) (g : Goal) → goal_of plan r ≡ Some g → PointsTo names r g x → IsTarget g
  to-at route.Drop g e = subst (λ g. PointsTo names route.Drop g x → IsTarget g) (same_Some goal.Drop g e) (λ p. (record { 0 = 0 }, tt, p))
  to-at (route.Direct n) g e =
      let m = mapped goal.Direct (base_of plan n) g e in
      subst (λ g. PointsTo names (route.Direct n) g x → IsTarget g) m.2 (λ p. (p.0, ap (λ o. row_vid names (option_map key.Intf o)) (interface_by plan is n m.0 m.1) ∙ p.1, p.2))
  to-at (route.Hops hops) g e = hops_at hops (hops_of plan hops) g refl e
