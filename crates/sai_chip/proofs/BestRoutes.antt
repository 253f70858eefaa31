-- the best of several routes, found by its key
use Rattle.std.proofs.Common.{◌≡◌, ◌&&◌, nat_lt, Bool, true, false, cond, List, [], ◌∷◌, Option, None, Some, Ordering, option_map, refl, sym, ap, ◌∙◌, subst}
use Rattle.std.specs.BTreeMap.{is_at}
use Rattle.std.specs.List.{AllByRecursion}
use Rattle.std.specs.List.Sorted.{IsStrictlySortedBy}
use Rattle.std.specs.Map.{keys_of, lookup}
use Rattle.std.specs.Option.{is_some, option_and_then}
use Rattle.std.specs.Cmp.{IsTotalOrder}
use Rattle.std.specs.Ordering.{is_eq, ordering_reverse}
use Rattle.std.specs.declared.cmp.Ordering.TheVariants.{Less, Equal, Greater}
use Rattle.std.proofs.lemmas.Map.Keys.{sorted_head, sorted_tail}
use Rattle.swss_types.specs.Address.{covers}
use Rattle.swss_types.specs.declared.address.Prefix.{Prefix}
use Rattle.swss_types.specs.declared.vrf.Packet.{Packet}
use Rattle.swss_types.specs.declared.vrf.Vrf.{Vrf}
use Rattle.sai_types.specs.declared.ids.Rid.{Rid}
use Rattle.sai_types.specs.declared.body.To.{To}
use Rattle.sai_types.specs.declared.thing.Goal.{Goal}
use Rattle.sai_types.specs.Forwarding.{longer}
use Rattle.sai_types.specs.Named.{goal_by, hops_at, router_at}
use Rattle.sai_types.specs.Objects.{Objects}
use Rattle.sai_chip.specs.Bodies.{RouteKey, best_of, is_router, route_cmp}
use Rattle.sai_chip.specs.Forward.{with_goal}
use Rattle.sai_chip.specs.Tables.{best_key, covering, longer_key}
use Rattle.sai_chip.proofs.Keyed.{route_total}
use Rattle.sai_chip.proofs.Sending.{best_of-cons}

abbrev pub Route : Type 0
Route = RouteKey × To Rid

self_equal : (o : Ordering) → o ≡ ordering_reverse o → is_eq o ≡ true
self_equal Less e = absurd cc
self_equal Equal e = refl
self_equal Greater e = absurd cc

-- each entry is found by its key
module _ {K X : Type 0} (cmp : K → K → Ordering) (total : IsTotalOrder cmp) where
  found_past : (e : K × X) (es fs : List (K × X)) → AllByRecursion (λ k. cmp e.0 k ≡ Less) (keys_of fs) → AllByRecursion (λ c. lookup (is_at (cmp c.0)) es ≡ Some c.1) fs → AllByRecursion (λ c. lookup (is_at (cmp c.0)) (e ∷ es) ≡ Some c.1) fs
  found_past e es [] less h = tt
  found_past e es (c ∷ fs) less h = (ap (λ o. cond (is_eq o) (Some e.1) (lookup (is_at (cmp c.0)) es)) (total.antisymm c.0 e.0 ∙ ap ordering_reverse less.0) ∙ h.0, found_past e es fs less.1 h.1)

  pub all_found : (es : List (K × X)) → IsStrictlySortedBy cmp (keys_of es) → AllByRecursion (λ c. lookup (is_at (cmp c.0)) es ≡ Some c.1) es
  all_found [] sorted = tt
  all_found (e ∷ es) sorted = (ap (λ b. cond b (Some e.1) (lookup (is_at (cmp e.0)) es)) (self_equal (cmp e.0 e.0) (total.antisymm e.0 e.0)), found_past e es es (sorted_head cmp e.0 (keys_of es) sorted) (all_found es (sorted_tail cmp e.0 (keys_of es) sorted)))

-- the same among routes as among their keys
abbrev longer_route : Option Route → Option Route → Option Route
longer_route None b = b
longer_route (Some a) None = Some a
longer_route (Some a) (Some b) = cond (nat_lt a.0.1.len b.0.1.len) (Some b) (Some a)

module _ (objects : Objects) (a : Packet) where
  abbrev fits : RouteKey → Bool
  fits k = is_router a.vrf (router_at objects k.0) && covers k.1 a.to

  abbrev best_entry : List Route → Option Route
  best_entry [] = None
  best_entry (e ∷ es) = longer_route (cond (fits e.0) (Some e) None) (best_entry es)

  abbrev goal_of : Route → Option Goal
  goal_of e = goal_by (hops_at objects) objects e.1

  -- each of the routes leads somewhere
  abbrev pub HaveGoals : List Route → Type 0
  HaveGoals es = AllByRecursion (λ e. is_some (goal_of e) ≡ true) es

  key_longer : (x y : Option Route) → option_map (λ e. e.0) (longer_route x y) ≡ longer_key (option_map (λ e. e.0) x) (option_map (λ e. e.0) y)
  key_longer None y = refl
  key_longer (Some x) None = refl
  key_longer (Some x) (Some y) = elim (nat_lt x.0.1.len y.0.1.len) as (λ t. option_map (λ e. e.0) (cond t (Some y) (Some x)) ≡ cond t (Some y.0) (Some x.0)) [ true ↦ refl | false ↦ refl ]

  key_covering : (e : Route) → option_map (λ e. e.0) (cond (fits e.0) (Some e) None) ≡ covering objects a e.0
  key_covering e = elim (fits e.0) as (λ t. option_map (λ e. e.0) (cond t (Some e) None) ≡ cond t (Some e.0) None) [ true ↦ refl | false ↦ refl ]

  key_best : (es : List Route) → option_map (λ e. e.0) (best_entry es) ≡ best_key objects a (keys_of es)
  key_best [] = refl
  key_best (e ∷ es) = key_longer (cond (fits e.0) (Some e) None) (best_entry es) ∙ ap (λ x. longer_key x (option_map (λ e. e.0) (best_entry es))) (key_covering e) ∙ ap (longer_key (covering objects a e.0)) (key_best es)

  -- a route with its goal
  abbrev with_its_goal : Route → Option (Prefix × Goal)
  with_its_goal e = option_map (λ g. (e.0.1, g)) (goal_of e)

  among_longer : (P : Route → Type 0) (e c : Route) (o : Option Route) → P e → ((d : Route) → o ≡ Some d → P d) → longer_route (Some e) o ≡ Some c → P c
  among_longer P e c None h k is = let same : e ≡ c = cc in subst P same h
  among_longer P e c (Some d) h k is =
      elim (nat_lt e.0.1.len d.0.1.len) as (λ t. cond t (Some d) (Some e) ≡ Some c → P c) [
        | true ↦ λ is. let same : d ≡ c = cc in subst P same (k d refl)
        | false ↦ λ is. let same : e ≡ c = cc in subst P same h
      ] is

  -- the best is one of them
  among : (P : Route → Type 0) (es : List Route) (c : Route) → AllByRecursion P es → best_entry es ≡ Some c → P c
  among P [] c h is = absurd cc
  among P (e ∷ es) c h is =
      elim (fits e.0) as (λ t. longer_route (cond t (Some e) None) (best_entry es) ≡ Some c → P c) [
        | true ↦ λ is. among_longer P e c (best_entry es) h.0 (λ d k. among P es d h.1 k) is
        | false ↦ λ is. among P es c h.1 is
      ] is

  goal_some : (o : Option Goal) → is_some o ≡ true → (g : Goal) × (o ≡ Some g)
  goal_some None h = absurd cc
  goal_some (Some g) h = (g, refl)

  with_fits : (p : Prefix) (v : Option Vrf) (g : Goal) (r : Option (Prefix × Goal)) → with_goal a p v (Some g) r ≡ cond (is_router a.vrf v && covers p a.to) (longer p g r) r
  with_fits p None g r = refl
  with_fits p (Some v) g r = refl

  longer_goal : (e : Route) (g : Goal) (o : Option Route) → goal_of e ≡ Some g → ((c : Route) → o ≡ Some c → is_some (goal_of c) ≡ true) → longer e.0.1 g (option_and_then with_its_goal o) ≡ option_and_then with_its_goal (longer_route (Some e) o)
  longer_goal e g None is have = sym (ap (option_map (λ g. (e.0.1, g))) is)
  longer_goal e g (Some c) is have =
      let other = goal_some (goal_of c) (have c refl) in
      ap (λ x. longer e.0.1 g (option_map (λ g. (c.0.1, g)) x)) other.1
      ∙ elim (nat_lt e.0.1.len c.0.1.len) as (λ t. cond t (Some (c.0.1, other.0)) (Some (e.0.1, g)) ≡ option_and_then with_its_goal (cond t (Some c) (Some e))) [
        | true ↦ sym (ap (option_map (λ g. (c.0.1, g))) other.1)
        | false ↦ sym (ap (option_map (λ g. (e.0.1, g))) is)
      ]

  goals_best : (es : List Route) → HaveGoals es → best_of objects es a ≡ option_and_then with_its_goal (best_entry es)
  goals_best [] h = refl
  goals_best (e ∷ es) h =
      let own = goal_some (goal_of e) h.0 in
      best_of-cons objects a e es
      ∙ ap (λ x. with_goal a e.0.1 (router_at objects e.0.0) x (best_of objects es a)) own.1
      ∙ with_fits e.0.1 (router_at objects e.0.0) own.0 (best_of objects es a)
      ∙ ap (λ r. cond (fits e.0) (longer e.0.1 own.0 r) r) (goals_best es h.1)
      ∙ elim (fits e.0) as (λ t. cond t (longer e.0.1 own.0 (option_and_then with_its_goal (best_entry es))) (option_and_then with_its_goal (best_entry es)) ≡ option_and_then with_its_goal (longer_route (cond t (Some e) None) (best_entry es))) [
        | true ↦ longer_goal e own.0 (best_entry es) own.1 (λ c k. among (λ e. is_some (goal_of e) ≡ true) es c h.1 k)
        | false ↦ refl
      ]

  only_goal : (p : Prefix) (o : Option Goal) → option_map (λ (r : Prefix × Goal). r.1) (option_map {U = Prefix × Goal} (λ g. (p, g)) o) ≡ o
  only_goal p None = refl
  only_goal p (Some g) = refl

  -- where the best route leads, it is the one at the best key
  pub best_leads : (routes : List Route) → IsStrictlySortedBy route_cmp (keys_of routes) → HaveGoals routes → option_map (λ (r : Prefix × Goal). r.1) (best_of objects routes a) ≡ option_and_then (goal_by (hops_at objects) objects) (option_and_then (λ k. lookup (is_at (route_cmp k)) routes) (best_key objects a (keys_of routes)))
  best_leads routes sorted have =
      ap (option_map (λ (r : Prefix × Goal). r.1)) (goals_best routes have)
      ∙ elim (best_entry routes) as (λ o. best_entry routes ≡ o → option_map (λ (r : Prefix × Goal). r.1) (option_and_then with_its_goal o) ≡ option_and_then (goal_by (hops_at objects) objects) (option_and_then (λ k. lookup (is_at (route_cmp k)) routes) (option_map (λ e. e.0) o))) [
        | None ↦ λ is. refl
        | Some c ↦ λ is. only_goal c.0.1 (goal_of c) ∙ ap (option_and_then (goal_by (hops_at objects) objects)) (sym (among (λ c. lookup (is_at (route_cmp c.0)) routes ≡ Some c.1) routes c (all_found route_cmp route_total routes sorted) is))
      ] refl
      ∙ ap (λ k. option_and_then (goal_by (hops_at objects) objects) (option_and_then (λ k. lookup (is_at (route_cmp k)) routes) k)) (key_best routes)
