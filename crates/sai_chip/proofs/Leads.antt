-- in a state whose references stand, each route leads somewhere
use Rattle.std.proofs.Common.{◌≡◌, true, false, cond, List, [], ◌∷◌, Option, None, Some, option_map, refl}
use Rattle.std.specs.List.{AllByRecursion, list_all}
use Rattle.std.specs.Option.{is_some}
use Rattle.std.proofs.lemmas.Bool.{and_parts}
use Rattle.sai_types.specs.declared.ids.Rid.{Rid}
use Rattle.sai_types.specs.declared.weight.WHop.{WHop}
use Rattle.sai_types.specs.declared.kind.Kind.TheVariants as kind
use Rattle.sai_types.specs.declared.body.Body.{Body}
use Rattle.sai_types.specs.declared.body.Body.TheVariants as body
use Rattle.sai_types.specs.declared.body.Entry.TheVariants as entry
use Rattle.sai_types.specs.declared.body.RifOn.{RifOn}
use Rattle.sai_types.specs.declared.body.RifOn.TheVariants as on
use Rattle.sai_types.specs.declared.body.To.{To}
use Rattle.sai_types.specs.declared.body.To.TheVariants as to
use Rattle.sai_types.specs.Hop.{put_hop}
use Rattle.sai_types.specs.Made.{AreSorted, ReferWell}
use Rattle.sai_types.specs.Named.{base_on, body_port, body_vlan, both, goal_by, hops_among, hops_at, next_hop_at, next_hop_of, port_at, rif_at, rif_of, vlan_at, whop_at, with_member}
use Rattle.sai_types.specs.Objects.{Objects, body_at, entry_cmp, is_kind_of}
use Rattle.sai_types.specs.References.{Reference, base_reference, beside_router, refers_well, stands, target_references}
use Rattle.sai_types.specs.Refusal.{same_id}
use Rattle.sai_types.proofs.Entries.{entry_total}
use Rattle.sai_chip.specs.Bodies.{RouteKey}
use Rattle.sai_chip.proofs.BestRoutes.{all_found}

port_by : (o : Option (Body Rid)) → is_kind_of kind.Port o ≡ true → is_some (body_port o) ≡ true
port_by None h = absurd cc
port_by (Some (body.Port lanes speed mtu up)) h = refl
port_by (Some b) h = absurd cc

vlan_by : (o : Option (Body Rid)) → is_kind_of kind.Vlan o ≡ true → is_some (body_vlan o) ≡ true
vlan_by None h = absurd cc
vlan_by (Some (body.Vlan vlan)) h = refl
vlan_by (Some b) h = absurd cc

some_mapped : {A B : Type 0} (f : A → B) (o : Option A) → is_some o ≡ true → is_some (option_map f o) ≡ true
some_mapped f None h = absurd cc
some_mapped f (Some x) h = refl

some_both : {A B C : Type 0} (f : A → B → C) (x : Option A) (y : Option B) → is_some x ≡ true → is_some y ≡ true → is_some (both f x y) ≡ true
some_both f None y h k = absurd cc
some_both f (Some x) None h k = absurd cc
some_both f (Some x) (Some y) h k = refl

-- the first reference of several that stand, behind a router or not
past_router : (objects : Objects) (vr : Option Rid) (r : Reference Rid) (rs : List (Reference Rid)) → list_all (stands objects) (beside_router vr (r ∷ rs)) ≡ true → stands objects r ≡ true
past_router objects None r rs h = (and_parts (stands objects r) (list_all (stands objects) rs) h).0
past_router objects (Some v) r rs h = (and_parts (stands objects r) (list_all (stands objects) rs) (and_parts (stands objects (kind.VirtualRouter, entry.Oid v)) (list_all (stands objects) (r ∷ rs)) h).1).0

module _ (objects : Objects) (h : ReferWell objects) where
  base_there : (o : RifOn Rid) → stands objects (base_reference o) ≡ true → is_some (base_on objects o) ≡ true
  base_there (on.Port p) e = some_mapped _ (port_at objects p) (port_by (body_at objects (entry.Oid p)) e)
  base_there (on.Vlan v) e = some_mapped _ (vlan_at objects v) (vlan_by (body_at objects (entry.Oid v)) e)

  rif_by : (r : Rid) (o : Option (Body Rid)) → body_at objects (entry.Oid r) ≡ o → is_kind_of kind.Rif o ≡ true → is_some (rif_of objects o) ≡ true
  rif_by r None is e = absurd cc
  rif_by r (Some (body.Rif vr on)) is e = base_there on (past_router objects vr (base_reference on) [] (h.each (entry.Oid r) (body.Rif vr on) is))
  rif_by r (Some b) is e = absurd cc

  rif_there : (r : Rid) → stands objects (kind.Rif, entry.Oid r) ≡ true → is_some (rif_at objects r) ≡ true
  rif_there r e = rif_by r (body_at objects (entry.Oid r)) refl e

  next_hop_by : (r : Rid) (o : Option (Body Rid)) → body_at objects (entry.Oid r) ≡ o → is_kind_of kind.NextHop o ≡ true → is_some (next_hop_of objects o) ≡ true
  next_hop_by r None is e = absurd cc
  next_hop_by r (Some (body.NextHop rif ip)) is e = some_mapped _ (rif_at objects rif) (rif_there rif (past_router objects None (kind.Rif, entry.Oid rif) ((kind.Neighbor, entry.Neigh rif ip) ∷ []) (h.each (entry.Oid r) (body.NextHop rif ip) is)))
  next_hop_by r (Some b) is e = absurd cc

  next_hop_there : (r : Rid) → stands objects (kind.NextHop, entry.Oid r) ≡ true → is_some (next_hop_at objects r) ≡ true
  next_hop_there r e = next_hop_by r (body_at objects (entry.Oid r)) refl e

  -- what a group's members add
  member_there : (g : Rid) (b : Body Rid) (others : Option (List WHop)) → refers_well objects b ≡ true → is_some others ≡ true → is_some (with_member objects g b others) ≡ true
  member_there g (body.GroupMember group next_hop weight) others well some =
      let hop = and_parts (stands objects (kind.Group, entry.Oid group)) (list_all (stands objects) ((kind.NextHop, entry.Oid next_hop) ∷ [])) well in
      let there = next_hop_there next_hop (and_parts (stands objects (kind.NextHop, entry.Oid next_hop)) true hop.1).0 in
      elim (same_id group g) as (λ t. is_some (cond t (both put_hop others (whop_at objects next_hop weight)) others) ≡ true) [
        | true ↦ some_both put_hop others (whop_at objects next_hop weight) some (some_mapped _ (next_hop_at objects next_hop) there)
        | false ↦ some
      ]
  member_there g b others well some = some

  hops_there : (g : Rid) (os : Objects) → AllByRecursion (λ o. refers_well objects o.1 ≡ true) os → is_some (hops_among objects g os) ≡ true
  hops_there g [] all = refl
  hops_there g (o ∷ os) all = member_there g o.1 (hops_among objects g os) all.0 (hops_there g os all.1)

  all_well : (os : Objects) → AllByRecursion (λ o. body_at objects o.0 ≡ Some o.1) os → AllByRecursion (λ o. refers_well objects o.1 ≡ true) os
  all_well [] all = tt
  all_well (o ∷ os) all = (h.each o.0 o.1 all.0, all_well os all.1)

  goal_there : AreSorted objects → (t : To Rid) → list_all (stands objects) (target_references t) ≡ true → is_some (goal_by (hops_at objects) objects t) ≡ true
  goal_there sorted to.Drop e = refl
  goal_there sorted (to.Rif r) e = some_mapped _ (rif_at objects r) (rif_there r (and_parts (stands objects (kind.Rif, entry.Oid r)) true e).0)
  goal_there sorted (to.NextHop n) e = some_mapped _ (next_hop_at objects n) (next_hop_there n (and_parts (stands objects (kind.NextHop, entry.Oid n)) true e).0)
  goal_there sorted (to.Group g) e = some_mapped _ (hops_at objects g) (hops_there g objects (all_well objects (all_found entry_cmp entry_total objects sorted)))

  past_all : (vr : Option Rid) (rs : List (Reference Rid)) → list_all (stands objects) (beside_router vr rs) ≡ true → list_all (stands objects) rs ≡ true
  past_all None rs e = e
  past_all (Some v) rs e = (and_parts (stands objects (kind.VirtualRouter, entry.Oid v)) (list_all (stands objects) rs) e).1

  pub routes_lead : AreSorted objects → (routes : List (RouteKey × To Rid)) → AllByRecursion (λ e. body_at objects (entry.Route e.0.0 e.0.1) ≡ Some (body.Route e.0.0 e.0.1 e.1)) routes → AllByRecursion (λ e. is_some (goal_by (hops_at objects) objects e.1) ≡ true) routes
  routes_lead sorted [] all = tt
  routes_lead sorted (e ∷ es) all = (goal_there sorted e.1 (past_all e.0.0 (target_references e.1) (h.each (entry.Route e.0.0 e.0.1) (body.Route e.0.0 e.0.1 e.1) all.0)), routes_lead sorted es all.1)
