-- the groups that routes point at are whole while a hitless plan is made
use Rattle.std.proofs.Common.{◌≡◌, inl, inr, ◌-◌, ◌≤◌, ◌++◌, List, [], ◌∷◌, Some, refl, sym, ap, subst, arith}
use Rattle.swss_types.specs.declared.address.Prefix.{Prefix}
use Rattle.swss_types.specs.declared.vrf.Vrf.{Vrf}
use Rattle.sai_types.specs.declared.weight.WHop.{WHop}
use Rattle.sai_types.specs.declared.thing.Goal.{Goal}
use Rattle.sai_types.specs.declared.thing.Goal.TheVariants as goal
use Rattle.sai_types.specs.declared.thing.Thing.{Thing}
use Rattle.sai_types.specs.declared.thing.Thing.TheVariants as thing
use Rattle.sai_types.specs.Alike.{IsIn}
use Rattle.sai_types.specs.Hop.{AreRisingHops}
use Rattle.sai_types.specs.Names as name
use Rattle.sai_types.specs.Names.{ThingName, name_of}
use Rattle.chip_layout.proofs.Bodies.{beside}
use Rattle.plan_laws.specs.Plans.{PlanChange, Make, Remove, Set, stands_after_all, hitless_rank, make_place, outcome, set_place}
use Rattle.plan_laws.specs.Views.{HaveWholeGroups}
use Rattle.plan_laws.proofs.Allowed.{IsSafePlan}
use Rattle.plan_laws.proofs.Deciders.{len_within}
use Rattle.plan_laws.proofs.Following.{HasNamed, IsUntouched, before, done-in, new-stands, old-new, old-stands, origin, outcome-new}
use Rattle.plan_laws.proofs.Moving.{set-most}

-- the tag of each group is for the hops of its members, which rise, and a route's group is there
pub record AreTagged (hops_of : List WHop → List WHop) (things : List Thing) : Type 0 where
  pub rising : (tag : List WHop) → IsIn (thing.Group tag) things → AreRisingHops (hops_of tag)
  pub have : (tag : List WHop) (hop : WHop) → IsIn (thing.Group tag) things → IsIn hop (hops_of tag) → IsIn (thing.GroupMember tag hop) things
  pub only : (tag : List WHop) (hop : WHop) → IsIn (thing.GroupMember tag hop) things → IsIn hop (hops_of tag)
  pub there : (v : Vrf) (p : Prefix) (tag : List WHop) → IsIn (thing.Route v p (goal.Group tag)) things → IsIn (thing.Group tag) things

-- a hitless plan from things with tags to new ones, whose groups are named by their hops
pub record IsTaggedPlan (hops_of : List WHop → List WHop) (old new : List Thing) (plan : List PlanChange) : Type 0 where
  pub safe : IsSafePlan hitless_rank old new plan
  pub grouped : HaveWholeGroups new
  pub tagged : AreTagged hops_of old
  pub same : (hops : List WHop) → IsIn (thing.Group hops) new → hops_of hops ≡ hops

pub is-group : (u : Thing) (tag : List WHop) → name_of u ≡ name.Group tag → u ≡ thing.Group tag
is-group (thing.Group hops) tag e = let same : hops ≡ tag = cc in ap thing.Group same
is-group _ tag e = absurd cc

pub is-member : (u : Thing) (tag : List WHop) (hop : WHop) → name_of u ≡ name.GroupMember tag hop → u ≡ thing.GroupMember tag hop
is-member (thing.GroupMember hops h) tag hop e = let same : hops ≡ tag = cc in let one : h ≡ hop = cc in λ i. thing.GroupMember (same i) (one i)
is-member _ tag hop e = absurd cc

route_late : (c : PlanChange) (v : Vrf) (p : Prefix) (g : Goal) → p.len ≤ 128 → outcome c ≡ Some (thing.Route v p g) → 600 ≤ hitless_rank c
route_late (Make t) v p g small e = let same : t ≡ thing.Route v p g = cc in let rank : make_place (name_of t) ≡ 728 - p.len = ap (λ u. make_place (name_of u)) same in omega (arith, rank, small)
route_late (Set t) v p g small e = let same : t ≡ thing.Route v p g = cc in let rank : set_place (name_of t) ≡ 800 = ap (λ u. set_place (name_of u)) same in omega (arith, rank)
route_late (Remove k) v p g small e = absurd cc

module _ {hops_of : List WHop → List WHop} {old new : List Thing} {plan : List PlanChange} (q : IsTaggedPlan hops_of old new plan) where
  pub group-of_route : (v : Vrf) (p : Prefix) (tag : List WHop) → IsIn (thing.Route v p (goal.Group tag)) new → IsIn (thing.Group tag) new
  group-of_route v p tag i = let u = q.safe.within.refers (thing.Route v p (goal.Group tag)) (name.Group tag) i (beside v (name.Group tag ∷ []) (name.Group tag) (inl refl)) in subst (λ z. IsIn z new) (is-group u.0 tag u.2) u.1

  group_of_member : (tag : List WHop) (hop : WHop) → IsIn (thing.GroupMember tag hop) new → IsIn (thing.Group tag) new
  group_of_member tag hop i = let u = q.safe.within.refers (thing.GroupMember tag hop) (name.Group tag) i (inl refl) in subst (λ z. IsIn z new) (is-group u.0 tag u.2) u.1

  new_member : (v : Vrf) (p : Prefix) (tag : List WHop) (hop : WHop) → IsIn (thing.Route v p (goal.Group tag)) new → IsIn hop (hops_of tag) → IsIn (thing.GroupMember tag hop) new
  new_member v p tag hop i h = let group = group-of_route v p tag i in q.grouped.have tag hop group (subst (IsIn hop) (q.same tag group) h)

  module _ (done due : List PlanChange) (cut : plan ≡ done ++ due) where
    abbrev now : Thing → Type 0
    now = stands_after_all done (λ u. IsIn u old)

    comes : (c : PlanChange) (u : Thing) → IsIn c done → outcome c ≡ Some u → IsIn u new
    comes c u i o = outcome-new q.safe.is_plan c u (done-in q.safe.is_plan done due cut c i) o

    -- a member that stands is for one of the hops of its group
    pub member-only : (tag : List WHop) (hop : WHop) → now (thing.GroupMember tag hop) → IsIn hop (hops_of tag)
    member-only tag hop h =
        elim (origin done (λ u. IsIn u old) (thing.GroupMember tag hop) h) [
          | inl there ↦ q.tagged.only tag hop there.0
          | inr c ↦ let i = comes c.0 (thing.GroupMember tag hop) c.1 c.2 in subst (IsIn hop) (sym (q.same tag (group_of_member tag hop i))) (q.grouped.only tag hop i)
        ]

    stands_as : (tag : List WHop) (hop : WHop) → HasNamed now (name.GroupMember tag hop) → now (thing.GroupMember tag hop)
    stands_as tag hop h = subst now (is-member h.0 tag hop h.2) h.1

    -- the members of a new route's group are made before it
    by_change : (v : Vrf) (p : Prefix) (tag : List WHop) (hop : WHop) (c : PlanChange) → IsIn c done → outcome c ≡ Some (thing.Route v p (goal.Group tag)) → IsIn hop (hops_of tag) → now (thing.GroupMember tag hop)
    by_change v p tag hop c i o h =
        let route = comes c (thing.Route v p (goal.Group tag)) i o in
        elim (new-stands q.safe.is_plan done due cut (thing.GroupMember tag hop) (new_member v p tag hop route h)) [
          | inl m ↦ stands_as tag hop m
          | inr make ↦
              let order = (before q.safe.is_plan done due cut c (Make (thing.GroupMember tag hop)) i make).0 in
              let late = route_late c v p (goal.Group tag) (len_within p (q.safe.new_named.proper v p (goal.Group tag) route)) o in
              absurd (omega (arith, order, late))
        ]

    -- and those of an old route's group are removed after it
    by_old : (v : Vrf) (p : Prefix) (tag : List WHop) (hop : WHop) → IsIn (thing.Route v p (goal.Group tag)) old → IsUntouched done (name.Route v p) → IsIn hop (hops_of tag) → now (thing.GroupMember tag hop)
    by_old v p tag hop i free h =
        elim (old-stands q.safe.is_plan done due cut (thing.GroupMember tag hop) (q.tagged.have tag hop (q.tagged.there v p tag i) h)) [
          | inl m ↦ stands_as tag hop m
          | inr gone ↦
              let order = λ (d : PlanChange) (j : IsIn d due). (before q.safe.is_plan done due cut (Remove (name.GroupMember tag hop)) d gone j).0 in
              let small = len_within p (q.safe.old_named.proper v p (goal.Group tag) i) in
              let route = old-new q.safe.is_plan done due cut q.safe.old_named (thing.Route v p (goal.Group tag)) i free
              (λ t set same. let late = order (Set t) set in let most = set-most (name_of t) in absurd (omega (arith, late, most)))
              (λ remove. let late = order (Remove (name.Route v p)) remove in absurd (omega (arith, late, small))) in
              absurd ((q.safe.is_plan.removes (name.GroupMember tag hop) (done-in q.safe.is_plan done due cut (Remove (name.GroupMember tag hop)) gone)).3 (thing.GroupMember tag hop) (new_member v p tag hop route h) refl)
        ]

    -- where a route points at a group, each hop of the group has its member
    pub member-there : (v : Vrf) (p : Prefix) (tag : List WHop) (hop : WHop) → now (thing.Route v p (goal.Group tag)) → IsIn hop (hops_of tag) → now (thing.GroupMember tag hop)
    member-there v p tag hop h member =
        elim (origin done (λ u. IsIn u old) (thing.Route v p (goal.Group tag)) h) [
          | inl there ↦ by_old v p tag hop there.0 there.1 member
          | inr c ↦ by_change v p tag hop c.0 c.1 c.2 member
        ]

    pub target-rising : (v : Vrf) (p : Prefix) (tag : List WHop) → now (thing.Route v p (goal.Group tag)) → AreRisingHops (hops_of tag)
    target-rising v p tag h =
        elim (origin done (λ u. IsIn u old) (thing.Route v p (goal.Group tag)) h) [
          | inl there ↦ q.tagged.rising tag (q.tagged.there v p tag there.0)
          | inr c ↦
              let group = group-of_route v p tag (comes c.0 (thing.Route v p (goal.Group tag)) c.1 c.2) in
              subst AreRisingHops (sym (q.same tag group)) (q.grouped.rising tag group)
        ]
