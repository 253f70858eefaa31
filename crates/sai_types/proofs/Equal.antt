-- things that compare equal are equal
use Rattle.std.proofs.Common.{◌≡◌, ◌==◌, ℕ, Bool, true, List, refl, ap, ap₂, ◌∙◌, subst}
use Rattle.std.proofs.lemmas.Bool.{and_parts, eqb-true, false≢true}
use Rattle.std.specs.Bool.{Decides}
use Rattle.std.proofs.lemmas.Map.Lookups.{CmpEqualImpliesEq}
use Rattle.std.specs.Cmp.{IsTotalOrder, booleans_Decides}
use Rattle.std.specs.Cmp.Lexicographic.{pointwise}
use Rattle.std.specs.Ordering.{is_eq}
use Rattle.std.proofs.lemmas.Slice.Eq.{slice_eq-Decides}
use Rattle.std.proofs.lemmas.Bool.Decides.{Decides-eqb}
use Rattle.sai_types.specs.declared.weight.WHop.{WHop}
use Rattle.sai_types.specs.declared.thing.Goal.{Goal}
use Rattle.sai_types.specs.declared.thing.Goal.TheVariants as goal
use Rattle.sai_types.specs.declared.thing.PortThing.{PortThing}
use Rattle.sai_types.specs.declared.thing.Thing.{Thing}
use Rattle.sai_types.specs.declared.thing.Thing.TheVariants as thing
use Rattle.sai_types.specs.contracts.weight.WHopPartialEq.TheImpl as whop_eq
use Rattle.sai_types.specs.contracts.thing.GoalPartialEq.TheImpl as goal_eq
use Rattle.sai_types.specs.contracts.thing.PortThingPartialEq.TheImpl as port_eq
use Rattle.sai_types.specs.contracts.thing.ThingPartialEq.TheImpl as thing_eq
use Rattle.sai_types.specs.contracts.thing.ThingOrd.TheImpl.Laws as ordered_thing
use Rattle.sai_types.proofs.Exact.{ip-exact, prefix-exact}
use Rattle.sai_types.specs.contracts.weight.WHopEq.TheImpl.Laws as equal_whop
use Rattle.swss_types.proofs.Routers.{vrf-exact, vrf_name-exact}
use Rattle.swss_types.proofs.SameValues.{mac_exact, tagging_exact}
use Rattle.sai_types.proofs.Rising.{hop-same, whop-same, base-exact}
use Rattle.sai_types.specs.Order.{thing_cmp}

whop_decides : (a b : WHop) → Decides (whop_eq.ghosts.eq a b) (a ≡ b)
whop_decides a b = (whop-same a b, λ e. subst (λ z. whop_eq.ghosts.eq a z ≡ true) e (equal_whop.laws-law.refl a))

pub lanes_exact : (xs ys : List ℕ) → pointwise ◌==◌ xs ys ≡ true → xs ≡ ys
lanes_exact xs ys h = (slice_eq-Decides Decides-eqb xs ys (pointwise ◌==◌ xs ys) refl).0 h

hops_eq_exact : (xs ys : List WHop) → pointwise whop_eq.ghosts.eq xs ys ≡ true → xs ≡ ys
hops_eq_exact xs ys h = (slice_eq-Decides whop_decides xs ys (pointwise whop_eq.ghosts.eq xs ys) refl).0 h

goal_exact : (a b : Goal) → goal_eq.ghosts.eq a b ≡ true → a ≡ b
goal_exact goal.Drop goal.Drop h = refl
goal_exact (goal.Direct x) (goal.Direct y) h = ap goal.Direct (base-exact x y h)
goal_exact (goal.Via x) (goal.Via y) h = ap goal.Via (hop-same x y h)
goal_exact (goal.Group xs) (goal.Group ys) h = ap goal.Group (hops_eq_exact xs ys h)
goal_exact _ _ h = absurd (false≢true h)

port_exact : (p q : PortThing) → port_eq.ghosts.eq p q ≡ true → p ≡ q
port_exact p q h =
    let a = and_parts _ _ h in
    let b = and_parts _ _ a.1 in
    let c = and_parts _ _ b.1 in
    let first : List ℕ → ℕ → ℕ → Bool → PortThing = λ l s m u. record { lanes = l; speed = s; mtu = m; up = u } in
    ap₂ (λ l s. first l s p.mtu p.up) (lanes_exact p.lanes q.lanes a.0) (eqb-true p.speed q.speed b.0) ∙ ap₂ (λ m u. first q.lanes q.speed m u) (eqb-true p.mtu q.mtu c.0) ((booleans_Decides p.up q.up).0 c.1)

pub thing-exact : (t u : Thing) → thing_eq.ghosts.eq t u ≡ true → t ≡ u
thing-exact (thing.Vlan x) (thing.Vlan y) h = ap thing.Vlan (eqb-true x y h)
thing-exact (thing.VirtualRouter x) (thing.VirtualRouter y) h = ap thing.VirtualRouter (vrf_name-exact x y h)
thing-exact (thing.BridgePort x) (thing.BridgePort y) h = ap thing.BridgePort (eqb-true x y h)
thing-exact (thing.VlanMember v l a) (thing.VlanMember w n b) h =
    let x = and_parts _ _ h in
    let y = and_parts _ _ x.1 in
    ap₂ (λ z s. thing.VlanMember z l s) (eqb-true v w x.0) (tagging_exact a b y.1) ∙ ap (λ z. thing.VlanMember w z b) (eqb-true l n y.0)
thing-exact (thing.Rif x v) (thing.Rif y w) h = let parts = and_parts _ _ h in ap₂ thing.Rif (base-exact x y parts.0) (vrf-exact v w parts.1)
thing-exact (thing.Own v x) (thing.Own w y) h = let parts = and_parts _ _ h in ap₂ thing.Own (vrf-exact v w parts.0) (ip-exact x y parts.1)
thing-exact (thing.Neighbor x a) (thing.Neighbor y b) h = let parts = and_parts _ _ h in ap₂ thing.Neighbor (hop-same x y parts.0) (mac_exact a b parts.1)
thing-exact (thing.NextHop x) (thing.NextHop y) h = ap thing.NextHop (hop-same x y h)
thing-exact (thing.Group x) (thing.Group y) h = ap thing.Group (hops_eq_exact x y h)
thing-exact (thing.GroupMember x a) (thing.GroupMember y b) h = let parts = and_parts _ _ h in ap₂ thing.GroupMember (hops_eq_exact x y parts.0) (whop-same a b parts.1)
thing-exact (thing.Route v p g) (thing.Route w q k) h =
    let x = and_parts _ _ h in
    let y = and_parts _ _ x.1 in
    ap₂ (λ z s. thing.Route z s g) (vrf-exact v w x.0) (prefix-exact p q y.0) ∙ ap (thing.Route w q) (goal_exact g k y.1)
thing-exact (thing.Port p) (thing.Port q) h = ap thing.Port (port_exact p q h)
thing-exact _ _ h = absurd (false≢true h)

pub thing_total : IsTotalOrder thing_cmp
thing_total = ordered_thing.total-law

pub thing_exact : CmpEqualImpliesEq thing_cmp
thing_exact t u h = thing-exact t u (ordered_thing.matches_eq-law t u ∙ ap is_eq h)
