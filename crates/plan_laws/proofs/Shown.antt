-- by what a chip's packets go, where its groups have tags
use Rattle.std.proofs.Common.{◌≡◌, ℕ, List, Option, None, Some, option_map, refl, sym, ap, ap₂, ◌∙◌, subst}
use Rattle.swss_types.specs.declared.address.Prefix.{Prefix}
use Rattle.swss_types.specs.declared.vrf.Vrf.{Vrf}
use Rattle.sai_types.specs.declared.ids.Rid.{Rid}
use Rattle.sai_types.specs.declared.weight.WHop.{WHop}
use Rattle.sai_types.specs.declared.body.Body.{Body}
use Rattle.sai_types.specs.declared.body.Entry.{Entry}
use Rattle.sai_types.specs.declared.body.Entry.TheVariants as entry
use Rattle.sai_types.specs.declared.thing.Goal.{Goal}
use Rattle.sai_types.specs.declared.thing.Goal.TheVariants as goal
use Rattle.sai_types.specs.declared.thing.Thing.{Thing}
use Rattle.sai_types.specs.declared.thing.Thing.TheVariants as thing
use Rattle.sai_types.specs.After.{entry_of}
use Rattle.sai_types.specs.Alike.{IsIn}
use Rattle.sai_types.specs.Made.{IsWhole}
use Rattle.sai_types.specs.Hop.{AreRisingHops}
use Rattle.sai_types.specs.Named.{both, goal_by, hops_at, named, thing_of, those}
use Rattle.sai_types.specs.Objects.{Objects}
use Rattle.chip_layout.specs.Layout.{Has, IsLaidOut, Layout}
use Rattle.sai_types.specs.Names as name
use Rattle.sai_types.specs.Names.{ThingName, name_of}
use Rattle.chip_layout.proofs.Answering.{in_those, thing_in, those_in}
use Rattle.chip_layout.proofs.Naming.{among, hop_named, next_hop_named, rif_by, router_named}
use Rattle.plan_laws.specs.Steady.{IsForwarding}
use Rattle.chip_layout.specs.Bodies.{IsAt, IsBody, body_with, first_name, goal_name, second_name, to_with}
use Rattle.sai_types.proofs.Found.{same-symm}
use Rattle.sai_types.proofs.Listed.{found-in, in-found, object-of_thing}
use Rattle.sai_types.proofs.Things.{both_mapped}
use Rattle.sai_types.proofs.Weights.{same-hops}

-- a goal by the hops that its tag is for
abbrev pub real_goal : (List WHop → List WHop) → Goal → Goal
real_goal hops_of (goal.Group tag) = goal.Group (hops_of tag)
real_goal hops_of g = g

-- a route with the hops that its tag is for
abbrev pub real_route : (List WHop → List WHop) → Thing → Thing
real_route hops_of (thing.Route v p g) = thing.Route v p (real_goal hops_of g)
real_route hops_of t = t

-- each group that a route points at has members for the hops that its tag is for
pub record AreTargets (hops_of : List WHop → List WHop) (layout : Layout Rid) : Type 0 where
  pub rising : (i : Rid) (v : Vrf) (p : Prefix) (tag : List WHop) → layout i (thing.Route v p (goal.Group tag)) → AreRisingHops (hops_of tag)
  pub have : (i : Rid) (v : Vrf) (p : Prefix) (tag : List WHop) (hop : WHop) → layout i (thing.Route v p (goal.Group tag)) → IsIn hop (hops_of tag) → (j : Rid) × layout j (thing.GroupMember tag hop)
  pub only : (j : Rid) (tag : List WHop) (hop : WHop) → layout j (thing.GroupMember tag hop) → IsIn hop (hops_of tag)

module _ (layout : Layout Rid) (objects : Objects) (laid : IsLaidOut layout objects) (made : ℕ) (whole : IsWhole made objects) (hops_of : List WHop → List WHop) (targets : AreTargets hops_of layout) where
  group_hops : (i : Rid) (v : Vrf) (p : Prefix) (tag : List WHop) (g : Rid) → layout i (thing.Route v p (goal.Group tag)) → Has layout (name.Group tag) g → hops_at objects g ≡ Some (hops_of tag)
  group_hops i v p tag g route group =
      let these = among layout objects laid g tag group whole.apart objects (λ x b k. found-in objects x b whole.sorted k) in
      these.is
      ∙ ap Some (same-hops these.those (hops_of tag) these.rising (targets.rising i v p tag route) (λ hop k. let m = these.sound hop k in targets.only m.0 tag hop m.1) (λ hop k.
      let m = targets.have i v p tag hop route k in
      let has = laid.stand m.0 (thing.GroupMember tag hop) m.1 in
      let object = in-found objects (entry_of m.0.0 has.0) has.0 has.2 in
      these.all object.0 has.0 m.0 hop object.2 m.1 has.1 (same-symm object.0 (entry_of m.0.0 has.0) ∙ object.1)))

  goal_shown : (i : Rid) (v : Vrf) (p : Prefix) (g : Goal) (a : Rid) → layout i (thing.Route v p g) → IsAt (Has layout) (goal_name g) a → goal_by (hops_at objects) objects (to_with g a) ≡ Some (real_goal hops_of g)
  goal_shown i v p goal.Drop a h x = refl
  goal_shown i v p (goal.Direct on) a h x = ap (option_map goal.Direct) (rif_by layout objects laid x.0 a on x.1 x.2)
  goal_shown i v p (goal.Via hop) a h x = ap (option_map goal.Via) (next_hop_named layout objects laid hop a x)
  goal_shown i v p (goal.Group tag) a h x = ap (option_map goal.Group) (group_hops i v p tag a h x)

  -- what stands for a thing by which packets go is named so
  shown_by : (i : Rid) (t : Thing) (e : Entry Rid) (a c : Rid) → layout i t → IsForwarding (name_of t) → IsAt (Has layout) (first_name t) a → IsAt (Has layout) (second_name t) c → thing_of objects (e, body_with t a c) ≡ Some (real_route hops_of t)
  shown_by i (thing.Own v ip) e a c h fw x y = ap (option_map (λ z. thing.Own z ip)) (router_named layout objects laid v c y)
  shown_by i (thing.Neighbor hop mac) e a c h fw x y = ap (option_map (λ z. thing.Neighbor z mac)) (hop_named layout objects laid hop a x)
  shown_by i (thing.Route v p g) e a c h fw x y = ap₂ (both (λ z w. thing.Route z p w)) (router_named layout objects laid v c y) (goal_shown i v p g a h x)
  shown_by i _ e a c h fw x y = absurd fw

  shown_of : (i : Rid) (t : Thing) (e : Entry Rid) (b : Body Rid) → layout i t → IsForwarding (name_of t) → IsBody (Has layout) t b → thing_of objects (e, b) ≡ Some (real_route hops_of t)
  shown_of i t e b h fw x = ap (λ z. thing_of objects (e, z)) x.body_is ∙ shown_by i t e x.first x.second h fw x.first_at x.second_at

  -- an object of another kind is not named as a thing by which packets go
  not_some : (u t : Thing) → Some u ≡ Some t → IsForwarding (name_of t) → IsForwarding (name_of u)
  not_some u t e fw = let same : u ≡ t = cc in subst (λ z. IsForwarding (name_of z)) (sym same) fw

  not_mapped : {A : Type 0} (f : A → Thing) (o : Option A) (t : Thing) → ((x : A) → IsForwarding (name_of (f x)) → ⊥) → option_map f o ≡ Some t → IsForwarding (name_of t) → ⊥
  not_mapped f None t never e fw = absurd cc
  not_mapped f (Some x) t never e fw = never x (not_some (f x) t e fw)

  group_not : (e : Entry Rid) (a c : Rid) (hs : List WHop) (t : Thing) → thing_of objects (e, body_with (thing.Group hs) a c) ≡ Some t → IsForwarding (name_of t) → ⊥
  group_not (entry.Oid g) a c hs t e fw = not_mapped thing.Group (hops_at objects g) t (λ x f. f) e fw
  group_not (entry.Own v ip) a c hs t e fw = absurd cc
  group_not (entry.Neigh r ip) a c hs t e fw = absurd cc
  group_not (entry.Route v p) a c hs t e fw = absurd cc

  back_by : (u : Thing) (e : Entry Rid) (a c : Rid) (t : Thing) → thing_of objects (e, body_with u a c) ≡ Some t → IsForwarding (name_of t) → IsForwarding (name_of u)
  back_by (thing.Own v ip) e a c t is fw = tt
  back_by (thing.Neighbor hop mac) e a c t is fw = tt
  back_by (thing.Route v p g) e a c t is fw = tt
  back_by (thing.Port p) e a c t is fw = not_some (thing.Port p) t is fw
  back_by (thing.Vlan v) e a c t is fw = not_some (thing.Vlan v) t is fw
  back_by (thing.VirtualRouter n) e a c t is fw = not_some (thing.VirtualRouter n) t is fw
  back_by (thing.BridgePort n) e a c t is fw = not_mapped thing.BridgePort _ t (λ x f. f) is fw
  back_by (thing.VlanMember v n g) e a c t is fw = let m = both_mapped _ _ _ t is in subst (λ z. IsForwarding (name_of z)) (sym m.4) fw
  back_by (thing.Rif b v) e a c t is fw = let m = both_mapped thing.Rif _ _ t is in subst (λ z. IsForwarding (name_of z)) (sym m.4) fw
  back_by (thing.NextHop h) e a c t is fw = not_mapped thing.NextHop _ t (λ x f. f) is fw
  back_by (thing.Group hs) e a c t is fw = group_not e a c hs t is fw
  back_by (thing.GroupMember hs h) e a c t is fw = let m = both_mapped thing.GroupMember _ _ t is in subst (λ z. IsForwarding (name_of z)) (sym m.4) fw

  pub shown-sound : (t : Thing) → IsForwarding (name_of t) → IsIn t (those (named objects)) → (i : Rid) × (u : Thing) × layout i u × (real_route hops_of u ≡ t)
  shown-sound t fw i =
      let object = object-of_thing objects objects (Some t) (those_in t (named objects) i) in
      let owner = laid.tied object.0 object.1 (found-in objects object.0 object.1 whole.sorted object.2) in
      let at : thing_of objects (object.0, body_with owner.1 owner.3.first owner.3.second) ≡ Some t = ap (λ z. thing_of objects (object.0, z)) (sym owner.3.body_is) ∙ sym object.3 in
      let fw' = back_by owner.1 object.0 owner.3.first owner.3.second t at fw in
      let both : Some (real_route hops_of owner.1) ≡ Some t = sym (shown_of owner.0 owner.1 object.0 object.1 owner.2 fw' owner.3) ∙ sym object.3 in
      (owner.0, owner.1, owner.2, cc)

  pub shown-all : (i : Rid) (u : Thing) → layout i u → IsForwarding (name_of u) → IsIn (real_route hops_of u) (those (named objects))
  shown-all i u h fw =
      let has = laid.stand i u h in
      let object = in-found objects (entry_of i.0 has.0) has.0 has.2 in
      in_those (real_route hops_of u) (named objects) (subst (λ o. IsIn o (named objects)) (shown_of i u object.0 has.0 h fw has.1) (thing_in objects objects object.0 has.0 object.2))
