-- a route that the chip shows is one that stands
use Rattle.std.proofs.Common.{◌≡◌, ◌∙◌, inl, inr, ℕ, List, Option, None, Some, option_map, refl, sym, ap, ap₂, subst}
use Rattle.std.proofs.lemmas.Option.{same_Some}
use Rattle.swss_types.specs.declared.address.Prefix.{Prefix}
use Rattle.swss_types.specs.declared.vrf.Vrf.{Vrf}
use Rattle.table_schema.specs.Plan.{Ports}
use Rattle.table_schema.specs.declared.key.Key.TheVariants as key
use Rattle.sai_types.specs.declared.ids.Rid.{Rid}
use Rattle.sai_types.specs.declared.weight.WHop.{WHop}
use Rattle.sai_types.specs.declared.body.Body.TheVariants as body
use Rattle.sai_types.specs.declared.body.Entry.{Entry}
use Rattle.sai_types.specs.declared.body.Entry.TheVariants as entry
use Rattle.sai_types.specs.declared.thing.Goal.{Goal}
use Rattle.sai_types.specs.declared.thing.Goal.TheVariants as goal
use Rattle.sai_types.specs.declared.thing.Thing.{Thing}
use Rattle.sai_types.specs.declared.thing.Thing.TheVariants as thing
use Rattle.sai_types.specs.After.{entry_of}
use Rattle.sai_types.specs.Alike.{IsIn}
use Rattle.sai_types.specs.Hop.{AreRisingHops}
use Rattle.sai_types.specs.Made.{IsWhole}
use Rattle.sai_types.specs.Objects.{Objects}
use Rattle.sai_types.specs.Named.{both, goal_by, hops_at, named, thing_of}
use Rattle.sai_types.proofs.Found.{same-symm}
use Rattle.chip_layout.specs.Bodies.{IsAt, body_with, first_name, goal_name, router_name, second_name, to_with, vr_with}
use Rattle.chip_layout.specs.Layout.{Has, IsLaidOut, listed}
use Rattle.sai_types.specs.Names as name
use Rattle.sai_types.proofs.Listed.{found-in, in-found, object-of_thing}
use Rattle.chip_layout.proofs.Naming.{among, next_hop_named, rif_by, router_named}
use Rattle.sai_types.proofs.Weights.{same-hops}
use Rattle.row_layout.specs.Rows as owner
use Rattle.row_layout.specs.Shared.{shared_things}
use Rattle.switch_machine.specs.Flights.{Machine, StandsIn}
use Rattle.switch_machine.specs.Consistent.{IsConsistent}
use Rattle.switch_machine.proofs.Ordered.{group_rising}
use Rattle.switch_machine.proofs.Standing.{group_referred, user_row}
use Rattle.switch_machine.proofs.Tabled.{in_members, member_hop}

no_map : {A X : Type 0} (f : A → Thing) (o : Option A) (u : Thing) → ((a : A) → u ≡ f a → ⊥) → Some u ≡ option_map f o → X
no_map f None u never h = absurd cc
no_map f (Some a) u never h = absurd (never a cc)

no_both : {A B X : Type 0} (f : A → B → Thing) (o : Option A) (p : Option B) (u : Thing) → ((a : A) (b : B) → u ≡ f a b → ⊥) → Some u ≡ both f o p → X
no_both f None p u never h = absurd cc
no_both f (Some a) None u never h = absurd cc
no_both f (Some a) (Some b) u never h = absurd (never a b cc)

module _ (plan : Ports) (m : Machine) (sound : IsConsistent plan m) (made : ℕ) (objects : Objects) (whole : IsWhole made objects) (laid : IsLaidOut (listed m.stands) objects) where
  -- the group that a standing route points at shows its hops
  group_named : (i : Rid) (v : Vrf) (p : Prefix) (hops : List WHop) (g : Rid) → listed m.stands i (thing.Route v p (goal.Group hops)) → Has (listed m.stands) (name.Group hops) g → hops_at objects g ≡ Some hops
  group_named i v p hops g at group =
      let these = among (listed m.stands) objects laid g hops group whole.apart objects (λ x b i. found-in objects x b whole.sorted i) in
      these.is ∙ ap Some (same-hops these.those hops these.rising rising (λ hop h. let x = these.sound hop h in only hop (sound.held (owner.Group hops) (thing.GroupMember hops hop) x refl tt).0) (λ hop h.
      let x = sound.steady (key.Route v p) (owner.Group hops) (thing.Route v p (goal.Group hops)) (thing.GroupMember hops hop) (name.Group hops) (i, at) refl (group_referred v p hops) refl tt (inr (in_members hops hops hop h)) in
      let has = laid.stand x.0 (thing.GroupMember hops hop) x.1 in
      let object = in-found objects (entry_of x.0.0 has.0) has.0 has.2 in
      these.all object.0 has.0 x.0 hop object.2 x.1 has.1 (same-symm object.0 (entry_of x.0.0 has.0) ∙ object.1)))
    where
      rising : AreRisingHops hops
      rising =
          let user = sound.used (key.Route v p) (owner.Group hops) (thing.Route v p (goal.Group hops)) (name.Group hops) (i, at) refl (group_referred v p hops) refl tt in
          let row = user_row plan m sound (key.Route v p) (owner.Group hops) user in
          group_rising plan (key.Route v p) row.0 (owner.Group hops) hops row.2 refl

      only : (hop : WHop) → IsIn (thing.GroupMember hops hop) (shared_things (owner.Group hops)) → IsIn hop hops
      only hop (inl e) = absurd cc
      only hop (inr h) = member_hop hops hops hop h

  goal_shown : (i : Rid) (v : Vrf) (p : Prefix) (g : Goal) (a : Rid) → listed m.stands i (thing.Route v p g) → IsAt (Has (listed m.stands)) (goal_name g) a → goal_by (hops_at objects) objects (to_with g a) ≡ Some g
  goal_shown i v p goal.Drop a at x = refl
  goal_shown i v p (goal.Direct on) a at x = ap (option_map goal.Direct) (rif_by (listed m.stands) objects laid x.0 a on x.1 x.2)
  goal_shown i v p (goal.Via hop) a at x = ap (option_map goal.Via) (next_hop_named (listed m.stands) objects laid hop a x)
  goal_shown i v p (goal.Group hops) a at x = ap (option_map goal.Group) (group_named i v p hops a at x)

  route_named : (i : Rid) (v : Vrf) (p : Prefix) (g : Goal) (e : Entry Rid) (a c : Rid) → listed m.stands i (thing.Route v p g) → IsAt (Has (listed m.stands)) (goal_name g) a → IsAt (Has (listed m.stands)) (router_name v) c → thing_of objects (e, body.Route (vr_with v c) p (to_with g a)) ≡ Some (thing.Route v p g)
  route_named i v p g e a c at x y = ap₂ (both (λ z w. thing.Route z p w)) (router_named (listed m.stands) objects laid v c y) (goal_shown i v p g a at x)

  module _ (v : Vrf) (prefix : Prefix) (goal : Goal) where
    abbrev It : Thing
    It = thing.Route v prefix goal

    no_group : {X : Type 0} (e : Entry Rid) → Some It ≡ thing_of objects (e, body.Group) → X
    no_group (entry.Oid g) h = no_map thing.Group (hops_at objects g) It (λ a e. cc) h
    no_group (entry.Own vr ip) h = absurd cc
    no_group (entry.Neigh r ip) h = absurd cc
    no_group (entry.Route vr p) h = absurd cc

    by_thing : (t : Thing) (i : Rid) (e : Entry Rid) (a c : Rid) → listed m.stands i t → IsAt (Has (listed m.stands)) (first_name t) a → IsAt (Has (listed m.stands)) (second_name t) c → Some It ≡ thing_of objects (e, body_with t a c) → StandsIn m It
    by_thing (thing.Route w p g) i e a c at x y h = (i, subst (λ z. listed m.stands i z) (sym (same_Some It (thing.Route w p g) (h ∙ route_named i w p g e a c at x y))) at)
    by_thing (thing.Port p) i e a c at x y h = absurd cc
    by_thing (thing.Vlan n) i e a c at x y h = absurd cc
    by_thing (thing.BridgePort lane) i e a c at x y h = no_map thing.BridgePort _ It (λ a e. cc) h
    by_thing (thing.VlanMember n lane tagging) i e a c at x y h = no_both (λ w p. thing.VlanMember w p tagging) _ _ It (λ a b e. cc) h
    by_thing (thing.VirtualRouter label) i e a c at x y h = absurd cc
    by_thing (thing.Rif on w) i e a c at x y h = no_both thing.Rif _ _ It (λ a b e. cc) h
    by_thing (thing.Own w ip) i e a c at x y h = no_map (λ z. thing.Own z ip) _ It (λ a e. cc) h
    by_thing (thing.Neighbor hop mac) i e a c at x y h = no_map (λ z. thing.Neighbor z mac) _ It (λ a e. cc) h
    by_thing (thing.NextHop hop) i e a c at x y h = no_map thing.NextHop _ It (λ a e. cc) h
    by_thing (thing.Group hops) i e a c at x y h = no_group e h
    by_thing (thing.GroupMember hops hop) i e a c at x y h = no_both thing.GroupMember _ _ It (λ a b e. cc) h

    pub route-stands : IsIn (Some It) (named objects) → StandsIn m It
    route-stands in_it =
        let object = object-of_thing objects objects (Some It) in_it in
        let owner = laid.tied object.0 object.1 (found-in objects object.0 object.1 whole.sorted object.2) in
        by_thing owner.1 owner.0 object.0 owner.3.first owner.3.second owner.2 owner.3.first_at owner.3.second_at (object.3 ∙ ap (λ z. thing_of objects (object.0, z)) owner.3.body_is)
