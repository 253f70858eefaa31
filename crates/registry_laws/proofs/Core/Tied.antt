-- the identifiers that a call names are tied to those of objects that stand
use Rattle.std.proofs.Common.{◌≡◌, ◌⊎◌, ◌∷◌, ◌++◌, ◌∙◌, inl, inr, true, List, [], Option, None, Some, refl, sym, ap, subst}
use Rattle.std.proofs.lemmas.Option.{same_Some}
use Rattle.swss_types.specs.declared.vrf.Vrf.{Vrf}
use Rattle.swss_types.specs.declared.vrf.Vrf.TheVariants as vrf
use Rattle.sai_types.specs.declared.body.Attr.{Attr}
use Rattle.sai_types.specs.declared.body.Attr.TheVariants as attr
use Rattle.sai_types.specs.declared.body.Body.{Body}
use Rattle.sai_types.specs.declared.body.Call.{Call}
use Rattle.sai_types.specs.declared.body.Call.TheVariants as call
use Rattle.sai_types.specs.declared.body.Entry.{Entry}
use Rattle.sai_types.specs.declared.hop.Base.{Base}
use Rattle.sai_types.specs.declared.hop.Base.TheVariants as base
use Rattle.sai_types.specs.declared.hop.Hop.{Hop}
use Rattle.sai_types.specs.declared.ids.Rid.{Rid}
use Rattle.sai_types.specs.declared.ids.Vid.{Vid}
use Rattle.sai_types.specs.declared.thing.Goal.{Goal}
use Rattle.sai_types.specs.declared.thing.Goal.TheVariants as goal
use Rattle.sai_types.specs.declared.thing.Thing.{Thing}
use Rattle.sai_types.specs.declared.thing.Thing.TheVariants as thing
use Rattle.sai_types.specs.Alike.{IsIn}
use Rattle.sai_types.specs.Names as name
use Rattle.sai_types.specs.Names.{ThingName, base_name, name_kind, name_of}
use Rattle.sai_types.specs.Objects.{Objects}
use Rattle.sai_types.proofs.Membership.{in-either}
use Rattle.chip_layout.specs.Bodies.{IsAt, IsBody, IsChange, body_with, first_name, goal_name, is_numbered, on_with, router_name, second_name, to_with, vr_with}
use Rattle.chip_layout.specs.Layout.{Has, IsLaidOut, Layout, has_number}
use Rattle.chip_layout.proofs.Bodies.{first-numbered, second-numbered}
use Rattle.chip_layout.proofs.Laid.{changed}
use Rattle.row_layout.specs.Operations.{Change, Make, Set, Take}
use Rattle.switch_machine.specs.Changes.{IsCall}
use Rattle.orch_flight.specs.Calling.{IsCallFor, IsEnteredBy, IsEntryOf, entry_by}
use Rattle.registry_laws.proofs.Listing.{not_some}
use Rattle.registry_laws.proofs.Identifier.Telling.{neighbor_entered, neighbor_first, router_entered, router_in, router_second}
use Rattle.registry_laws.specs.Calls.{IsTiedBy, ids_of_attr, ids_of_base, ids_of_body, ids_of_call, ids_of_entry, ids_of_router, ids_of_target}

module _ (rid : Vid → Option Rid) where
  -- where it is that of a name
  abbrev TiedFor : Option ThingName → Vid → Type 0
  TiedFor o v = (n : ThingName) → o ≡ Some n → IsTiedBy rid v

  one_in : (v : Vid) → IsTiedBy rid v → (z : Vid) → IsIn z (v ∷ []) → IsTiedBy rid z
  one_in v x z (inl e) = subst (IsTiedBy rid) (sym e) x
  one_in v x z (inr h) = elim h [ ]

  two_in : (v u : Vid) → IsTiedBy rid v → IsTiedBy rid u → (z : Vid) → IsIn z (v ∷ u ∷ []) → IsTiedBy rid z
  two_in v u x y z (inl e) = subst (IsTiedBy rid) (sym e) x
  two_in v u x y z (inr h) = one_in u y z h

  target_tied : (g : Goal) (v : Vid) → TiedFor (goal_name g) v → (z : Vid) → IsIn z (ids_of_target (to_with g v)) → IsTiedBy rid z
  target_tied goal.Drop v a z h = elim h [ ]
  target_tied (goal.Direct on) v a z h = one_in v (a (name.Rif on) refl) z h
  target_tied (goal.Via hop) v a z h = one_in v (a (name.NextHop hop) refl) z h
  target_tied (goal.Group hops) v a z h = one_in v (a (name.Group hops) refl) z h

  -- the virtual router, and what an interface stands on
  router_tied : (w : Vrf) (u : Vid) → TiedFor (router_name w) u → (z : Vid) → IsIn z (ids_of_router (vr_with w u)) → IsTiedBy rid z
  router_tied vrf.Default u b z h = elim h [ ]
  router_tied (vrf.Named label) u b z h = one_in u (b (name.VirtualRouter label) refl) z h

  base_tied : (on : Base) (v : Vid) → TiedFor (Some (base_name on)) v → (z : Vid) → IsIn z (ids_of_base (on_with on v)) → IsTiedBy rid z
  base_tied (base.Port lane) v a z h = one_in v (a (name.Port lane) refl) z h
  base_tied (base.Vlan vlan) v a z h = one_in v (a (name.Vlan vlan) refl) z h

  either_in : (vs us : List Vid) (z : Vid) → (IsIn z vs → IsTiedBy rid z) → (IsIn z us → IsTiedBy rid z) → IsIn z (vs ++ us) → IsTiedBy rid z
  either_in vs us z f g h = elim (in-either z vs us h) [ inl i ↦ f i | inr i ↦ g i ]

  body_tied : (t : Thing) (v u : Vid) → TiedFor (first_name t) v → TiedFor (second_name t) u → (z : Vid) → IsIn z (ids_of_body (body_with t v u)) → IsTiedBy rid z
  body_tied (thing.Port p) v u a b z h = elim h [ ]
  body_tied (thing.Vlan vlan) v u a b z h = elim h [ ]
  body_tied (thing.VirtualRouter label) v u a b z h = elim h [ ]
  body_tied (thing.BridgePort lane) v u a b z h = one_in v (a (name.Port lane) refl) z h
  body_tied (thing.VlanMember vlan lane tagging) v u a b z h = two_in v u (a (name.Vlan vlan) refl) (b (name.BridgePort lane) refl) z h
  body_tied (thing.Rif on w) v u a b z h = either_in (ids_of_router (vr_with w u)) (ids_of_base (on_with on v)) z (router_tied w u b z) (base_tied on v a z) h
  body_tied (thing.Own w ip) v u a b z h = router_tied w u b z h
  body_tied (thing.Neighbor hop mac) v u a b z h = one_in v (a (name.Rif hop.on) refl) z h
  body_tied (thing.NextHop hop) v u a b z h = one_in v (a (name.Rif hop.on) refl) z h
  body_tied (thing.Group hops) v u a b z h = elim h [ ]
  body_tied (thing.GroupMember hops hop) v u a b z h = two_in v u (a (name.Group hops) refl) (b (name.NextHop hop.hop) refl) z h
  body_tied (thing.Route w prefix g) v u a b z h = either_in (ids_of_router (vr_with w u)) (ids_of_target (to_with g v)) z (router_tied w u b z) (target_tied g v a z) h

  entry_tied : (t : Thing) (v a b : Vid) → (has_number t ≡ true → IsTiedBy rid v) → ((hop : Hop) → name_of t ≡ name.Neighbor hop → IsTiedBy rid a) → TiedFor (router_name (router_in (name_of t))) b → (z : Vid) → IsIn z (ids_of_entry (entry_by v (body_with t a b))) → IsTiedBy rid z
  entry_tied (thing.Own w ip) v a b h n r z i = router_tied w b r z i
  entry_tied (thing.Neighbor hop mac) v a b h n r z i = one_in a (n hop refl) z i
  entry_tied (thing.Route w prefix g) v a b h n r z i = router_tied w b r z i
  entry_tied _ v a b h n r z i = one_in v (h refl) z i

  module _ (L : Layout Rid) (objects : Objects) (laid : IsLaidOut L objects) (at : ThingName → Vid → Type 0) (tied : (n : ThingName) (v : Vid) (i : Rid) → is_numbered (name_kind n) ≡ true → Has L n i → at n v → IsTiedBy rid v) where
    tied_at : (o : Option ThingName) (v : Vid) (i : Rid) → ((n : ThingName) → o ≡ Some n → is_numbered (name_kind n) ≡ true) → IsAt (Has L) o i → IsAt at o v → TiedFor o v
    tied_at None v i numbered there h n e = not_some n e
    tied_at (Some k) v i numbered there h n e = tied k v i (numbered k refl) there h

    -- the entry of what stands
    standing_tied : (old : Thing) (e : Entry Vid) (i : Rid) (u : Thing) (d : Body Rid) → IsEntryOf at old e → L i u → name_of u ≡ name_of old → IsBody (Has L) u d → (z : Vid) → IsIn z (ids_of_entry e) → IsTiedBy rid z
    standing_tied old e i u d x there same y z h =
        entry_tied old x.id x.of.first x.of.second
        (λ numbered. tied (name_of old) x.id i numbered (u, there, same) (x.numbered numbered))
        neighbor (router (router_in (name_of old)) refl) z (subst (λ l. IsIn z (ids_of_entry l)) (x.is ∙ ap (entry_by x.id) x.of.body_is) h)
      where
        neighbor : (hop : Hop) → name_of old ≡ name.Neighbor hop → IsTiedBy rid x.of.first
        neighbor hop e =
            let on : Has L (name.Rif hop.on) y.first = subst (λ o. IsAt (Has L) o y.first) (neighbor_first u hop (same ∙ e)) y.first_at in
            let told : at (name.Rif hop.on) x.of.first = subst (λ o. IsAt (λ n v. IsEnteredBy old n → at n v) o x.of.first) (neighbor_first old hop e) x.of.first_at (neighbor_entered old hop e) in
            tied (name.Rif hop.on) x.of.first y.first refl on told

        router : (w : Vrf) → router_in (name_of old) ≡ w → TiedFor (router_name w) x.of.second
        router vrf.Default h n e = not_some n e
        router (vrf.Named label) h n e =
            let in_it : Has L (name.VirtualRouter label) y.second = subst (λ o. IsAt (Has L) o y.second) (router_second u label (ap router_in same ∙ h)) y.second_at in
            let told : at (name.VirtualRouter label) x.of.second = subst (λ o. IsAt (λ n v. IsEnteredBy old n → at n v) o x.of.second) (router_second old label h) x.of.second_at (router_entered old label h) in
            tied (name.VirtualRouter label) x.of.second y.second refl in_it told

    goal_numbered : (g : Goal) (n : ThingName) → goal_name g ≡ Some n → is_numbered (name_kind n) ≡ true
    goal_numbered goal.Drop n e = not_some n e
    goal_numbered (goal.Direct on) n e = ap (λ z. is_numbered (name_kind z)) (sym (same_Some (name.Rif on) n e))
    goal_numbered (goal.Via hop) n e = ap (λ z. is_numbered (name_kind z)) (sym (same_Some (name.NextHop hop) n e))
    goal_numbered (goal.Group hops) n e = ap (λ z. is_numbered (name_kind z)) (sym (same_Some (name.Group hops) n e))

    -- what an attribute refers to that is set
    attr_tied : (old other u : Thing) (a : Attr Vid) (b : Attr Rid) → name_of old ≡ name_of other → IsChange at old a u → IsChange (Has L) other b u → (z : Vid) → IsIn z (ids_of_attr a) → IsTiedBy rid z
    attr_tied (thing.Route v p g) (thing.Route r q e) u (attr.To w) (attr.To y) same (next, i, told, is, later) (goal, j, there, _, set) z h =
        let goals : goal ≡ next = cc in
        target_tied next i (tied_at (goal_name next) i j (goal_numbered next) (subst (λ x. IsAt (Has L) (goal_name x) j) goals there) told) z (subst (λ x. IsIn z (ids_of_target x)) is h)
    attr_tied (thing.Route v p g) (thing.Route r q e) u (attr.To w) b same x y z h = elim y [ ]
    attr_tied (thing.Route v p g) other u (attr.To w) b same x y z h = absurd cc
    attr_tied _ other u (attr.To w) b same x y z h = elim x [ ]
    attr_tied old other u a b same x y z h = elim h [ ]

    pub call_tied : (things : List Thing) (change : Change) (c : Call Vid) (d : Call Rid) → IsCallFor at things change c → IsCall L change d → (z : Vid) → IsIn z (ids_of_call c) → IsTiedBy rid z
    call_tied things (Make t) c d x y z h =
        body_tied t x.of.first x.of.second
        (tied_at (first_name t) x.of.first y.of.first (first-numbered t) y.of.first_at x.of.first_at)
        (tied_at (second_name t) x.of.second y.of.second (second-numbered t) y.of.second_at x.of.second_at)
        z (subst (λ l. IsIn z (ids_of_call l)) (x.is ∙ ap call.Create x.of.body_is) h)
    call_tied things (Take n) c d x y z h = standing_tied x.old x.entry y.id y.old y.body x.of y.stands (y.named ∙ sym x.same) y.of z (subst (λ l. IsIn z (ids_of_call l)) x.is h)
    call_tied things (Set u) c d x y z h = by (in-either z (ids_of_entry x.entry) (ids_of_attr x.attr) (subst (λ l. IsIn z (ids_of_call l)) x.is h))
      where
        same : name_of x.old ≡ name_of y.old
        same = x.same ∙ (changed L objects laid y.old u y.body y.attr y.of y.change).same

        by : IsIn z (ids_of_entry x.entry) ⊎ IsIn z (ids_of_attr x.attr) → IsTiedBy rid z
        by (inl i) = standing_tied x.old x.entry y.id y.old y.body x.of y.stands (sym same) y.of z i
        by (inr i) = attr_tied x.old y.old u x.attr y.attr same x.change y.change z i
