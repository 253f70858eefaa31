-- what the objects of things that stand are named
use Rattle.std.proofs.Common.{◌≡◌, ◌⊎◌, inl, inr, ℕ, Bool, true, false, List, [], ◌∷◌, Option, Some, option_map, if◌then◌else◌, refl, sym, ap, ap₂, ◌∙◌, subst}
use Rattle.std.specs.BTreeSet.{insert_key}
use Rattle.std.proofs.lemmas.Bool.{and_from, eq-eqb, false≢true}
use Rattle.std.proofs.lemmas.Option.{same_Some}
use Rattle.swss_types.specs.declared.vrf.Vrf.{Vrf}
use Rattle.swss_types.specs.declared.vrf.Vrf.TheVariants as vrf
use Rattle.swss_types.specs.declared.vrf.VrfName.{VrfName}
use Rattle.sai_types.specs.declared.ids.Rid.{Rid}
use Rattle.sai_types.specs.declared.hop.Base.{Base}
use Rattle.sai_types.specs.declared.hop.Base.TheVariants as base
use Rattle.sai_types.specs.declared.hop.Hop.{Hop}
use Rattle.sai_types.specs.declared.weight.WHop.{WHop}
use Rattle.sai_types.specs.declared.body.Body.{Body}
use Rattle.sai_types.specs.declared.body.Body.TheVariants as body
use Rattle.sai_types.specs.declared.body.Entry.{Entry}
use Rattle.sai_types.specs.declared.body.Entry.TheVariants as entry
use Rattle.sai_types.specs.declared.thing.Goal.{Goal}
use Rattle.sai_types.specs.declared.thing.Goal.TheVariants as goal
use Rattle.sai_types.specs.declared.thing.Thing.{Thing}
use Rattle.sai_types.specs.declared.thing.Thing.TheVariants as thing
use Rattle.sai_types.specs.After.{entry_of}
use Rattle.sai_types.specs.Alike.{IsAlike, IsIn, IsOnceIn}
use Rattle.sai_types.specs.Hop.{AreRisingHops, put_hop, whop_cmp}
use Rattle.sai_types.specs.Made.{AreApart, IsWhole, same_entry}
use Rattle.sai_types.specs.Objects.{Objects, body_at}
use Rattle.sai_types.specs.Named.{both, bridge_port_at, bridge_port_of, first_lane, goal_by, hop_on, hops_among, hops_at, named, next_hop_at, next_hop_of, port_at, body_port, body_router, rif_at, rif_of, router_at, thing_of, vlan_at, body_vlan, whop_at, with_member}
use Rattle.sai_types.specs.Refusal.{clash, same_id}
use Rattle.sai_types.proofs.Found.{same-refl, same-symm, same-trans}
use Rattle.sai_types.specs.Names as name
use Rattle.sai_types.specs.Names.{ThingName, name_kind, name_of}
use Rattle.sai_types.proofs.Things.{bridge_ports, group_members, groups, next_hops, ports, rifs, routers, vlans}
use Rattle.chip_layout.specs.Bodies.{first_name, second_name}
use Rattle.chip_layout.specs.Bodies.{IsAt, IsBody, body_with, goal_name, router_name, to_with, vr_with}
use Rattle.chip_layout.specs.Layout.{Has, IsLaidOut, Layout, has_number, view_of}
use Rattle.chip_layout.specs.Grouped.{AreGrouped}
use Rattle.chip_layout.proofs.Bodies.{entry-body}
use Rattle.chip_layout.proofs.Entries.{one-entry, one-id, one-name, same-entry}
use Rattle.sai_types.proofs.Exact.{entry-exact, id-exact, ids-tied}
use Rattle.sai_types.proofs.Listed.{found-in, in-found, object-of_thing, once-in}
use Rattle.sai_types.proofs.Rising.{in-back, in-insert, in-kept, whop_exact, whop_total}
use Rattle.sai_types.proofs.Weights.{put-fresh, rising-none, rising-put, same-hops}

module _ (layout : Layout Rid) (objects : Objects) (laid : IsLaidOut layout objects) where
  record IsFound (i : Rid) (t : Thing) : Type 0 where
    pub first : Rid
    pub second : Rid
    pub first_at : IsAt (Has layout) (first_name t) first
    pub second_at : IsAt (Has layout) (second_name t) second
    pub found : body_at objects (entry.Oid i) ≡ Some (body_with t first second)

  found_at : (i : Rid) (t : Thing) → layout i t → has_number t ≡ true → IsFound i t
  found_at i t h e =
      let has = laid.stand i t h in
      record {
        first = has.1.first;
        second = has.1.second;
        first_at = has.1.first_at;
        second_at = has.1.second_at;
        found = ap (body_at objects) (sym (entry-body (Has layout) i.0 t has.0 has.1 e)) ∙ has.2 ∙ ap Some has.1.body_is;
      }

  port_by : (t : Thing) (i : Rid) (lane : ℕ) → layout i t → name_of t ≡ name.Port lane → port_at objects i ≡ Some lane
  port_by (thing.Port p) i lane h e = ap body_port (found_at i (thing.Port p) h refl).found ∙ ap Some (ports (first_lane p.lanes) lane e)
  port_by _ i lane h e = absurd cc

  port_named : (lane : ℕ) (i : Rid) → Has layout (name.Port lane) i → port_at objects i ≡ Some lane
  port_named lane i x = port_by x.0 i lane x.1 x.2

  vlan_by : (t : Thing) (i : Rid) (v : ℕ) → layout i t → name_of t ≡ name.Vlan v → vlan_at objects i ≡ Some v
  vlan_by (thing.Vlan w) i v h e = ap body_vlan (found_at i (thing.Vlan w) h refl).found ∙ ap Some (vlans w v e)
  vlan_by _ i v h e = absurd cc

  vlan_named : (v : ℕ) (i : Rid) → Has layout (name.Vlan v) i → vlan_at objects i ≡ Some v
  vlan_named v i x = vlan_by x.0 i v x.1 x.2

  router_by : (t : Thing) (i : Rid) (n : VrfName) → layout i t → name_of t ≡ name.VirtualRouter n → router_at objects (Some i) ≡ Some (vrf.Named n)
  router_by (thing.VirtualRouter m) i n h e = ap (λ o. option_map vrf.Named (body_router o)) (found_at i (thing.VirtualRouter m) h refl).found ∙ ap (λ z. Some (vrf.Named z)) (routers m n e)
  router_by _ i n h e = absurd cc

  pub router_named : (v : Vrf) (j : Rid) → IsAt (Has layout) (router_name v) j → router_at objects (vr_with v j) ≡ Some v
  router_named vrf.Default j x = refl
  router_named (vrf.Named n) j x = router_by x.0 j n x.1 x.2

  bridge_port_by : (t : Thing) (i : Rid) (lane : ℕ) → layout i t → name_of t ≡ name.BridgePort lane → bridge_port_at objects i ≡ Some lane
  bridge_port_by (thing.BridgePort n) i lane h e =
      let f = found_at i (thing.BridgePort n) h refl in
      ap (bridge_port_of objects) f.found ∙ port_named n f.first f.first_at ∙ ap Some (bridge_ports n lane e)
  bridge_port_by _ i lane h e = absurd cc

  base_named : (on : Base) (v : Vrf) (i j : Rid) → IsAt (Has layout) (first_name (thing.Rif on v)) i → rif_of objects (Some (body_with (thing.Rif on v) i j)) ≡ Some on
  base_named (base.Port lane) v i j x = ap (option_map base.Port) (port_named lane i x)
  base_named (base.Vlan n) v i j x = ap (option_map base.Vlan) (vlan_named n i x)

  pub rif_by : (t : Thing) (i : Rid) (on : Base) → layout i t → name_of t ≡ name.Rif on → rif_at objects i ≡ Some on
  rif_by (thing.Rif b v) i on h e =
      let f = found_at i (thing.Rif b v) h refl in
      ap (rif_of objects) f.found ∙ base_named b v f.first f.second f.first_at ∙ ap Some (rifs b on e)
  rif_by _ i on h e = absurd cc

  pub hop_named : (hop : Hop) (r : Rid) → Has layout (name.Rif hop.on) r → hop_on objects r hop.ip ≡ Some hop
  hop_named hop r x = ap (option_map (λ b. record { on = b; ip = hop.ip })) (rif_by x.0 r hop.on x.1 x.2)

  next_hop_by : (t : Thing) (i : Rid) (hop : Hop) → layout i t → name_of t ≡ name.NextHop hop → next_hop_at objects i ≡ Some hop
  next_hop_by (thing.NextHop x) i hop h e =
      let f = found_at i (thing.NextHop x) h refl in
      ap (next_hop_of objects) f.found ∙ hop_named x f.first f.first_at ∙ ap Some (next_hops x hop e)
  next_hop_by _ i hop h e = absurd cc

  pub next_hop_named : (hop : Hop) (i : Rid) → Has layout (name.NextHop hop) i → next_hop_at objects i ≡ Some hop
  next_hop_named hop i x = next_hop_by x.0 i hop x.1 x.2

  pub whop_named : (whop : WHop) (i : Rid) → Has layout (name.NextHop whop.hop) i → whop_at objects i whop.weight ≡ Some whop
  whop_named whop i x = ap (option_map (λ h. record { hop = h; weight = whop.weight })) (next_hop_named whop.hop i x)

  -- ---- the hops of a group

  module _ (g : Rid) (hops : List WHop) (group : Has layout (name.Group hops) g) where
    -- an object that is no member of the group, and one that is
    abbrev IsOther : Thing → Body Rid → Type 0
    IsOther u d = ((hop : WHop) → name_of u ≡ name.GroupMember hops hop → ⊥) × ((others : Option (List WHop)) → with_member objects g d others ≡ others)

    abbrev IsMember : Rid → Thing → Body Rid → Type 0
    IsMember j u d = (hop : WHop) × layout j (thing.GroupMember hops hop) × (u ≡ thing.GroupMember hops hop) × ((others : Option (List WHop)) → with_member objects g d others ≡ both put_hop others (Some hop))

    member_by : (t : Bool) (j : Rid) (hs : List WHop) (hop : WHop) (a c : Rid) → same_id a g ≡ t → layout j (thing.GroupMember hs hop) → Has layout (name.Group hs) a → Has layout (name.NextHop hop.hop) c → IsOther (thing.GroupMember hs hop) (body.GroupMember a c hop.weight) ⊎ IsMember j (thing.GroupMember hs hop) (body.GroupMember a c hop.weight)
    member_by true j hs hop a c e h x y =
        let same : hs ≡ hops = groups hs hops (one-name layout objects laid (name.Group hs) (name.Group hops) g refl refl (subst (λ z. Has layout (name.Group hs) z) (id-exact a g e) x) group) in
        inr (
          hop,
          subst (λ z. layout j (thing.GroupMember z hop)) same h,
          ap (λ z. thing.GroupMember z hop) same,
          λ others. ap (λ b. if b then both put_hop others (whop_at objects c hop.weight) else others) e ∙ ap (both put_hop others) (whop_named hop c y),
        )
    member_by false j hs hop a c e h x y =
        inl (
          λ other is.
              let same = (group_members hs hops hop other is).0 in
              let ids = one-id layout objects laid (name.Group hops) a g (subst (λ z. Has layout (name.Group z) a) same x) group in
              false≢true (sym e ∙ ap (λ r. same_id r g) ids ∙ sym (ids-tied g g) ∙ same-refl (entry.Oid g)),
          λ others. ap (λ b. if b then both put_hop others (whop_at objects c hop.weight) else others) e,
        )

    kind_by : (j : Rid) (u : Thing) (a c : Rid) → layout j u → IsAt (Has layout) (first_name u) a → IsAt (Has layout) (second_name u) c → IsOther u (body_with u a c) ⊎ IsMember j u (body_with u a c)
    kind_by j (thing.GroupMember hs hop) a c h x y = member_by (same_id a g) j hs hop a c refl h x y
    kind_by j _ a c h x y = inl (λ hop is. absurd cc, λ others. refl)

    member_or_other : (j : Rid) (u : Thing) (d : Body Rid) → layout j u → IsBody (Has layout) u d → IsOther u d ⊎ IsMember j u d
    member_or_other j u d h x = subst (λ z. IsOther u z ⊎ IsMember j u z) (sym x.body_is) (kind_by j u x.first x.second h x.first_at x.second_at)

    -- the hops of the members among some objects
    pub record IsAmong (os : Objects) : Type 0 where
      pub those : List WHop
      pub is : hops_among objects g os ≡ Some those
      pub rising : AreRisingHops those
      pub sound : (hop : WHop) → IsIn hop those → (j : Rid) × layout j (thing.GroupMember hops hop)
      pub all : (e : Entry Rid) (d : Body Rid) (j : Rid) (hop : WHop) → IsIn (e, d) os → layout j (thing.GroupMember hops hop) → IsBody (Has layout) (thing.GroupMember hops hop) d → same_entry e (entry_of j.0 d) ≡ true → IsIn hop those

    -- two members with one hop are one, where objects that clash are one
    pub one-member : AreApart objects → (j k : Rid) (x y : WHop) → layout j (thing.GroupMember hops x) → layout k (thing.GroupMember hops y) → x.hop ≡ y.hop → x ≡ y
    one-member apart j k x y h i same =
        let one = laid.stand j (thing.GroupMember hops x) h in
        let two = laid.stand k (thing.GroupMember hops y) i in
        let group_ids = one-id layout objects laid (name.Group hops) one.1.first two.1.first one.1.first_at two.1.first_at in
        let hop_ids = one-id layout objects laid (name.NextHop x.hop) one.1.second two.1.second one.1.second_at (subst (λ z. Has layout (name.NextHop z) two.1.second) (sym same) two.1.second_at) in
        let clashes : clash one.0 two.0 ≡ true = ap₂ clash one.1.body_is two.1.body_is ∙ and_from _ _ (same_ids _ _ group_ids) (same_ids _ _ hop_ids) in
        let entries = apart.each (entry_of j.0 one.0) (entry_of k.0 two.0) one.0 two.0 one.2 two.2 clashes in
        (group_members hops hops x y (one-entry layout objects laid j k (thing.GroupMember hops x) (thing.GroupMember hops y) one.0 two.0 h i one.1 two.1 entries)).1
      where
        same_ids : (a b : Rid) → a ≡ b → same_id a b ≡ true
        same_ids a b e = eq-eqb a.0 b.0 (ap (λ (r : Rid). r.0) e)

    among_step : AreApart objects → (e : Entry Rid) (b : Body Rid) (os : Objects) (j : Rid) (u : Thing) → layout j u → IsBody (Has layout) u b → same_entry e (entry_of j.0 b) ≡ true → IsOther u b ⊎ IsMember j u b → IsAmong os → IsAmong ((e, b) ∷ os)
    among_step apart e b os j u h x at (inl other) rest = record {
      those = rest.those;
      is = other.1 (hops_among objects g os) ∙ rest.is;
      rising = rest.rising;
      sound = rest.sound;
      all = λ f d k hop in_it there is same. all_by f d k hop there is same in_it;
    }
      where
        all_by : (f : Entry Rid) (d : Body Rid) (k : Rid) (hop : WHop) → layout k (thing.GroupMember hops hop) → IsBody (Has layout) (thing.GroupMember hops hop) d → same_entry f (entry_of k.0 d) ≡ true → IsIn (f, d) ((e, b) ∷ os) → IsIn hop rest.those
        all_by f d k hop there is same (inr in_it) = rest.all f d k hop in_it there is same
        all_by f d k hop there is same (inl here) =
            let entries : f ≡ e = ap (λ (o : Entry Rid × Body Rid). o.0) here in
            let one = same-trans (entry_of j.0 b) e (entry_of k.0 d) (same-symm (entry_of j.0 b) e ∙ at) (ap (λ z. same_entry z (entry_of k.0 d)) (sym entries) ∙ same) in
            absurd (other.0 hop (one-entry layout objects laid j k u (thing.GroupMember hops hop) b d h there x is one))
    among_step apart e b os j u h x at (inr (hop, in_layout, thing_is, with_it)) rest = record {
      those = put_hop rest.those hop;
      is = with_it (hops_among objects g os) ∙ ap (λ o. both put_hop o (Some hop)) rest.is;
      rising = rising-put hop rest.those rest.rising;
      sound = λ other in_it. sound_by other (in-back whop_cmp whop_total whop_exact rest.those hop other (subst (IsIn other) fresh in_it));
      all = λ f d k other in_it there is same. subst (IsIn other) (sym fresh) (all_by f d k other there is same in_it);
    }
      where
        fresh : put_hop rest.those hop ≡ insert_key whop_cmp rest.those hop
        fresh = put-fresh hop rest.those (λ y in_it one. let at = rest.sound y in_it in one-member apart at.0 j y hop at.1 in_layout one)

        sound_by : (other : WHop) → (other ≡ hop) ⊎ IsIn other rest.those → (k : Rid) × layout k (thing.GroupMember hops other)
        sound_by other (inl is) = (j, subst (λ z. layout j (thing.GroupMember hops z)) (sym is) in_layout)
        sound_by other (inr in_it) = rest.sound other in_it

        all_by : (f : Entry Rid) (d : Body Rid) (k : Rid) (other : WHop) → layout k (thing.GroupMember hops other) → IsBody (Has layout) (thing.GroupMember hops other) d → same_entry f (entry_of k.0 d) ≡ true → IsIn (f, d) ((e, b) ∷ os) → IsIn other (insert_key whop_cmp rest.those hop)
        all_by f d k other there is same (inr in_it) = in-kept whop_cmp whop_total whop_exact rest.those hop other (rest.all f d k other in_it there is same)
        all_by f d k other there is same (inl here) =
            let entries : f ≡ e = ap (λ (o : Entry Rid × Body Rid). o.0) here in
            let one = same-trans (entry_of j.0 b) e (entry_of k.0 d) (same-symm (entry_of j.0 b) e ∙ at) (ap (λ z. same_entry z (entry_of k.0 d)) (sym entries) ∙ same) in
            let names = one-entry layout objects laid j k u (thing.GroupMember hops other) b d h there x is one in
            let hop_is : hop ≡ other = (group_members hops hops hop other (ap name_of (sym thing_is) ∙ names)).1 in
            subst (λ z. IsIn z (insert_key whop_cmp rest.those hop)) hop_is (in-insert whop_cmp whop_total whop_exact rest.those hop)

    pub among : AreApart objects → (os : Objects) → ((e : Entry Rid) (b : Body Rid) → IsIn (e, b) os → body_at objects e ≡ Some b) → IsAmong os
    among apart [] found = record { those = []; is = refl; rising = rising-none; sound = λ hop h. elim h [ ]; all = λ e d j hop in_it there is same. elim in_it [ ] }
    among apart (o ∷ os) found =
        let owner = laid.tied o.0 o.1 (found o.0 o.1 (inl refl)) in
        among_step apart o.0 o.1 os owner.0 owner.1 owner.2 owner.3 owner.4 (member_or_other owner.0 owner.1 o.1 owner.2 owner.3) (among apart os (λ e b h. found e b (inr h)))

  module _ (made : ℕ) (whole : IsWhole made objects) (grouped : AreGrouped layout) where
    group_by : (t : Thing) (g : Rid) (hops : List WHop) → layout g t → name_of t ≡ name.Group hops → hops_at objects g ≡ Some hops
    group_by (thing.Group hs) g hops h e =
        let same = groups hs hops e in
        let there : layout g (thing.Group hops) = subst (λ z. layout g (thing.Group z)) same h in
        let these = among g hops (thing.Group hops, there, refl) whole.apart objects (λ x b i. found-in objects x b whole.sorted i) in
        these.is
        ∙ ap Some (same-hops these.those hops these.rising (grouped.rising g hops there) (λ hop i. let m = these.sound hop i in grouped.only m.0 hops hop m.1) (λ hop i.
        let m = grouped.have g hops hop there i in
        let has = laid.stand m.0 (thing.GroupMember hops hop) m.1 in
        let object = in-found objects (entry_of m.0.0 has.0) has.0 has.2 in
        these.all object.0 has.0 m.0 hop object.2 m.1 has.1 (same-symm object.0 (entry_of m.0.0 has.0) ∙ object.1)))
    group_by _ g hops h e = absurd cc

    group_named : (hops : List WHop) (g : Rid) → Has layout (name.Group hops) g → hops_at objects g ≡ Some hops
    group_named hops g x = group_by x.0 g hops x.1 x.2

    both_named : {A B C : Type 0} (f : A → B → C) (o : Option A) (p : Option B) (a : A) (b : B) → o ≡ Some a → p ≡ Some b → both f o p ≡ Some (f a b)
    both_named f o p a b h i = ap₂ (both f) h i

    goal_named : (g : Goal) (a : Rid) → IsAt (Has layout) (goal_name g) a → goal_by (hops_at objects) objects (to_with g a) ≡ Some g
    goal_named goal.Drop a x = refl
    goal_named (goal.Direct on) a x = ap (option_map goal.Direct) (rif_by x.0 a on x.1 x.2)
    goal_named (goal.Via hop) a x = ap (option_map goal.Via) (next_hop_named hop a x)
    goal_named (goal.Group hops) a x = ap (option_map goal.Group) (group_named hops a x)

    -- what stands for a thing is named so
    thing_named : (i : Rid) (t : Thing) (e : Entry Rid) (a c : Rid) → layout i t → IsAt (Has layout) (first_name t) a → IsAt (Has layout) (second_name t) c → same_entry e (entry_of i.0 (body_with t a c)) ≡ true → thing_of objects (e, body_with t a c) ≡ Some t
    thing_named i (thing.Port p) e a c h x y at = refl
    thing_named i (thing.Vlan v) e a c h x y at = refl
    thing_named i (thing.VirtualRouter n) e a c h x y at = refl
    thing_named i (thing.BridgePort lane) e a c h x y at = ap (option_map thing.BridgePort) (port_named lane a x)
    thing_named i (thing.VlanMember v lane tagging) e a c h x y at = both_named (λ w p. thing.VlanMember w p tagging) _ _ v lane (vlan_named v a x) (bridge_port_by y.0 c lane y.1 y.2)
    thing_named i (thing.Rif on v) e a c h x y at = both_named thing.Rif _ _ on v (base_named on v a c x) (router_named v c y)
    thing_named i (thing.Own v ip) e a c h x y at = ap (option_map (λ z. thing.Own z ip)) (router_named v c y)
    thing_named i (thing.Neighbor hop mac) e a c h x y at = ap (option_map (λ z. thing.Neighbor z mac)) (hop_named hop a x)
    thing_named i (thing.NextHop hop) e a c h x y at = ap (option_map thing.NextHop) (hop_named hop a x)
    thing_named i (thing.Group hops) e a c h x y at = ap (λ z. thing_of objects (z, body.Group)) (entry-exact e (entry.Oid i) at) ∙ ap (option_map thing.Group) (group_named hops i (thing.Group hops, h, refl))
    thing_named i (thing.GroupMember hops hop) e a c h x y at = both_named thing.GroupMember _ _ hops hop (group_named hops a x) (whop_named hop c y)
    thing_named i (thing.Route v prefix g) e a c h x y at = both_named (λ z w. thing.Route z prefix w) _ _ v g (router_named v c y) (goal_named g a x)

    pub thing-laid : (i : Rid) (t : Thing) (e : Entry Rid) (b : Body Rid) → layout i t → IsBody (Has layout) t b → same_entry e (entry_of i.0 b) ≡ true → thing_of objects (e, b) ≡ Some t
    thing-laid i t e b h x at = ap (λ z. thing_of objects (e, z)) x.body_is ∙ thing_named i t e x.first x.second h x.first_at x.second_at (ap (λ z. same_entry e (entry_of i.0 z)) (sym x.body_is) ∙ at)

    each_thing : (t : Option Thing) → IsIn t (named objects) → (x : Thing) × (t ≡ Some x) × view_of layout x
    each_thing t in_it =
        let object = object-of_thing objects objects t in_it in
        let owner = laid.tied object.0 object.1 (found-in objects object.0 object.1 whole.sorted object.2) in
        (owner.1, object.3 ∙ thing-laid owner.0 owner.1 object.0 object.1 owner.2 owner.3 owner.4, (owner.0, owner.2))

    once_thing : (x : Thing) → view_of layout x → IsOnceIn (Some x) (named objects)
    once_thing x (i, h) =
        let has = laid.stand i x h in
        let object = in-found objects (entry_of i.0 has.0) has.0 has.2 in
        let at : same_entry object.0 (entry_of i.0 has.0) ≡ true = same-symm object.0 (entry_of i.0 has.0) ∙ object.1 in
        once-in objects objects (Some x) object.0 has.0 whole.sorted object.2 (thing-laid i x object.0 has.0 h has.1 at) (λ f d in_it its.
        let owner = laid.tied f d (found-in objects f d whole.sorted in_it) in
        let same : owner.1 ≡ x = same_Some owner.1 x (sym (thing-laid owner.0 owner.1 f d owner.2 owner.3 owner.4) ∙ its) in
        let entries = same-entry layout objects laid owner.0 i owner.1 x d has.0 owner.2 h owner.3 has.1 (ap name_of same) in
        same-trans f (entry_of i.0 has.0) object.0 (ap (same_entry f) (sym entries) ∙ owner.4) object.1)

    -- a chip that is laid out is alike to the things that stand
    pub alike-laid : IsAlike objects (view_of layout)
    alike-laid = record { each = each_thing; once = once_thing }
