-- a new view that legal calls made is one that a plan can lead to
use Rattle.std.proofs.Common.{◌≡◌, ◌↔◌, inl, inr, ℕ, true, List, [], ◌∷◌, map, Option, None, Some, option_map, refl, sym, ap, ap₂, ◌∙◌, subst}
use Rattle.std.specs.Option.{is_some}
use Rattle.std.proofs.lemmas.Bool.{and_parts, false≢true}
use Rattle.std.proofs.lemmas.Option.{same_Some}
use Rattle.sai_types.specs.declared.ids.Rid.{Rid}
use Rattle.sai_types.specs.declared.ids.Vid.{Vid}
use Rattle.sai_types.specs.declared.body.Body.{Body}
use Rattle.sai_types.specs.declared.body.Entry.{Entry}
use Rattle.sai_types.specs.declared.body.Entry.TheVariants as entry
use Rattle.sai_types.specs.declared.body.Object.{Object}
use Rattle.swss_types.specs.declared.address.Ip.{Ip}
use Rattle.swss_types.specs.declared.vrf.Vrf.{Vrf}
use Rattle.swss_types.specs.declared.vrf.Vrf.TheVariants as vrf
use Rattle.sai_types.specs.declared.hop.Base.{Base}
use Rattle.sai_types.specs.declared.hop.Hop.{Hop}
use Rattle.sai_types.specs.declared.weight.WHop.{WHop}
use Rattle.sai_types.specs.declared.thing.Goal.{Goal}
use Rattle.sai_types.specs.declared.thing.Goal.TheVariants as goal
use Rattle.sai_types.specs.declared.thing.Thing.{Thing}
use Rattle.sai_types.specs.declared.thing.Thing.TheVariants as thing
use Rattle.sai_types.specs.After.{entry_of}
use Rattle.sai_types.specs.Alike.{IsIn}
use Rattle.sai_types.specs.Hop.{AreRisingHops}
use Rattle.sai_types.specs.Named.{first_lane, named, thing_by, thing_of, things_among, those}
use Rattle.sai_types.specs.Names as name
use Rattle.sai_types.specs.Names.{ThingName, Refers, base_name, goal_names, name_kind, name_of, with_router}
use Rattle.sai_types.specs.Objects.{Objects, body_at}
use Rattle.sai_types.specs.References.{refers_well}
use Rattle.sai_types.specs.Refusal.{clash}
use Rattle.sai_types.proofs.Exact.{entry-exact}
use Rattle.sai_types.proofs.Listed.{found-in, in-found, object-of_thing}
use Rattle.sai_types.proofs.Membership.{in-map, map-in}
use Rattle.chip_names.specs.Naming.{entries_of}
use Rattle.chip_layout.specs.Bodies.{IsAt, IsBody, body_with, first_name, goal_name, is_numbered, router_name, second_name}
use Rattle.chip_layout.specs.Counted.{AreDistinct}
use Rattle.chip_layout.specs.Layout.{Has, Layout, has_number}
use Rattle.chip_layout.specs.Renamed.{body_renamed, entry_renamed}
use Rattle.chip_layout.specs.Seen.{tagged}
use Rattle.chip_layout.proofs.Answering.{in_those, thing_in, those_in}
use Rattle.chip_layout.proofs.Bodies.{entry-body, first-numbered, second-numbered}
use Rattle.chip_layout.proofs.Shapes.{renamed_with}
use Rattle.chip_layout.proofs.Distinct.{distinct-by}
use Rattle.plan_laws.specs.Applied.{IsView, chip_things}
use Rattle.plan_laws.specs.Calls.{viewed}
use Rattle.plan_laws.specs.Old.{old_layout, old_things, tag_of}
use Rattle.plan_laws.specs.Views.{PortsApart}
use Rattle.plan_laws.proofs.Starting.{group-seen, group-there, hops-rise, hops-same, old-laid, old-named, old-seen, old-tagged, seen-old}
use Rattle.view_match.specs.Keys.{natural_key_of}
use Rattle.view_match.specs.Listed.{object_as, objects_as, rid_of}
use Rattle.view_match.specs.Pairs.{new_keys}
use Rattle.apply_laws.specs.Viewed.{AreObjects, IsEntry, IsMadeView, IsViewOf, things_in}
use Rattle.apply_laws.proofs.Order.Laying.{back, in_groups, no_oid, oid_back, same-thing, tag-hops, vid_by, vid_of}
use Rattle.apply_laws.proofs.Order.Raw.{found-raw, raw-found, thing-raw}
use Rattle.apply_laws.proofs.Order.Standing.{IsStood, stood}

abbrev Item : Type 0
Item = Entry Rid × Body Rid

abbrev item_of : Object Vid → Item
item_of o = ((object_as o).entry, (object_as o).body)

in_items : (new : List (Object Vid)) (o : Object Vid) → IsIn o new → IsIn (item_of o) (entries_of (objects_as new))
in_items [] o i = elim i [ ]
in_items (p ∷ ps) o (inl is) = inl (ap item_of is)
in_items (p ∷ ps) o (inr i) = inr (in_items ps o i)

items_in : (new : List (Object Vid)) (x : Item) → IsIn x (entries_of (objects_as new)) → (o : Object Vid) × IsIn o new × (x ≡ item_of o)
items_in [] x i = elim i [ ]
items_in (p ∷ ps) x (inl is) = (p, inl refl, is)
items_in (p ∷ ps) x (inr i) = let r = items_in ps x i in (r.0, inr r.1, r.2)

module _ {made : ℕ} {S : Objects} {new : List (Object Vid)} (m : IsMadeView made S new) where
  abbrev R : Objects
  R = entries_of (objects_as new)

  abbrev N : List Thing
  N = chip_things S

  abbrev tag : Rid → List WHop
  tag = tag_of S N

  abbrev L : Layout Rid
  L = old_layout S N

  -- an object of the view with its thing
  abbrev pub pair_with : Vid → Thing → Vid × Thing
  pair_with v t = (v, t)

  abbrev pub thing_at : Object Vid → Option (Vid × Thing)
  thing_at o = option_map (pair_with (vid_of o.entry)) (thing_by (tagged (tag_of S (chip_things S))) S (item_of o))

  abbrev pub laid_things : List (Vid × Thing)
  laid_things = those (map thing_at new)

  found : (o : Object Vid) → IsIn o new → body_at S (object_as o).entry ≡ Some (object_as o).body
  found o i = found-raw m.chip R m.same N (object_as o).entry (object_as o).body (in_items new o i)

  each : (o : Object Vid) → IsIn o new → IsStood m.chip N (object_as o).entry (object_as o).body
  each o i = stood m.chip N (object_as o).entry (object_as o).body (found o i)

  at-is : (o : Object Vid) → (i : IsIn o new) → thing_at o ≡ Some (vid_of o.entry, (each o i).thing)
  at-is o i = ap (option_map (pair_with (vid_of o.entry))) (each o i).is

  things-in : (o : Object Vid) → (i : IsIn o new) → IsIn (vid_of o.entry, (each o i).thing) laid_things
  things-in o i = in_those (vid_of o.entry, (each o i).thing) (map thing_at new) (subst (λ z. IsIn z (map thing_at new)) (at-is o i) (in-map thing_at new o i))

  -- a thing of the view is that of an object
  record IsOf (v : Vid) (t : Thing) : Type 0 where
    object : Object Vid
    among : IsIn object new
    vid : v ≡ vid_of object.entry
    thing : (each object among).thing ≡ t

  in-things : (v : Vid) (t : Thing) → IsIn (v, t) laid_things → IsOf v t
  in-things v t i =
      let o = map-in thing_at new (Some (v, t)) (those_in (v, t) (map thing_at new) i) in
      let same : (v, t) ≡ (vid_of o.0.entry, (each o.0 o.1).thing) = same_Some (v, t) (vid_of o.0.entry, (each o.0 o.1).thing) (o.2 ∙ at-is o.0 o.1) in
      record { object = o.0; among = o.1; vid = ap (λ (z : Vid × Thing). z.0) same; thing = sym (ap (λ (z : Vid × Thing). z.1) same) }

  -- what stands is that of an object of the view
  layout-in : (r : Rid) (t : Thing) → L r t → (o : Object Vid) × (i : IsIn o new) × ((each o i).thing ≡ t) × ((each o i).id ≡ r)
  layout-in r t s =
      let o = items_in new (s.entry, s.body) (raw-found m.chip R m.same N s.entry s.body s.found) in
      let x = each o.0 o.1 in
      let same : x.thing ≡ t = same_Some x.thing t (sym x.is ∙ ap (thing_by (tagged tag) S) (sym o.2) ∙ s.thing) in
      (o.0, o.1, same, ((old-laid m.chip N).one x.id r x.thing t x.stands s (ap name_of same)).0)

  -- the identifier of a numbered thing's object
  entry-is : (o : Object Vid) → (i : IsIn o new) → has_number (each o i).thing ≡ true → o.entry ≡ entry.Oid (vid_by (each o i).id)
  entry-is o i number =
      let x = each o i in
      oid_back o.entry x.id (x.entry ∙ entry-body (Has L) x.id.0 x.thing (object_as o).body x.of number)

  -- ---- names in the view

  has-new : (k : ThingName) (r : Rid) → is_numbered (name_kind k) ≡ true → Has L k r → Has (viewed laid_things) k (vid_by r)
  has-new k r number h =
      let o = layout-in r h.0 h.1 in
      let numbered : has_number (each o.0 o.1).thing ≡ true = ap has_number o.2 ∙ ap (λ z. is_numbered (name_kind z)) h.2 ∙ number in
      let vid : vid_of o.0.entry ≡ vid_by r = ap vid_of (entry-is o.0 o.1 numbered) ∙ ap vid_by o.3 in
      (h.0, subst (λ z. IsIn z laid_things) (ap₂ pair_with vid o.2) (things-in o.0 o.1), h.2)

  at-new : (o : Option ThingName) (r : Rid) → ((k : ThingName) → o ≡ Some k → is_numbered (name_kind k) ≡ true) → IsAt (Has L) o r → IsAt (Has (viewed laid_things)) o (vid_by r)
  at-new None r number h = tt
  at-new (Some k) r number h = has-new k r (number k refl) h

  body-new : (o : Object Vid) → (i : IsIn o new) → IsBody (Has (viewed laid_things)) (each o i).thing o.body
  body-new o i =
      let x = (each o i).of in
      let t = (each o i).thing in
      record {
        first = vid_by x.first;
        second = vid_by x.second;
        first_at = at-new (first_name t) x.first (first-numbered t) x.first_at;
        second_at = at-new (second_name t) x.second (second-numbered t) x.second_at;
        body_is = sym (back o.body) ∙ ap (body_renamed vid_by) x.body_is ∙ renamed_with vid_by t x.first x.second;
      }

  entry-new : (o : Object Vid) → (i : IsIn o new) → IsEntry (vid_of o.entry) (each o i).thing o.entry
  entry-new o i = record {
    some = λ number. let is = entry-is o i number in is ∙ ap (λ f. entry.Oid (vid_of f)) (sym is);
    none = λ number w is.
        let x = each o i in
        no_oid x.id.0 x.thing x.of.first x.of.second number (rid_of w) (ap (entry_of x.id.0) (sym x.of.body_is) ∙ sym x.entry ∙ ap (entry_renamed rid_of) is);
  }

  objects-new : (os : List (Object Vid)) → ((o : Object Vid) → IsIn o os → IsIn o new) → AreObjects (viewed laid_things) (those (map thing_at os)) os
  objects-new [] all = tt
  objects-new (o ∷ os) all =
      let i = all o (inl refl) in
      subst (λ z. AreObjects (viewed laid_things) (those (z ∷ map thing_at os)) (o ∷ os)) (sym (at-is o i)) (body-new o i, entry-new o i, objects-new os (λ p j. all p (inr j)))

  key-is : (o : Object Vid) → (i : IsIn o new) → option_map natural_key_of (thing_of R (item_of o)) ≡ Some (natural_key_of (each o i).thing)
  key-is o i = ap (option_map natural_key_of) (thing-raw m.chip R m.same N (object_as o).entry (object_as o).body ∙ same-thing m (object_as o).entry (object_as o).body (found o i) ∙ (each o i).is)

  keys-new : (os : List (Object Vid)) → ((o : Object Vid) → IsIn o os → IsIn o new) → map (option_map natural_key_of) (things_among R (entries_of (objects_as os))) ≡ map (λ x. Some (natural_key_of x.1)) (those (map thing_at os))
  keys-new [] all = refl
  keys-new (o ∷ os) all =
      let i = all o (inl refl) in
      ap₂ (λ x xs. x ∷ xs) (key-is o i) (keys-new os (λ p j. all p (inr j))) ∙ ap (λ z. map (λ (x : Vid × Thing). Some (natural_key_of x.1)) (those (z ∷ map thing_at os))) (sym (at-is o i))

  -- ---- the things of the view

  stands-for : (t : Thing) → IsIn t (things_in laid_things) → (r : Rid) × L r t
  stands-for t i =
      let x = map-in (λ (z : Vid × Thing). z.1) laid_things t i in
      let o = in-things x.0.0 x.0.1 x.1 in
      ((each o.object o.among).id, subst (L (each o.object o.among).id) (o.thing ∙ sym x.2) (each o.object o.among).stands)

  stands-in : (r : Rid) (t : Thing) → L r t → IsIn t (things_in laid_things)
  stands-in r t s = let o = layout-in r t s in subst (λ z. IsIn z (things_in laid_things)) o.2 (in-map (λ (z : Vid × Thing). z.1) laid_things (vid_of o.0.entry, (each o.0 o.1).thing) (things-in o.0 o.1))

  into-old : (t : Thing) → IsIn t (things_in laid_things) → IsIn t (old_things S N)
  into-old t i = let s = stands-for t i in seen-old m.chip N s.0 t s.1

  from-old : (t : Thing) → IsIn t (old_things S N) → IsIn t (things_in laid_things)
  from-old t i = let s = old-seen m.chip N t i in stands-in s.0 t s.1

  -- each thing's references stand
  only_refers : (l : ThingName) (i : Rid) → Has L l i → (k : ThingName) → IsIn k (l ∷ []) → (j : Rid) × Has L k j
  only_refers l i at k (inl is) = (i, subst (λ z. Has L z i) (sym is) at)
  only_refers l i at k (inr none) = elim none [ ]

  goal_refers : (g : Goal) (i : Rid) → IsAt (Has L) (goal_name g) i → (k : ThingName) → IsIn k (goal_names g) → (j : Rid) × Has L k j
  goal_refers goal.Drop i at k r = elim r [ ]
  goal_refers (goal.Direct on) i at k r = only_refers (name.Rif on) i at k r
  goal_refers (goal.Via hop) i at k r = only_refers (name.NextHop hop) i at k r
  goal_refers (goal.Group hs) i at k r = only_refers (name.Group hs) i at k r

  router_refers : (v : Vrf) (j : Rid) (ks : List ThingName) → IsAt (Has L) (router_name v) j → ((k : ThingName) → IsIn k ks → (r : Rid) × Has L k r) → (k : ThingName) → IsIn k (with_router v ks) → (r : Rid) × Has L k r
  router_refers vrf.Default j ks at rest k r = rest k r
  router_refers (vrf.Named label) j ks at rest k (inl is) = (j, subst (λ z. Has L z j) (sym is) at)
  router_refers (vrf.Named label) j ks at rest k (inr r) = rest k r

  -- the neighbour that a next hop goes through
  neigh_of : (n : ℕ) (t : Thing) (i j r : Rid) (ip : _) → entry_of n (body_with t i j) ≡ entry.Neigh r ip → (h : Hop) × (mac : _) × (t ≡ thing.Neighbor h mac) × (i ≡ r) × (h.ip ≡ ip)
  neigh_of n (thing.Neighbor h mac) i j r ip e = let one : i ≡ r = cc in let two : h.ip ≡ ip = cc in (h, mac, refl, one, two)
  neigh_of n (thing.Own v x) i j r ip e = absurd cc
  neigh_of n (thing.Route v p g) i j r ip e = absurd cc
  neigh_of n (thing.Port p) i j r ip e = absurd cc
  neigh_of n _ i j r ip e = absurd cc

  one_rif : (a b : name.ThingName) (i j : Rid) → is_numbered (name_kind a) ≡ true → is_numbered (name_kind b) ≡ true → i ≡ j → Has L a i → Has L b j → a ≡ b
  one_rif a b i j x y same h k =
      let there = subst (λ z. L z h.0) same h.1 in
      let is = (old-laid m.chip N).ids j h.0 k.0 there k.1 (ap (λ z. is_numbered (name_kind z)) h.2 ∙ x) (ap (λ z. is_numbered (name_kind z)) k.2 ∙ y) in
      sym h.2 ∙ ap name_of is ∙ k.2

  reached : (r : Rid) (hop : Hop) → Has L (name.Rif hop.on) r → is_some (body_at S (entry.Neigh r hop.ip)) ≡ true → (j : Rid) × Has L (name.Neighbor hop) j
  reached r hop has some = by (body_at S (entry.Neigh r hop.ip)) refl
    where
      make : Base → Ip → Hop
      make on ip = record { on = on; ip = ip }

      by : (o : Option (Body Rid)) → body_at S (entry.Neigh r hop.ip) ≡ o → (j : Rid) × Has L (name.Neighbor hop) j
      by None e = absurd (false≢true (sym (ap is_some e) ∙ some))
      by (Some b) e =
          let x = stood m.chip N (entry.Neigh r hop.ip) b e in
          let n = neigh_of x.id.0 x.thing x.of.first x.of.second r hop.ip (ap (entry_of x.id.0) (sym x.of.body_is) ∙ sym x.entry) in
          let at : Has L (name.Rif n.0.on) x.of.first = subst (λ z. IsAt (Has L) (first_name z) x.of.first) n.2 x.of.first_at in
          let rifs = one_rif (name.Rif n.0.on) (name.Rif hop.on) x.of.first r refl refl n.3 at has in
          let ons : n.0.on ≡ hop.on = cc in
          let hops : n.0 ≡ hop = ap₂ make ons n.4 in
          (x.id, (x.thing, x.stands, ap name_of n.2 ∙ ap name.Neighbor hops))

  refer-by : (t : Thing) (i j : Rid) (b : Body Rid) → b ≡ body_with t i j → IsAt (Has L) (first_name t) i → IsAt (Has L) (second_name t) j → refers_well S b ≡ true → (k : ThingName) → Refers t k → (r : Rid) × Has L k r
  refer-by (thing.Port p) i j b is x y well k r = elim r [ ]
  refer-by (thing.Vlan v) i j b is x y well k r = elim r [ ]
  refer-by (thing.VirtualRouter m) i j b is x y well k r = elim r [ ]
  refer-by (thing.Own v ip) i j b is x y well k r = router_refers v j [] y (λ l h. elim h [ ]) k r
  refer-by (thing.Group hs) i j b is x y well k r = elim r [ ]
  refer-by (thing.BridgePort n) i j b is x y well k (inl e) = (i, subst (λ z. Has L z i) (sym e) x)
  refer-by (thing.BridgePort n) i j b is x y well k (inr none) = elim none [ ]
  refer-by (thing.VlanMember v n g) i j b is x y well k (inl e) = (i, subst (λ z. Has L z i) (sym e) x)
  refer-by (thing.VlanMember v n g) i j b is x y well k (inr (inl e)) = (j, subst (λ z. Has L z j) (sym e) y)
  refer-by (thing.VlanMember v n g) i j b is x y well k (inr (inr none)) = elim none [ ]
  refer-by (thing.Rif on v) i j b is x y well k r = router_refers v j (base_name on ∷ []) y (only_refers (base_name on) i x) k r
  refer-by (thing.Neighbor h mac) i j b is x y well k (inl e) = (i, subst (λ z. Has L z i) (sym e) x)
  refer-by (thing.Neighbor h mac) i j b is x y well k (inr none) = elim none [ ]
  refer-by (thing.NextHop h) i j b is x y well k (inl e) = (i, subst (λ z. Has L z i) (sym e) x)
  refer-by (thing.NextHop h) i j b is x y well k (inr (inl e)) =
      let h' = ap (refers_well S) (sym is) ∙ well in
      let n = reached i h x (and_parts _ _ (and_parts _ _ h').1).0 in
      (n.0, subst (λ z. Has L z n.0) (sym e) n.1)
  refer-by (thing.NextHop h) i j b is x y well k (inr (inr none)) = elim none [ ]
  refer-by (thing.GroupMember hs h) i j b is x y well k (inl e) = (i, subst (λ z. Has L z i) (sym e) x)
  refer-by (thing.GroupMember hs h) i j b is x y well k (inr (inl e)) = (j, subst (λ z. Has L z j) (sym e) y)
  refer-by (thing.GroupMember hs h) i j b is x y well k (inr (inr none)) = elim none [ ]
  refer-by (thing.Route v p g) i j b is x y well k r = router_refers v j (goal_names g) y (goal_refers g i x) k r

  refers : (t : Thing) (k : ThingName) → IsIn t (things_in laid_things) → Refers t k → (u : Thing) × IsIn u (things_in laid_things) × (name_of u ≡ k)
  refers t k i r =
      let s = stands-for t i in
      let o = layout-in s.0 t s.1 in
      let x = each o.0 o.1 in
      let well = m.chip.whole.refer.each (object_as o.0).entry (object_as o.0).body (found o.0 o.1) in
      let h = refer-by x.thing x.of.first x.of.second (object_as o.0).body x.of.body_is x.of.first_at x.of.second_at well k (subst (λ z. Refers z k) (sym o.2) r) in
      (h.1.0, stands-in h.0 h.1.0 h.1.1, h.1.2)

  -- ---- its groups are whole

  up : (hops : List WHop) → IsIn (thing.Group hops) (things_in laid_things) → AreRisingHops hops
  up hops i =
      let s = stands-for (thing.Group hops) i in
      let g = group-seen m.chip N s.0 hops s.1 in
      subst AreRisingHops (sym (g.0 ∙ tag-hops m s.0 (in_groups m s.0 g.1))) (hops-rise S s.0)

  group-of : (hops : List WHop) (hop : WHop) → IsIn (thing.GroupMember hops hop) (things_in laid_things) → IsIn (thing.Group hops) (things_in laid_things)
  group-of hops hop i =
      let s = stands-for (thing.GroupMember hops hop) i in
      let b = (old-laid m.chip N).stand s.0 (thing.GroupMember hops hop) s.1 in
      stands-in b.1.first (thing.Group hops) (group-there m.chip N hops b.1.first b.1.first_at)

  is-view : IsView (things_in laid_things)
  is-view = record {
    named = record {
      one = λ t u i j same. (old-named m.chip N).one t u (into-old t i) (into-old u j) same;
      proper = λ v p g i. (old-named m.chip N).proper v p g (into-old (thing.Route v p g) i);
    };
    within = record { refers = refers };
    grouped = record {
      rising = up;
      have = λ hops hop i h. from-old (thing.GroupMember hops hop) ((old-tagged m.chip N).have hops hop (into-old (thing.Group hops) i) (subst (IsIn hop) (sym (hops-same m.chip N hops (up hops i))) h));
      only = λ hops hop i. subst (IsIn hop) (hops-same m.chip N hops (up hops (group-of hops hop i))) ((old-tagged m.chip N).only hops hop (into-old (thing.GroupMember hops hop) i));
    };
  }

  -- ---- no two have one name, one identifier or a lane in common

  those_some : {X Y : Type 0} (f : X → Y) (xs : List X) → those (map (λ x. Some (f x)) xs) ≡ map f xs
  those_some f [] = refl
  those_some f (x ∷ xs) = ap (λ l. f x ∷ l) (those_some f xs)

  keys-are : new_keys new ≡ map (λ x. Some (natural_key_of x.1)) laid_things
  keys-are = keys-new new (λ o i. i)

  keys-apart : AreDistinct (map (λ x. natural_key_of x.1) laid_things)
  keys-apart = subst AreDistinct (ap those keys-are ∙ those_some (λ (x : Vid × Thing). natural_key_of x.1) laid_things) m.distinct

  names-apart : AreDistinct (map (λ x. name_of x.1) laid_things)
  names-apart = distinct-by (λ (x : Vid × Thing). natural_key_of x.1) (λ (x : Vid × Thing). name_of x.1) laid_things (λ x y i j e. ap natural_key_of (is-view.named.one x.1 y.1 (in-map (λ (z : Vid × Thing). z.1) laid_things x i) (in-map (λ (z : Vid × Thing). z.1) laid_things y j) e)) keys-apart

  one-id : (v : Vid) (t u : Thing) → IsIn (v, t) laid_things → IsIn (v, u) laid_things → has_number t ≡ true → has_number u ≡ true → t ≡ u
  one-id v t u i j x y =
      let o = in-things v t i in
      let p = in-things v u j in
      let a : v ≡ vid_by (each o.object o.among).id = o.vid ∙ ap vid_of (entry-is o.object o.among (ap has_number o.thing ∙ x)) in
      let b : v ≡ vid_by (each p.object p.among).id = p.vid ∙ ap vid_of (entry-is p.object p.among (ap has_number p.thing ∙ y)) in
      let ids : (each o.object o.among).id ≡ (each p.object p.among).id = ap rid_of (sym a ∙ b) in
      (old-laid m.chip N).ids (each p.object p.among).id t u (subst (λ z. L z t) ids (subst (L (each o.object o.among).id) o.thing (each o.object o.among).stands)) (subst (L (each p.object p.among).id) p.thing (each p.object p.among).stands) x y

  lanes-in : PortsApart (things_in laid_things) (things_in laid_things)
  lanes-in p q i j share =
      let s = stands-for (thing.Port p) i in
      let r = stands-for (thing.Port q) j in
      let a = (old-laid m.chip N).stand s.0 (thing.Port p) s.1 in
      let b = (old-laid m.chip N).stand r.0 (thing.Port q) r.1 in
      let clashes = ap₂ clash a.1.body_is b.1.body_is ∙ share in
      let entries = entry-exact (entry_of s.0.0 a.0) (entry_of r.0.0 b.0) (m.chip.whole.apart.each (entry_of s.0.0 a.0) (entry_of r.0.0 b.0) a.0 b.0 a.2 b.2 clashes) in
      let bodies : a.0 ≡ b.0 = same_Some a.0 b.0 (sym a.2 ∙ ap (body_at S) entries ∙ b.2) in
      let ports = sym a.1.body_is ∙ bodies ∙ b.1.body_is in
      let lanes : p.lanes ≡ q.lanes = cc in
      ap (λ ls. name.Port (first_lane ls)) lanes

  pub view-of : IsViewOf laid_things new
  view-of = record {
    view = is-view;
    objects = objects-new new (λ o i. i);
    keys = keys-are;
    once = names-apart;
    ids = one-id;
    lanes = record { beside = λ p q i j share. elim j [ ]; within = lanes-in };
  }

  -- and they are those that the chip would show
  pub shown-of : (t : Thing) → IsIn t (things_in laid_things) ↔ IsIn t (chip_things S)
  shown-of t = (
    λ i.
        let s = stands-for t i in
        let o = layout-in s.0 t s.1 in
        let e = (object_as o.0).entry in
        let b = (object_as o.0).body in
        let is : thing_of S (e, b) ≡ Some t = same-thing m e b (found o.0 o.1) ∙ (each o.0 o.1).is ∙ ap Some o.2 in
        let f = in-found S e b (found o.0 o.1) in
        let inside = subst (λ z. IsIn (z, b) S) (sym (entry-exact e f.0 f.1)) f.2 in
        in_those t (named S) (subst (λ z. IsIn z (named S)) is (thing_in S S e b inside)),
    λ i.
        let o = object-of_thing S S (Some t) (those_in t (named S) i) in
        let at = found-in S o.0 o.1 m.chip.whole.sorted o.2 in
        let x = stood m.chip N o.0 o.1 at in
        let is : x.thing ≡ t = same_Some x.thing t (sym x.is ∙ sym (same-thing m o.0 o.1 at) ∙ sym o.3) in
        stands-in x.id t (subst (L x.id) is x.stands),
  )
