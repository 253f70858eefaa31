-- the objects of both sides by their places, and which of them are paired
use Rattle.std.proofs.Common.{◌≡◌, inl, ℕ, zero, suc, List, [], ◌∷◌, map, Option, None, Some, option_map, refl, sym, ap, ap₂, ◌∙◌, subst}
use Rattle.std.specs.List.{slice_get}
use Rattle.std.proofs.lemmas.Bool.{false≢true}
use Rattle.std.proofs.lemmas.Option.{same_Some, slice_get-map}
use Rattle.sai_types.specs.declared.ids.Rid.{Rid}
use Rattle.sai_types.specs.declared.ids.Vid.{Vid}
use Rattle.sai_types.specs.declared.body.Body.{Body}
use Rattle.sai_types.specs.declared.body.Entry.{Entry}
use Rattle.sai_types.specs.declared.body.Object.{Object}
use Rattle.sai_types.specs.declared.weight.WHop.{WHop}
use Rattle.sai_types.specs.declared.thing.PortThing.{PortThing}
use Rattle.sai_types.specs.declared.thing.Thing.{Thing}
use Rattle.sai_types.specs.declared.thing.Thing.TheVariants as thing
use Rattle.sai_types.specs.After.{entry_of}
use Rattle.sai_types.specs.Alike.{IsIn}
use Rattle.sai_types.specs.Made.{AreSorted, same_entry}
use Rattle.sai_types.specs.Named.{named, thing_by, thing_of}
use Rattle.sai_types.specs.Names.{name_of}
use Rattle.sai_types.specs.Objects.{Objects, body_at}
use Rattle.sai_types.proofs.Found.{same-refl}
use Rattle.sai_types.proofs.Listed.{apart-behind, found-in, sorted-behind}
use Rattle.sai_types.proofs.Membership.{in-map, map-in}
use Rattle.chip_names.specs.Naming.{entries_of}
use Rattle.chip_layout.specs.Bodies.{IsBody}
use Rattle.chip_layout.specs.Counted.{AreDistinct}
use Rattle.chip_layout.specs.Layout.{Has, Layout}
use Rattle.chip_layout.specs.Seen.{tagged}
use Rattle.chip_layout.proofs.Answering.{in_those, thing_in}
use Rattle.chip_layout.proofs.Laid.{body-one}
use Rattle.plan_laws.specs.Applied.{IsListedChip, chip_things}
use Rattle.plan_laws.specs.Calls.{viewed}
use Rattle.plan_laws.specs.Old.{old_layout, tag_of}
use Rattle.plan_laws.proofs.Doubles.{shown_as}
use Rattle.plan_laws.proofs.Starting.{old-laid}
use Rattle.view_match.specs.declared.key.NaturalKey.{NaturalKey}
use Rattle.view_match.specs.declared.key.NaturalKey.TheVariants as key
use Rattle.view_match.specs.Keys.{natural_key_of, keys_of_objects}
use Rattle.view_match.specs.Listed.{objects_as}
use Rattle.view_match.specs.Paired.{HasKey}
use Rattle.view_match.specs.Pairs.{best_from, pairs_of, partner_of}
use Rattle.view_match.proofs.Best.{found-none}
use Rattle.view_match.proofs.Paired.{IsFirst, length-keys, paired-pairs, pairs-paired, partner-first}
use Rattle.apply_laws.specs.Viewed.{AreObjects, HaveOneLanes, IsEntry, IsViewOf, things_in}
use Rattle.apply_laws.proofs.Order.Standing.{stood}
use Rattle.apply_laws.proofs.Order.Partners.{among, at_key, in-place, key_at, key-name, paired-name, place-in}

-- ---- new objects

objects_at : (view : Layout Vid) (xs : List (Vid × Thing)) (os : List (Object Vid)) → AreObjects view xs os → (j : ℕ) (n : Object Vid) → slice_get os j ≡ Some n → (x : Vid × Thing) × (slice_get xs j ≡ Some x) × IsBody (Has view) x.1 n.body × IsEntry x.0 x.1 n.entry
objects_at view [] [] h j n e = absurd cc
objects_at view (x ∷ xs) (o ∷ os) h zero n e =
    let is : o ≡ n = cc in
    (x, refl, subst (λ (m : Object Vid). IsBody (Has view) x.1 m.body) is h.0, subst (λ (m : Object Vid). IsEntry x.0 x.1 m.entry) is h.1)
objects_at view (x ∷ xs) (o ∷ os) h (suc j) n e = objects_at view xs os h.2 j n e
objects_at view [] (o ∷ os) h j n e = elim h [ ]
objects_at view (x ∷ xs) [] h j n e = elim h [ ]

things_at : (view : Layout Vid) (xs : List (Vid × Thing)) (os : List (Object Vid)) → AreObjects view xs os → (j : ℕ) (x : Vid × Thing) → slice_get xs j ≡ Some x → (n : Object Vid) × (slice_get os j ≡ Some n) × IsBody (Has view) x.1 n.body × IsEntry x.0 x.1 n.entry
things_at view [] [] h j x e = absurd cc
things_at view (y ∷ xs) (o ∷ os) h zero x e =
    let is : y ≡ x = cc in
    (o, refl, subst (λ (z : Vid × Thing). IsBody (Has view) z.1 o.body) is h.0, subst (λ (z : Vid × Thing). IsEntry z.0 z.1 o.entry) is h.1)
things_at view (y ∷ xs) (o ∷ os) h (suc j) x e = things_at view xs os h.2 j x e
things_at view [] (o ∷ os) h j x e = elim h [ ]
things_at view (y ∷ xs) [] h j x e = elim h [ ]

same_place : (xs : List (Vid × Thing)) → AreDistinct (map (λ x. name_of x.1) xs) → (i j : ℕ) (x y : Vid × Thing) → slice_get xs i ≡ Some x → slice_get xs j ≡ Some y → name_of x.1 ≡ name_of y.1 → i ≡ j
same_place [] d i j x y a b same = absurd cc
same_place (z ∷ zs) d zero zero x y a b same = refl
same_place (z ∷ zs) d zero (suc j) x y a b same =
    let is : z ≡ x = cc in
    absurd (d.0 (subst (λ k. IsIn k (map (λ (u : Vid × Thing). name_of u.1) zs)) (sym same ∙ ap (λ (u : Vid × Thing). name_of u.1) (sym is)) (in-map (λ (u : Vid × Thing). name_of u.1) zs y (place-in zs j y b))))
same_place (z ∷ zs) d (suc i) zero x y a b same =
    let is : z ≡ y = cc in
    absurd (d.0 (subst (λ k. IsIn k (map (λ (u : Vid × Thing). name_of u.1) zs)) (same ∙ ap (λ (u : Vid × Thing). name_of u.1) (sym is)) (in-map (λ (u : Vid × Thing). name_of u.1) zs x (place-in zs i x a))))
same_place (z ∷ zs) d (suc i) (suc j) x y a b same = ap suc (same_place zs d.1 i j x y a b same)

-- ---- old objects

one_place : (os : Objects) → AreSorted os → (i j : ℕ) (e : Entry Rid) (b c : Body Rid) → slice_get os i ≡ Some (e, b) → slice_get os j ≡ Some (e, c) → i ≡ j
one_place [] sorted i j e b c x y = absurd cc
one_place (o ∷ os) sorted zero zero e b c x y = refl
one_place (o ∷ os) sorted zero (suc j) e b c x y =
    let is : o ≡ (e, b) = cc in
    absurd (false≢true (sym (apart-behind o os e c sorted (place-in os j (e, c) y)) ∙ ap (λ (z : Entry Rid × Body Rid). same_entry e z.0) is ∙ same-refl e))
one_place (o ∷ os) sorted (suc i) zero e b c x y =
    let is : o ≡ (e, c) = cc in
    absurd (false≢true (sym (apart-behind o os e b sorted (place-in os i (e, b) x)) ∙ ap (λ (z : Entry Rid × Body Rid). same_entry e z.0) is ∙ same-refl e))
one_place (o ∷ os) sorted (suc i) (suc j) e b c x y = ap suc (one_place os (sorted-behind o os sorted) i j e b c x y)

-- ---- names and keys

by_name : (v t : Thing) → name_of v ≡ name_of t → ((p q : PortThing) → t ≡ thing.Port p → v ≡ thing.Port q → p.lanes ≡ q.lanes) → natural_key_of v ≡ natural_key_of t
by_name (thing.Port q) (thing.Port p) e f = ap key.Port (sym (f p q refl refl))
by_name (thing.Vlan a) (thing.Vlan b) e f = let same : a ≡ b = cc in ap key.Vlan same
by_name (thing.BridgePort a) (thing.BridgePort b) e f = let same : a ≡ b = cc in ap key.BridgePort same
by_name (thing.VlanMember a c x) (thing.VlanMember b d y) e f = let one : a ≡ b = cc in let two : c ≡ d = cc in ap₂ key.VlanMember one two
by_name (thing.VirtualRouter a) (thing.VirtualRouter b) e f = let same : a ≡ b = cc in ap key.VirtualRouter same
by_name (thing.Rif a v) (thing.Rif b w) e f = let same : a ≡ b = cc in ap key.Rif same
by_name (thing.Own v a) (thing.Own w b) e f = let one : v ≡ w = cc in let two : a ≡ b = cc in ap₂ key.Own one two
by_name (thing.Neighbor a x) (thing.Neighbor b y) e f = let same : a ≡ b = cc in ap key.Neighbor same
by_name (thing.NextHop a) (thing.NextHop b) e f = let same : a ≡ b = cc in ap key.NextHop same
by_name (thing.Group a) (thing.Group b) e f = let same : a ≡ b = cc in ap key.Group same
by_name (thing.GroupMember a c) (thing.GroupMember b d) e f = let one : a ≡ b = cc in let two : c ≡ d = cc in ap₂ key.GroupMember one two
by_name (thing.Route v a x) (thing.Route w b y) e f = let one : v ≡ w = cc in let two : a ≡ b = cc in ap₂ key.Route one two
by_name _ _ e f = absurd cc

module _ {made : ℕ} (old : List (Object Rid)) {new : List (Object Vid)} {things : List (Vid × Thing)} (chip : IsListedChip made (entries_of old)) (view : IsViewOf things new) where
  abbrev O : Objects
  O = entries_of old

  abbrev N : List Thing
  N = things_in things

  abbrev tag : Rid → List WHop
  tag = tag_of O N

  abbrev start : Layout Rid
  start = old_layout O N

  abbrev pairs : List (ℕ × ℕ)
  pairs = pairs_of old new

  -- ---- things by their places

  pub object-at : (j : ℕ) (n : Object Vid) → slice_get new j ≡ Some n → (x : Vid × Thing) × (slice_get things j ≡ Some x) × IsBody (Has (viewed things)) x.1 n.body × IsEntry x.0 x.1 n.entry
  object-at j n e = objects_at (viewed things) things new view.objects j n e

  pub thing-at : (j : ℕ) (x : Vid × Thing) → slice_get things j ≡ Some x → (n : Object Vid) × (slice_get new j ≡ Some n) × IsBody (Has (viewed things)) x.1 n.body × IsEntry x.0 x.1 n.entry
  thing-at j x e = things_at (viewed things) things new view.objects j x e

  pub new-in : (j : ℕ) (x : Vid × Thing) → slice_get things j ≡ Some x → IsIn x.1 N
  new-in j x e = in-map (λ (y : Vid × Thing). y.1) things x (place-in things j x e)

  pub in-new : (t : Thing) → IsIn t N → (j : ℕ) × (x : Vid × Thing) × (slice_get things j ≡ Some x) × (t ≡ x.1)
  in-new t i =
      let x = map-in (λ (y : Vid × Thing). y.1) things t i in
      let n = in-place things x.0 x.1 in
      (n.0, x.0, n.1, x.2)

  pub new-place : (i j : ℕ) (x y : Vid × Thing) → slice_get things i ≡ Some x → slice_get things j ≡ Some y → name_of x.1 ≡ name_of y.1 → i ≡ j
  new-place = same_place things view.once

  pub key_new : (j : ℕ) (x : Vid × Thing) → slice_get things j ≡ Some x → HasKey (entries_of (objects_as new)) j (natural_key_of x.1)
  key_new j x e = ap (λ ks. slice_get ks j) view.keys ∙ slice_get-map (λ (y : Vid × Thing). Some (natural_key_of y.1)) things j ∙ ap (option_map (λ (y : Vid × Thing). Some (natural_key_of y.1))) e

  new_key : (j : ℕ) (k : NaturalKey) → HasKey (entries_of (objects_as new)) j k → (x : Vid × Thing) × (slice_get things j ≡ Some x) × (natural_key_of x.1 ≡ k)
  new_key j k h = by (slice_get things j) refl (sym (slice_get-map (λ (y : Vid × Thing). Some (natural_key_of y.1)) things j) ∙ sym (ap (λ ks. slice_get ks j) view.keys) ∙ h)
    where
      by : (o : Option (Vid × Thing)) → slice_get things j ≡ o → option_map (λ (y : Vid × Thing). Some (natural_key_of y.1)) o ≡ Some (Some k) → (x : Vid × Thing) × (slice_get things j ≡ Some x) × (natural_key_of x.1 ≡ k)
      by None e is = absurd cc
      by (Some x) e is = (x, e, cc)

  -- ---- an old object by its place, and its thing

  pub record IsOldAt (i : ℕ) (e : Entry Rid) (b : Body Rid) : Type 0 where
    pub at : slice_get O i ≡ Some (e, b)
    pub found : body_at O e ≡ Some b
    pub id : Rid
    pub thing : Thing
    pub stands : start id thing
    pub of : IsBody (Has start) thing b
    pub is : thing_by (tagged tag) O (e, b) ≡ Some thing
    pub entry : e ≡ entry_of id.0 b

  pub old-at : (i : ℕ) (e : Entry Rid) (b : Body Rid) → slice_get O i ≡ Some (e, b) → IsOldAt i e b
  old-at i e b at =
      let found = found-in O e b chip.whole.sorted (place-in O i (e, b) at) in
      let s = stood chip N e b found in
      record { at = at; found = found; id = s.id; thing = s.thing; stands = s.stands; of = s.of; is = s.is; entry = s.entry }

  -- two places of things of one name are one
  pub old-one : (i j : ℕ) (e f : Entry Rid) (b c : Body Rid) → (x : IsOldAt i e b) → (y : IsOldAt j f c) → name_of x.thing ≡ name_of y.thing → i ≡ j
  old-one i j e f b c x y names =
      let same = (old-laid chip N).one x.id y.id x.thing y.thing x.stands y.stands names in
      let bodies : b ≡ c = body-one start O (old-laid chip N) x.thing b c x.of (subst (λ w. IsBody (Has start) w c) (sym same.1) y.of) in
      let entries : e ≡ f = x.entry ∙ ap₂ (λ (r : Rid) z. entry_of r.0 z) same.0 bodies ∙ sym y.entry in
      one_place O chip.whole.sorted i j e b c x.at (y.at ∙ ap (λ z. Some (z, c)) (sym entries))

  -- what stands has its place
  pub record HasPlace (r : Rid) (w : Thing) : Type 0 where
    pub place : ℕ
    pub entry : Entry Rid
    pub body : Body Rid
    pub was : IsOldAt place entry body
    pub id : was.id ≡ r
    pub thing : was.thing ≡ w

  pub old-place : (r : Rid) (w : Thing) → start r w → HasPlace r w
  old-place r w s =
      let n = in-place O (s.entry, s.body) (among chip N view.view s.entry s.body s.found) in
      let x = old-at n.0 s.entry s.body n.1 in
      let same = same_Some x.thing w (sym x.is ∙ s.thing) in
      record { place = n.0; entry = s.entry; body = s.body; was = x; id = ((old-laid chip N).one x.id r x.thing w x.stands s (ap name_of same)).0; thing = same }

  -- ---- pairs

  pub record IsPair (i j : ℕ) : Type 0 where
    pub entry : Entry Rid
    pub body : Body Rid
    pub was : IsOldAt i entry body
    pub now : Vid × Thing
    pub there : slice_get things j ≡ Some now
    pub same : name_of was.thing ≡ name_of now.1
    pub shown : Thing
    pub shows : thing_of O (entry, body) ≡ Some shown
    pub key : natural_key_of shown ≡ natural_key_of now.1

  pub pair-at : (i j : ℕ) → IsIn (i, j) pairs → IsPair i j
  pair-at i j h =
      let p = pairs-paired old new i j h in
      let o = at_key O O i p.key p.old_key in
      let n = new_key j p.key p.new_key in
      let a = old-at i o.0.0 o.0.1 o.2 in
      record {
        entry = o.0.0;
        body = o.0.1;
        was = a;
        now = n.0;
        there = n.1;
        same = paired-name chip N view.view o.0.0 o.0.1 o.1 a.thing n.0.1 i o.2 o.3 a.is (new-in j n.0 n.1) (o.4 ∙ sym n.2) (λ m k. p.least m (k ∙ ap (λ z. Some (Some z)) o.4));
        shown = o.1;
        shows = o.3;
        key = o.4 ∙ sym n.2;
      }

  pub one-old : (h i j : ℕ) → IsIn (h, j) pairs → IsIn (i, j) pairs → h ≡ i
  one-old h i j a b =
      let x = pair-at h j a in
      let y = pair-at i j b in
      let same : x.now ≡ y.now = same_Some x.now y.now (sym x.there ∙ y.there) in
      old-one h i x.entry y.entry x.body y.body x.was y.was (x.same ∙ ap (λ (z : Vid × Thing). name_of z.1) same ∙ sym y.same)

  pub one-new : (i j k : ℕ) → IsIn (i, j) pairs → IsIn (i, k) pairs → j ≡ k
  one-new i j k a b =
      let x = pair-at i j a in
      let y = pair-at i k b in
      let objects : (x.entry, x.body) ≡ (y.entry, y.body) = same_Some (x.entry, x.body) (y.entry, y.body) (sym x.was.at ∙ y.was.at) in
      let shown : x.shown ≡ y.shown = same_Some x.shown y.shown (sym x.shows ∙ ap (thing_of O) objects ∙ y.shows) in
      new-place j k x.now y.now x.there y.there (key-name x.now.1 y.now.1 (sym x.key ∙ ap natural_key_of shown ∙ y.key))

  -- an old object and a new one of one name are paired
  module _ (lanes : HaveOneLanes O N) where
    first_with : (k : NaturalKey) (i : ℕ) → HasKey O i k → (h : ℕ) × IsFirst O k h
    first_with k i has = by (partner_of O (Some k)) refl
      where
        none : {X : Type 0} (f : X → ℕ) (o : Option X) → option_map f o ≡ None → o ≡ None
        none f None e = refl
        none f (Some p) e = absurd cc

        by : (o : Option ℕ) → partner_of O (Some k) ≡ o → (h : ℕ) × IsFirst O k h
        by None e = absurd (found-none k None (keys_of_objects O) O 0 (length-keys O) (none (λ p. p.place) (best_from None (keys_of_objects O) O k 0) e) i has)
        by (Some h) e = (h, partner-first O k h e)

    pub matched : (i j : ℕ) (e : Entry Rid) (b : Body Rid) → (x : IsOldAt i e b) → (n : Vid × Thing) → slice_get things j ≡ Some n → name_of x.thing ≡ name_of n.1 → IsIn (i, j) pairs
    matched i j e b x n there same =
        let s = shown_as chip N view.view e b x.thing n.1 x.found x.is (new-in j n there) same in
        let seen : IsIn s.0 (chip_things O) = in_those s.0 (named O) (subst (λ z. IsIn z (named O)) s.1 (thing_in O O e b (place-in O i (e, b) x.at))) in
        let keys : natural_key_of s.0 ≡ natural_key_of n.1 = by_name s.0 n.1 s.2 (λ p q t_is v_is.
        lanes.same p q (subst (λ z. IsIn z N) t_is (new-in j n there)) (subst (λ z. IsIn z (chip_things O)) v_is seen) (inl (ap name_of (sym t_is) ∙ sym s.2 ∙ ap name_of v_is))) in
        let has : HasKey O i (natural_key_of n.1) = key_at O O i e b x.at ∙ ap (λ o. Some (option_map natural_key_of o)) s.1 ∙ ap (λ k. Some (Some k)) keys in
        let first = first_with (natural_key_of n.1) i has in
        let pair = paired-pairs old new first.0 j (record { key = natural_key_of n.1; old_key = first.1.has; new_key = key_new j n there; least = first.1.first }) in
        let p = pair-at first.0 j pair in
        let news : p.now ≡ n = same_Some p.now n (sym p.there ∙ there) in
        let at : first.0 ≡ i = old-one first.0 i p.entry e p.body b p.was x (p.same ∙ ap (λ (z : Vid × Thing). name_of z.1) news ∙ sym same) in
        subst (λ m. IsIn (m, j) pairs) at pair
