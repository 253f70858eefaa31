-- the objects of a new view that legal calls made are laid out by their things
use Rattle.std.proofs.Common.{◌≡◌, inl, inr, ℕ, Bool, true, false, cond, ◌&&◌, not, nat_lt, List, [], ◌∷◌, map, Option, None, Some, option_map, refl, sym, ap, ◌∙◌, subst, arith}
use Rattle.std.proofs.lemmas.Bool.{and_from, and_parts, eq-eqb, false≢true, ltb-true}
use Rattle.std.proofs.lemmas.Option.{same_Some}
use Rattle.sai_types.specs.declared.ids.Rid.{Rid}
use Rattle.sai_types.specs.declared.ids.Vid.{Vid}
use Rattle.sai_types.specs.declared.body.Body.{Body}
use Rattle.sai_types.specs.declared.body.Body.TheVariants as body
use Rattle.sai_types.specs.declared.body.Entry.{Entry}
use Rattle.sai_types.specs.declared.body.Entry.TheVariants as entry
use Rattle.sai_types.specs.declared.body.Object.{Object}
use Rattle.sai_types.specs.declared.body.RifOn.TheVariants as on
use Rattle.sai_types.specs.declared.body.To.TheVariants as to
use Rattle.sai_types.specs.declared.weight.WHop.{WHop}
use Rattle.sai_types.specs.declared.thing.Goal.TheVariants as goal
use Rattle.sai_types.specs.declared.thing.Thing.{Thing}
use Rattle.sai_types.specs.declared.thing.Thing.TheVariants as thing
use Rattle.sai_types.specs.After.{entry_of}
use Rattle.sai_types.specs.Alike.{IsIn}
use Rattle.sai_types.specs.Named.{both, hops_at, named, router_at, thing_by, thing_of, things_among, those, whop_at}
use Rattle.sai_types.specs.Objects.{Objects, body_at}
use Rattle.sai_types.specs.Refusal.{same_id}
use Rattle.sai_types.proofs.Exact.{entry-exact}
use Rattle.sai_types.proofs.Listed.{found-in, in-found}
use Rattle.sai_types.proofs.Membership.{in-map, map-in}
use Rattle.chip_names.specs.Naming.{entries_of}
use Rattle.chip_layout.specs.Bodies.{body_with}
use Rattle.chip_layout.specs.Counted.{AreDistinct}
use Rattle.chip_layout.specs.Layout.{Layout, has_number}
use Rattle.chip_layout.specs.Renamed.{body_renamed, entry_renamed}
use Rattle.chip_layout.specs.Seen.{tagged}
use Rattle.chip_layout.proofs.Answering.{in_those, thing_in, those_in}
use Rattle.plan_laws.specs.Applied.{chip_things}
use Rattle.plan_laws.specs.Old.{chip_group, chip_groups, filler, group_stays, is_double, is_group_of, old_layout, same_hops, shown_hops, tag_of}
use Rattle.plan_laws.proofs.Doubles.{is_grouped}
use Rattle.plan_laws.proofs.Lists.{any-in, in-any}
use Rattle.plan_laws.proofs.Named.{same_hops_exact, hops_refl}
use Rattle.plan_laws.proofs.Starting.{hops-there}
use Rattle.plan_laws.proofs.Tagging.{all-groups}
use Rattle.view_match.specs.declared.key.NaturalKey.{NaturalKey}
use Rattle.view_match.specs.declared.key.NaturalKey.TheVariants as key
use Rattle.view_match.specs.Keys.{natural_key_of}
use Rattle.view_match.specs.Listed.{objects_as, rid_of}
use Rattle.view_match.proofs.Free.{rest_distinct}
use Rattle.apply_laws.specs.Viewed.{IsMadeView}
use Rattle.apply_laws.proofs.Order.Raw.{group-there, member-group, raw-found, route_group, thing-raw}

abbrev Item : Type 0
Item = Entry Rid × Body Rid

-- ---- no two objects have one natural key

head_apart : (x : Option NaturalKey) (xs : List (Option NaturalKey)) → AreDistinct (those (x ∷ xs)) → (k : NaturalKey) → x ≡ Some k → IsIn (Some k) xs → ⊥
head_apart None xs d k e i = absurd cc
head_apart (Some l) xs d k e i = d.0 (subst (λ z. IsIn z (those xs)) (sym (same_Some l k e)) (in_those k xs i))

abbrev keys_among : Objects → Objects → List (Option NaturalKey)
keys_among objects os = map (option_map natural_key_of) (things_among objects os)

natural_key_among : (objects os : Objects) (o : Item) (t : Thing) → IsIn o os → thing_of objects o ≡ Some t → IsIn (Some (natural_key_of t)) (keys_among objects os)
natural_key_among objects os o t i is = subst (λ z. IsIn z (keys_among objects os)) (ap (option_map natural_key_of) is) (in-map (option_map natural_key_of) (things_among objects os) (thing_of objects o) (thing_in objects os o.0 o.1 i))

keys_apart : (objects os : Objects) → AreDistinct (those (keys_among objects os)) → (o p : Item) (t u : Thing) → IsIn o os → IsIn p os → thing_of objects o ≡ Some t → thing_of objects p ≡ Some u → natural_key_of t ≡ natural_key_of u → o ≡ p
keys_apart objects [] d o p t u i j x y same = elim i [ ]
keys_apart objects (q ∷ os) d o p t u (inl a) (inl b) x y same = a ∙ sym b
keys_apart objects (q ∷ os) d o p t u (inl a) (inr j) x y same = absurd (head_apart (option_map natural_key_of (thing_of objects q)) (keys_among objects os) d (natural_key_of u) (ap (λ z. option_map natural_key_of (thing_of objects z)) (sym a) ∙ ap (option_map natural_key_of) x ∙ ap Some same) (natural_key_among objects os p u j y))
keys_apart objects (q ∷ os) d o p t u (inr i) (inl b) x y same = absurd (head_apart (option_map natural_key_of (thing_of objects q)) (keys_among objects os) d (natural_key_of t) (ap (λ z. option_map natural_key_of (thing_of objects z)) (sym b) ∙ ap (option_map natural_key_of) y ∙ ap Some (sym same)) (natural_key_among objects os o t i x))
keys_apart objects (q ∷ os) d o p t u (inr i) (inr j) x y same = keys_apart objects os (rest_distinct (option_map natural_key_of (thing_of objects q)) (keys_among objects os) d) o p t u i j x y same

-- ---- identifiers

abbrev pub vid_by : Rid → Vid
vid_by r = record { 0 = r.0 }

abbrev pub vid_of : Entry Vid → Vid
vid_of (entry.Oid v) = v
vid_of e = record { 0 = 0 }

router_back : (r : Option Vid) → option_map vid_by (option_map rid_of r) ≡ r
router_back None = refl
router_back (Some i) = refl

pub back : (b : Body Vid) → body_renamed vid_by (body_renamed rid_of b) ≡ b
back (body.Port l s m u) = refl
back (body.Vlan v) = refl
back (body.VirtualRouter label) = refl
back (body.BridgePort i) = refl
back (body.VlanMember i j g) = refl
back (body.Rif r (on.Port i)) = ap (λ x. body.Rif x (on.Port i)) (router_back r)
back (body.Rif r (on.Vlan i)) = ap (λ x. body.Rif x (on.Vlan i)) (router_back r)
back (body.OwnAddress r ip) = ap (λ x. body.OwnAddress x ip) (router_back r)
back (body.Neighbor i ip m) = refl
back (body.NextHop i ip) = refl
back body.Group = refl
back (body.GroupMember i j weight) = refl
back (body.Route r p to.Drop) = ap (λ x. body.Route x p to.Drop) (router_back r)
back (body.Route r p (to.Rif i)) = ap (λ x. body.Route x p (to.Rif i)) (router_back r)
back (body.Route r p (to.NextHop i)) = ap (λ x. body.Route x p (to.NextHop i)) (router_back r)
back (body.Route r p (to.Group i)) = ap (λ x. body.Route x p (to.Group i)) (router_back r)

pub oid_back : (f : Entry Vid) (r : Rid) → entry_renamed rid_of f ≡ entry.Oid r → f ≡ entry.Oid (vid_by r)
oid_back (entry.Oid v) r e = let same : rid_of v ≡ r = cc in ap entry.Oid (ap vid_by same)
oid_back (entry.Own v ip) r e = absurd cc
oid_back (entry.Neigh v ip) r e = absurd cc
oid_back (entry.Route v p) r e = absurd cc

pub no_oid : (n : ℕ) (t : Thing) (i j : Rid) → has_number t ≡ false → (r : Rid) → entry_of n (body_with t i j) ≡ entry.Oid r → ⊥
no_oid n (thing.Own v ip) i j h r e = cc
no_oid n (thing.Neighbor x m) i j h r e = cc
no_oid n (thing.Route v p g) i j h r e = cc
no_oid n (thing.Port p) i j h r e = false≢true (sym h)
no_oid n _ i j h r e = false≢true (sym h)

module _ {made : ℕ} {S : Objects} {new : List (Object Vid)} (m : IsMadeView made S new) where
  abbrev R : Objects
  R = entries_of (objects_as new)

  abbrev N : List Thing
  N = chip_things S

  abbrev tag : Rid → List WHop
  tag = tag_of S N

  abbrev hops : Rid → List WHop
  hops = shown_hops S

  abbrev L : Layout Rid
  L = old_layout S N

  one-key : (e f : Entry Rid) (b c : Body Rid) (t u : Thing) → body_at S e ≡ Some b → body_at S f ≡ Some c → thing_of S (e, b) ≡ Some t → thing_of S (f, c) ≡ Some u → natural_key_of t ≡ natural_key_of u → ◌≡◌ {A = Item} (e, b) (f, c)
  one-key e f b c t u x y p q same =
      keys_apart R R m.distinct (e, b) (f, c) t u (raw-found m.chip R m.same N e b x) (raw-found m.chip R m.same N f c y) (thing-raw m.chip R m.same N e b ∙ p) (thing-raw m.chip R m.same N f c ∙ q) same

  -- ---- each group stays, so its tag is its hops

  pub in_groups : (g : Rid) → IsIn g (chip_groups S) → body_at S (entry.Oid g) ≡ Some body.Group
  in_groups g i =
      let o = map-in chip_group S (Some g) (those_in g (map chip_group S) i) in
      let is = is_grouped o.0 g o.2 in
      ap (body_at S) (sym is.0) ∙ found-in S o.0.0 o.0.1 m.chip.whole.sorted o.1 ∙ ap Some is.1

  group_shows : (g : Rid) → body_at S (entry.Oid g) ≡ Some body.Group → thing_of S (entry.Oid g, body.Group) ≡ Some (thing.Group (hops g))
  group_shows g found = ap (option_map thing.Group) (hops-there m.chip N g (tag g) (group-there m.chip R m.same N g found))

  oids : (g h : Rid) → ◌≡◌ {A = Item} (entry.Oid g, body.Group) (entry.Oid h, body.Group) → g ≡ h
  oids g h e = let first : entry.Oid g ≡ entry.Oid h = ap (λ (z : Item). z.0) e in cc

  single : (g : Rid) → body_at S (entry.Oid g) ≡ Some body.Group → is_double S g ≡ false
  single g found = by (is_double S g) refl
    where
      by : (b : Bool) → is_double S g ≡ b → b ≡ false
      by false e = refl
      by true e =
          let x = any-in (λ h. nat_lt h.0 g.0 && same_hops (hops h) (hops g)) (chip_groups S) e in
          let parts = and_parts (nat_lt x.0.0 g.0) (same_hops (hops x.0) (hops g)) x.2 in
          let there = in_groups x.0 x.1 in
          let same = oids x.0 g (one-key (entry.Oid x.0) (entry.Oid g) body.Group body.Group (thing.Group (hops x.0)) (thing.Group (hops g)) there found (group_shows x.0 there) (group_shows g found) (ap key.Group (same_hops_exact (hops x.0) (hops g) parts.1))) in
          let less = ltb-true x.0.0 g.0 parts.0 in
          let number = ap (λ (r : Rid). r.0) same in
          absurd (omega (arith, less, number))

  group_in : (g : Rid) → body_at S (entry.Oid g) ≡ Some body.Group → IsIn (thing.Group (hops g)) N
  group_in g found =
      let o = in-found S (entry.Oid g) body.Group found in
      let i = subst (λ f. IsIn (f, body.Group) S) (sym (entry-exact (entry.Oid g) o.0 o.1)) o.2 in
      in_those (thing.Group (hops g)) (named S) (subst (λ z. IsIn z (named S)) (group_shows g found) (thing_in S S (entry.Oid g) body.Group i))

  pub tag-hops : (g : Rid) → body_at S (entry.Oid g) ≡ Some body.Group → tag g ≡ hops g
  tag-hops g found =
      let wanted = in-any (is_group_of (hops g)) N (thing.Group (hops g)) (group_in g found) (hops_refl (hops g)) in
      let there = in-any (same_id g) (chip_groups S) g (all-groups S g found) (eq-eqb g.0 g.0 refl) in
      let stays : group_stays S N g ≡ true = and_from _ _ there (and_from _ _ wanted (ap not (single g found))) in
      ap (λ b. cond b (hops g) (filler g.0)) stays

  real : (g : Rid) → body_at S (entry.Oid g) ≡ Some body.Group → hops_at S g ≡ Some (tag g)
  real g found = hops-there m.chip N g (tag g) (group-there m.chip R m.same N g found) ∙ ap Some (sym (tag-hops g found))

  -- so each object stands for its tagged thing
  pub same-thing : (e : Entry Rid) (b : Body Rid) → body_at S e ≡ Some b → thing_of S (e, b) ≡ thing_by (tagged tag) S (e, b)
  same-thing e body.Group found =
      let at = m.chip.whole.entered.each e body.Group found in
      let g : Rid = record { 0 = at.0 } in
      let is : e ≡ entry.Oid g = entry-exact e (entry.Oid g) at.2 in
      subst (λ z. thing_of S (z, body.Group) ≡ thing_by (tagged tag) S (z, body.Group)) (sym is) (ap (option_map thing.Group) (real g (ap (body_at S) (sym is) ∙ found)))
  same-thing e (body.GroupMember g n weight) found = ap (λ o. both thing.GroupMember o (whop_at S n weight)) (real g (member-group m.chip R m.same N e g n weight found))
  same-thing e (body.Route r p (to.Group g)) found = ap (λ o. both (λ v x. thing.Route v p x) (router_at S r) (option_map goal.Group o)) (real g (route_group m.chip R m.same N r g (m.chip.whole.refer.each e (body.Route r p (to.Group g)) found)))
  same-thing e (body.Route r p to.Drop) found = refl
  same-thing e (body.Route r p (to.Rif i)) found = refl
  same-thing e (body.Route r p (to.NextHop i)) found = refl
  same-thing e (body.Port l s k u) found = refl
  same-thing e _ found = refl
