-- an object's name among the old things is the one that it shows, but of groups that do not stay and their members
use Rattle.std.proofs.Common.{◌≡◌, inl, inr, ◌⊎◌, ℕ, zero, suc, ◌<◌, Bool, true, false, cond, ◌&&◌, not, nat_lt, List, map, Option, Some, option_map, refl, sym, ap, ap₂, ◌∙◌, subst, arith}
use Rattle.std.proofs.lemmas.Bool.{and_from, and_parts, eq-eqb, false≢true, ltb-true}
use Rattle.std.proofs.lemmas.Option.{same_Some}
use Rattle.sai_types.specs.declared.ids.Rid.{Rid}
use Rattle.sai_types.specs.declared.hop.Base.{Base}
use Rattle.sai_types.specs.declared.weight.WHop.{WHop}
use Rattle.swss_types.specs.declared.vrf.Vrf.{Vrf}
use Rattle.sai_types.specs.declared.body.Body.{Body}
use Rattle.sai_types.specs.declared.body.Body.TheVariants as body
use Rattle.sai_types.specs.declared.body.Entry.{Entry}
use Rattle.sai_types.specs.declared.body.Entry.TheVariants as entry
use Rattle.sai_types.specs.declared.body.To.{To}
use Rattle.sai_types.specs.declared.body.To.TheVariants as to
use Rattle.sai_types.specs.declared.kind.Kind.{Kind}
use Rattle.sai_types.specs.declared.thing.Goal.{Goal}
use Rattle.sai_types.specs.declared.thing.Goal.TheVariants as goal
use Rattle.swss_types.specs.declared.address.Prefix.{Prefix}
use Rattle.swss_types.proofs.Proper.{mapped}
use Rattle.sai_types.specs.declared.thing.Thing.{Thing}
use Rattle.sai_types.specs.declared.thing.Thing.TheVariants as thing
use Rattle.sai_types.specs.Alike.{IsIn}
use Rattle.sai_types.specs.Named.{both, goal_by, hops_at, named, next_hop_at, router_at, thing_by, thing_of, whop_at}
use Rattle.sai_types.specs.Names as name
use Rattle.sai_types.specs.Names.{ThingName, name_of}
use Rattle.sai_types.specs.Objects.{Objects, body_at}
use Rattle.sai_types.specs.Refusal.{same_id}
use Rattle.sai_types.proofs.Found.{same-refl}
use Rattle.sai_types.proofs.Listed.{found-in, object-of_thing}
use Rattle.sai_types.proofs.Things.{both_mapped}
use Rattle.sai_types.proofs.Membership.{map-in}
use Rattle.chip_layout.specs.Bodies.{IsBody, vr_with}
use Rattle.chip_layout.specs.Layout.{Has}
use Rattle.chip_layout.specs.Seen.{tagged}
use Rattle.chip_layout.proofs.Answering.{stands, those_in}
use Rattle.chip_layout.proofs.Seeing.{body-seen, shown}
use Rattle.plan_laws.specs.Applied.{IsListedChip, IsView, chip_things}
use Rattle.plan_laws.specs.Bounds.{IsDouble}
use Rattle.plan_laws.specs.Old.{filler, chip_group, group_stays, chip_groups, hops_or_none, is_double, is_group_of, old_layout, old_things, same_hops, shown_hops, tag_of}
use Rattle.plan_laws.specs.Views.{AreLacking, FitsHitless, SameRouters}
use Rattle.plan_laws.proofs.Lists.{any-in, in-any}
use Rattle.plan_laws.proofs.Named.{same_hops_exact, hops_refl}
use Rattle.plan_laws.proofs.Starting.{group-seen, group-there, hops-same, hops-there, object-seen, old-seen, old-tagged, rises}
use Rattle.plan_laws.proofs.Tagging.{all-groups, hops-of_tag}
use Rattle.plan_laws.proofs.Targets.{is-group, is-member}

pub is_grouped : (o : Entry Rid × Body Rid) (g : Rid) → Some g ≡ chip_group o → (o.0 ≡ entry.Oid g) × (o.1 ≡ body.Group)
is_grouped (entry.Oid h, body.Group) g e = let same : g ≡ h = cc in (ap entry.Oid (sym same), refl)
is_grouped (entry.Own v ip, body.Group) g e = absurd cc
is_grouped (entry.Neigh r ip, body.Group) g e = absurd cc
is_grouped (entry.Route v p, body.Group) g e = absurd cc
is_grouped (e, body.Port l s m u) g h = absurd cc
is_grouped (e, _) g h = absurd cc

module _ {made : ℕ} {objects : Objects} (chip : IsListedChip made objects) (new : List Thing) (view : IsView new) where
  abbrev tag : Rid → List WHop
  tag = tag_of objects new

  abbrev hops : Rid → List WHop
  hops = shown_hops objects

  -- ---- the two names of an object

  abbrev OfGroup : Entry Rid → Body Rid → Thing → Thing → Type 0
  OfGroup e b u w = (g : Rid) × (e ≡ entry.Oid g) × (b ≡ body.Group) × (u ≡ thing.Group (hops g)) × (w ≡ thing.Group (tag g))

  abbrev OfMember : Body Rid → Thing → Thing → Type 0
  OfMember b u w = (g : Rid) × (n : Rid) × (hop : WHop) × (b ≡ body.GroupMember g n hop.weight) × (u ≡ thing.GroupMember (hops g) hop) × (w ≡ thing.GroupMember (tag g) hop)

  abbrev AreNames : Entry Rid → Body Rid → Thing → Thing → Type 0
  AreNames e b u w = (name_of u ≡ name_of w) ⊎ (OfGroup e b u w ⊎ OfMember b u w)

  these_hops : (g : Rid) (hs : List WHop) → hops_at objects g ≡ Some hs → hs ≡ hops g
  these_hops g hs e = sym (ap hops_or_none e)

  pub names : (e : Entry Rid) (b : Body Rid) (u w : Thing) → thing_of objects (e, b) ≡ Some u → thing_by (tagged tag) objects (e, b) ≡ Some w → AreNames e b u w
  names (entry.Oid g) body.Group u w x y =
      let m = mapped thing.Group (hops_at objects g) u x in
      inr (inl (g, refl, refl, sym m.2 ∙ ap thing.Group (these_hops g m.0 m.1), sym (same_Some (thing.Group (tag g)) w y)))
  names e (body.GroupMember g n weight) u w x y =
      let m = both_mapped thing.GroupMember (hops_at objects g) (whop_at objects n weight) u x in
      let k = both_mapped thing.GroupMember (Some (tag g)) (whop_at objects n weight) w y in
      let is = mapped (λ h. record { hop = h; weight = weight }) (next_hop_at objects n) m.1 m.3 in
      let tags : k.0 ≡ tag g = sym (same_Some (tag g) k.0 k.2) in
      let one : k.1 ≡ m.1 = same_Some k.1 m.1 (sym k.3 ∙ m.3) in
      inr (inr (g, n, m.1, ap (λ (v : WHop). body.GroupMember g n v.weight) is.2, sym m.4 ∙ ap (λ h. thing.GroupMember h m.1) (these_hops g m.0 m.2), sym k.4 ∙ ap₂ (λ a c. thing.GroupMember a c) tags one))
  names e (body.Route vr p t) u w x y =
      let m = both_mapped (λ v g. thing.Route v p g) (router_at objects vr) (goal_by (hops_at objects) objects t) u x in
      let k = both_mapped (λ v g. thing.Route v p g) (router_at objects vr) (goal_by (tagged tag) objects t) w y in
      inl (sym (ap name_of m.4) ∙ ap (λ v. name.Route v p) (same_Some m.0 k.0 (sym m.2 ∙ k.2)) ∙ ap name_of k.4)
  names (entry.Own v ip) body.Group u w x y = absurd cc
  names (entry.Neigh r ip) body.Group u w x y = absurd cc
  names (entry.Route v p) body.Group u w x y = absurd cc
  names e (body.Port l s m v) u w x y = inl (ap name_of (same_Some u w (sym x ∙ y)))
  names e _ u w x y = inl (ap name_of (same_Some u w (sym x ∙ y)))

  -- ---- groups that stay

  pub new_group : (g : Rid) (hop : WHop) → IsIn (thing.GroupMember (hops g) hop) new → IsIn (thing.Group (hops g)) new
  new_group g hop i = let k = view.within.refers (thing.GroupMember (hops g) hop) (name.Group (hops g)) i (inl refl) in subst (λ z. IsIn z new) (is-group k.0 (hops g) k.2) k.1

  pub stays_if : (g : Rid) → IsIn g (chip_groups objects) → IsIn (thing.Group (hops g)) new → is_double objects g ≡ false → group_stays objects new g ≡ true
  stays_if g i wanted single =
      and_from _ _ (in-any (same_id g) (chip_groups objects) g i (eq-eqb g.0 g.0 refl))
      (and_from _ _ (in-any (is_group_of (hops g)) new (thing.Group (hops g)) wanted (hops_refl (hops g))) (ap not single))

  pub tag_is : (g : Rid) → group_stays objects new g ≡ true → tag g ≡ hops g
  tag_is g h = ap (λ b. cond b (hops g) (filler g.0)) h

  doubled : (g : Rid) → IsIn g (chip_groups objects) → IsIn (thing.Group (hops g)) new → (tag g ≡ hops g → ⊥) → is_double objects g ≡ true
  doubled g i wanted apart = by (is_double objects g) refl
    where
      by : (b : Bool) → is_double objects g ≡ b → b ≡ true
      by true e = refl
      by false e = absurd (apart (tag_is g (stays_if g i wanted e)))

  member_parts : (g h n m : Rid) (x y : ℕ) → body.GroupMember g n x ≡ body.GroupMember h m y → g ≡ h
  member_parts g h n m x y e = cc

  pub member_group : (e : Entry Rid) (g n : Rid) (weight : ℕ) (hop : WHop) → body_at objects e ≡ Some (body.GroupMember g n weight) → thing_by (tagged tag) objects (e, body.GroupMember g n weight) ≡ Some (thing.GroupMember (tag g) hop) → IsIn g (chip_groups objects)
  member_group e g n weight hop found is =
      let of = body-seen tag made objects chip.whole e (body.GroupMember g n weight) (thing.GroupMember (tag g) hop) found is in
      let same : of.first ≡ g = sym (member_parts g of.first n of.second weight hop.weight of.body_is) in
      (group-seen chip new g (tag g) (group-there chip new (tag g) g (subst (Has (old_layout objects new) (name.Group (tag g))) same of.first_at))).1

  -- ---- what the new view has no old thing for is no name of it, or that of a double

  pub unwanted : (e : Entry Rid) (b : Body Rid) (w : Thing) → body_at objects e ≡ Some b → thing_by (tagged tag) objects (e, b) ≡ Some w → ((t : Thing) → IsIn t new → name_of t ≡ name_of w → ⊥) → (u t : Thing) → thing_of objects (e, b) ≡ Some u → IsIn t new → name_of t ≡ name_of u → IsDouble objects e b
  unwanted e b w found is none u t shows i same =
      elim (names e b u w shows is) [
        | inl one ↦ absurd (none t i (same ∙ one))
        | inr groups ↦ elim groups [
          | inl x ↦
              let g = x.0 in
              let t_is = is-group t (hops g) (same ∙ ap name_of x.3) in
              let there = all-groups objects g (ap (body_at objects) (sym x.1) ∙ found ∙ ap Some x.2) in
              let double = doubled g there (subst (λ z. IsIn z new) t_is i) (λ e. none t i (ap name_of t_is ∙ ap name.Group (sym e) ∙ sym (ap name_of x.4))) in
              subst (λ z. IsDouble objects z b) (sym x.1) (subst (λ z. IsDouble objects (entry.Oid g) z) (sym x.2) double)
          | inr y ↦
              let g = y.0 in
              let t_is = is-member t (hops g) y.2 (same ∙ ap name_of y.4) in
              let there = member_group e g y.1 (y.2).weight y.2 (found ∙ ap Some y.3) (ap (λ z. thing_by (tagged tag) objects (e, z)) (sym y.3) ∙ is ∙ ap Some y.5) in
              let double = doubled g there (new_group g y.2 (subst (λ z. IsIn z new) t_is i)) (λ e. none t i (ap name_of t_is ∙ ap (λ h. name.GroupMember h y.2) (sym e) ∙ sym (ap name_of y.5))) in
              subst (λ z. IsDouble objects e z) (sym y.3) double
        ]
      ]

  -- ---- what the chip shows of the new view is among the old things

  pub group_found : (g : Rid) → IsIn g (chip_groups objects) → body_at objects (entry.Oid g) ≡ Some body.Group
  group_found g i =
      let o = map-in chip_group objects (Some g) (those_in g (map chip_group objects) i) in
      let is = is_grouped o.0 g o.2 in
      ap (body_at objects) (sym is.0) ∙ found-in objects o.0.0 o.0.1 chip.whole.sorted o.1 ∙ ap Some is.1

  -- of the groups of some hops the one of the least identifier
  abbrev HasLeast : Rid → Type 0
  HasLeast g = (h : Rid) × IsIn h (chip_groups objects) × (is_double objects h ≡ false) × (hops h ≡ hops g)

  pub least : (n : ℕ) (g : Rid) → g.0 < n → IsIn g (chip_groups objects) → HasLeast g
  least zero g less i = absurd (omega (arith, less))
  least (suc n) g less i = by (is_double objects g) refl (λ h below there. least n h (omega (arith, less, below)) there)
    where
      by : (b : Bool) → is_double objects g ≡ b → ((h : Rid) → h.0 < g.0 → IsIn h (chip_groups objects) → HasLeast h) → HasLeast g
      by false e lesser = (g, i, e, refl)
      by true e lesser =
          let x = any-in (λ h. nat_lt h.0 g.0 && same_hops (hops h) (hops g)) (chip_groups objects) e in
          let parts = and_parts (nat_lt x.0.0 g.0) (same_hops (hops x.0) (hops g)) x.2 in
          let r = lesser x.0 (ltb-true x.0.0 g.0 parts.0) x.1 in
          (r.0, r.1, r.2, r.3 ∙ same_hops_exact (hops x.0) (hops g) parts.1)

  group_old : (g : Rid) → IsIn g (chip_groups objects) → IsIn (thing.Group (hops g)) new → IsIn (thing.Group (hops g)) (old_things objects new)
  group_old g i wanted =
      let h = least (suc g.0) g (omega arith) i in
      let stays = stays_if h.0 h.1 (subst (λ z. IsIn (thing.Group z) new) (sym h.3) wanted) h.2 in
      subst (λ z. IsIn (thing.Group z) (old_things objects new)) (tag_is h.0 stays ∙ h.3) (object-seen tag objects made chip.whole (entry.Oid h.0) body.Group (thing.Group (tag h.0)) (group_found h.0 h.1) refl)

  pub member_old : (g : Rid) (hop : WHop) → IsIn g (chip_groups objects) → IsIn (thing.GroupMember (hops g) hop) new → IsIn (thing.GroupMember (hops g) hop) (old_things objects new)
  member_old g hop i wanted =
      let group = new_group g hop wanted in
      (old-tagged chip new).have (hops g) hop (group_old g i group) (subst (IsIn hop) (sym (hops-same chip new (hops g) (view.grouped.rising (hops g) group))) (view.grouped.only (hops g) hop wanted))

  shown_old : (u t : Thing) → IsIn u (chip_things objects) → IsIn t new → name_of u ≡ name_of t → (v : Thing) × IsIn v (old_things objects new) × (name_of v ≡ name_of t)
  shown_old u t i j same =
      let o = object-of_thing objects objects (Some u) (those_in u (named objects) i) in
      let e = o.0 in
      let b = o.1 in
      let found = found-in objects e b chip.whole.sorted o.2 in
      let s = shown tag made objects chip.whole e b found (chip.whole.refer.each e b found) in
      elim (names e b u s.0 (sym o.3) s.1) [
        | inl one ↦ (s.0, object-seen tag objects made chip.whole e b s.0 found s.1, sym one ∙ same)
        | inr groups ↦ elim groups [
          | inl x ↦
              let t_is = is-group t (hops x.0) (sym same ∙ ap name_of x.3) in
              let there = all-groups objects x.0 (ap (body_at objects) (sym x.1) ∙ found ∙ ap Some x.2) in
              (t, subst (λ z. IsIn z (old_things objects new)) (sym t_is) (group_old x.0 there (subst (λ z. IsIn z new) t_is j)), refl)
          | inr y ↦
              let t_is = is-member t (hops y.0) y.2 (sym same ∙ ap name_of y.4) in
              let there = member_group e y.0 y.1 (y.2).weight y.2 (found ∙ ap Some y.3) (ap (λ z. thing_by (tagged tag) objects (e, z)) (sym y.3) ∙ s.1 ∙ ap Some y.5) in
              (t, subst (λ z. IsIn z (old_things objects new)) (sym t_is) (member_old y.0 y.2 there (subst (λ z. IsIn z new) t_is j)), refl)
        ]
      ]

  -- names that no old thing has are names that the chip does not show
  pub lacking-shown : (kind : Kind) (ks : List ThingName) → AreLacking (old_things objects new) new kind ks → AreLacking (chip_things objects) new kind ks
  lacking-shown kind ks l = record {
    distinct = l.distinct;
    each = λ k i.
        let x = l.each k i in
        (x.0, x.1, x.2, x.3, λ u j e. let v = shown_old u x.1 j x.2 (e ∙ sym x.3) in x.4 v.0 v.1 (v.2 ∙ x.3));
  }

  -- so what fits beside what the chip shows fits beside the old things
  pub fits-shown : (capacities : List ℕ) → FitsHitless capacities objects (chip_things objects) new → FitsHitless capacities objects (old_things objects new) new
  fits-shown capacities fits kind ks l = fits kind ks (lacking-shown kind ks l)

  -- ---- and what of the old things the new view has the chip shows

  hops_of_group : (g : Rid) → body_at objects (entry.Oid g) ≡ Some body.Group → hops_at objects g ≡ Some (hops g)
  hops_of_group g found = hops-there chip new g (tag g) (record { entry = entry.Oid g; body = body.Group; found = found; at = same-refl (entry.Oid g); thing = refl; none = λ h. absurd (false≢true (sym h)) })

  real_tag : (g : Rid) → IsIn (thing.Group (tag g)) new → hops g ≡ tag g
  real_tag g i = sym (hops-of_tag (group_stays objects new) (shown_hops objects) (rises chip new) g) ∙ hops-same chip new (tag g) (view.grouped.rising (tag g) i)

  goal_there : (e : Entry Rid) (vr : Option Rid) (p : Prefix) (t : To Rid) (g : Goal) → body_at objects e ≡ Some (body.Route vr p t) → goal_by (tagged tag) objects t ≡ Some g → (h : Goal) × (goal_by (hops_at objects) objects t ≡ Some h)
  goal_there e vr p to.Drop g found is = (goal.Drop, refl)
  goal_there e vr p (to.Rif r) g found is = (g, is)
  goal_there e vr p (to.NextHop n) g found is = (g, is)
  goal_there e vr p (to.Group r) g found is =
      let seen = shown tag made objects chip.whole e (body.Route vr p (to.Group r)) found (chip.whole.refer.each e (body.Route vr p (to.Group r)) found) in
      group_there_by seen.0 seen.1 seen.2 (both_mapped (λ v g. thing.Route v p g) (router_at objects vr) (Some (goal.Group (tag r))) seen.0 seen.1)
    where
      target_of : (v : Vrf) (x y : Rid) (z w : Option Rid) → body.Route z p (to.Group x) ≡ body.Route w p (to.Group y) → x ≡ y
      target_of v x y z w h = cc

      group_there_by : (t : Thing) → thing_by (tagged tag) objects (e, body.Route vr p (to.Group r)) ≡ Some t → IsBody (Has (old_layout objects new)) t (body.Route vr p (to.Group r)) → (v : Vrf) × (g : Goal) × (router_at objects vr ≡ Some v) × (Some (goal.Group (tag r)) ≡ Some g) × (thing.Route v p g ≡ t) → (h : Goal) × (goal_by (hops_at objects) objects (to.Group r) ≡ Some h)
      group_there_by t is of (v, g, at, goal_is, t_is) =
          let of' : IsBody (Has (old_layout objects new)) (thing.Route v p (goal.Group (tag r))) (body.Route vr p (to.Group r)) = subst (λ z. IsBody (Has (old_layout objects new)) z (body.Route vr p (to.Group r))) (sym t_is ∙ ap (thing.Route v p) (sym (same_Some (goal.Group (tag r)) g goal_is))) of in
          let same : of'.first ≡ r = sym (target_of v r of'.first vr (vr_with v of'.second) of'.body_is) in
          let there = group-there chip new (tag r) r (subst (Has (old_layout objects new) (name.Group (tag r))) same of'.first_at) in
          (goal.Group (hops r), ap (option_map goal.Group) (hops-there chip new r (tag r) there))

  abbrev ShownAs : Entry Rid → Body Rid → ThingName → Type 0
  ShownAs e b n = (v : Thing) × (thing_of objects (e, b) ≡ Some v) × (name_of v ≡ n)

  pub shown_as : (e : Entry Rid) (b : Body Rid) (u t : Thing) → body_at objects e ≡ Some b → thing_by (tagged tag) objects (e, b) ≡ Some u → IsIn t new → name_of u ≡ name_of t → ShownAs e b (name_of t)
  shown_as (entry.Oid g) body.Group u t found is i same =
      let u_is : u ≡ thing.Group (tag g) = sym (same_Some (thing.Group (tag g)) u is) in
      let t_is = is-group t (tag g) (sym same ∙ ap name_of u_is) in
      let real = real_tag g (subst (λ z. IsIn z new) t_is i) in
      (thing.Group (hops g), ap (option_map thing.Group) (hops_of_group g found), ap name.Group real ∙ sym (ap name_of u_is) ∙ same)
  shown_as e (body.GroupMember g n weight) u t found is i same =
      let k = both_mapped thing.GroupMember (Some (tag g)) (whop_at objects n weight) u is in
      let tags : k.0 ≡ tag g = sym (same_Some (tag g) k.0 k.2) in
      let u_is : u ≡ thing.GroupMember (tag g) k.1 = sym k.4 ∙ ap (λ h. thing.GroupMember h k.1) tags in
      let t_is = is-member t (tag g) k.1 (sym same ∙ ap name_of u_is) in
      let group = view.within.refers (thing.GroupMember (tag g) k.1) (name.Group (tag g)) (subst (λ z. IsIn z new) t_is i) (inl refl) in
      let real = real_tag g (subst (λ z. IsIn z new) (is-group group.0 (tag g) group.2) group.1) in
      let there = member_group e g n weight k.1 found (is ∙ ap Some u_is) in
      (thing.GroupMember (hops g) k.1, ap₂ (both thing.GroupMember) (hops_of_group g (group_found g there)) k.3, ap (λ h. name.GroupMember h k.1) real ∙ sym (ap name_of u_is) ∙ same)
  shown_as e (body.Route vr p r) u t found is i same =
      let k = both_mapped (λ v g. thing.Route v p g) (router_at objects vr) (goal_by (tagged tag) objects r) u is in
      let h = goal_there e vr p r k.1 found k.3 in
      (thing.Route k.0 p h.0, ap₂ (both (λ v g. thing.Route v p g)) k.2 h.1, ap name_of k.4 ∙ same)
  shown_as (entry.Own v ip) body.Group u t found is i same = absurd cc
  shown_as (entry.Neigh r ip) body.Group u t found is i same = absurd cc
  shown_as (entry.Route v p) body.Group u t found is i same = absurd cc
  shown_as e (body.Port l s m v) u t found is i same = (u, is, same)
  shown_as e _ u t found is i same = (u, is, same)

  old_shown : (u t : Thing) → IsIn u (old_things objects new) → IsIn t new → name_of u ≡ name_of t → (v : Thing) × IsIn v (chip_things objects) × (name_of v ≡ name_of t)
  old_shown u t i j same =
      let s = (old-seen chip new u i).1 in
      let v = shown_as s.entry s.body u t s.found s.thing j same in
      (v.0, stands made objects chip.whole chip.lanes v.0 (s.entry, s.body, s.found, v.1), v.2)

  -- so names that the chip does not show are names that no old thing has
  pub shown-lacking : (kind : Kind) (ks : List ThingName) → AreLacking (chip_things objects) new kind ks → AreLacking (old_things objects new) new kind ks
  shown-lacking kind ks l = record {
    distinct = l.distinct;
    each = λ k i.
        let x = l.each k i in
        (x.0, x.1, x.2, x.3, λ u j e. let v = old_shown u x.1 j x.2 (e ∙ sym x.3) in x.4 v.0 v.1 (v.2 ∙ x.3));
  }

  -- ---- virtual routers

  -- an interface is the same thing whatever hops groups have
  rif_same : (some others : Rid → Option (List WHop)) (e : Entry Rid) (b : Body Rid) (on : Base) (v : Vrf) → thing_by some objects (e, b) ≡ Some (thing.Rif on v) → thing_by others objects (e, b) ≡ Some (thing.Rif on v)
  rif_same some others (entry.Oid g) body.Group on v h = let is = (mapped thing.Group (some g) (thing.Rif on v) h).2 in absurd cc
  rif_same some others e (body.GroupMember g n weight) on v h = let is = (both_mapped thing.GroupMember (some g) (whop_at objects n weight) (thing.Rif on v) h).4 in absurd cc
  rif_same some others e (body.Route vr p t) on v h = let is = (both_mapped (λ z g. thing.Route z p g) (router_at objects vr) (goal_by some objects t) (thing.Rif on v) h).4 in absurd cc
  rif_same some others (entry.Own w ip) body.Group on v h = h
  rif_same some others (entry.Neigh r ip) body.Group on v h = h
  rif_same some others (entry.Route w p) body.Group on v h = h
  rif_same some others e (body.Port l s m u) on v h = h
  rif_same some others e _ on v h = h

  rif_old : (on : Base) (v : Vrf) → IsIn (thing.Rif on v) (chip_things objects) → IsIn (thing.Rif on v) (old_things objects new)
  rif_old on v i =
      let o = object-of_thing objects objects (Some (thing.Rif on v)) (those_in (thing.Rif on v) (named objects) i) in
      object-seen tag objects made chip.whole o.0 o.1 (thing.Rif on v) (found-in objects o.0 o.1 chip.whole.sorted o.2) (rif_same (hops_at objects) (tagged tag) o.0 o.1 on v (sym o.3))

  rif_shown : (on : Base) (v : Vrf) → IsIn (thing.Rif on v) (old_things objects new) → IsIn (thing.Rif on v) (chip_things objects)
  rif_shown on v i =
      let s = (old-seen chip new (thing.Rif on v) i).1 in
      stands made objects chip.whole chip.lanes (thing.Rif on v) (s.entry, s.body, s.found, rif_same (tagged tag) (hops_at objects) s.entry s.body on v s.thing)

  -- so the old interfaces keep their virtual routers where those that the chip shows do, and the other way round
  pub routers-shown : SameRouters (chip_things objects) new → SameRouters (old_things objects new) new
  routers-shown same on v w i j = same on v w (rif_shown on v i) j

  pub routers-shown-back : SameRouters (old_things objects new) new → SameRouters (chip_things objects) new
  routers-shown-back same on v w i j = same on v w (rif_old on v i) j
