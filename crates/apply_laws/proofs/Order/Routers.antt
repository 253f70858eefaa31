-- paired interfaces stay in their virtual routers exactly where no base has an old interface and a new one in different ones
use Rattle.std.proofs.Common.{◌≡◌, ℕ, true, List, [], Some, refl, sym, ap, ◌∙◌, subst}
use Rattle.std.specs.List.{slice_get}
use Rattle.std.proofs.lemmas.Bool.{eq-eqb, false≢true}
use Rattle.std.proofs.lemmas.Option.{same_Some}
use Rattle.swss_types.specs.declared.vrf.Vrf.{Vrf}
use Rattle.swss_types.specs.declared.vrf.Vrf.TheVariants as vrf
use Rattle.swss_types.specs.declared.vrf.VrfName.{VrfName}
use Rattle.sai_types.specs.declared.ids.Rid.{Rid}
use Rattle.sai_types.specs.declared.ids.Vid.{Vid}
use Rattle.sai_types.specs.declared.body.Body.{Body}
use Rattle.sai_types.specs.declared.body.Entry.{Entry}
use Rattle.sai_types.specs.declared.body.Object.{Object}
use Rattle.sai_types.specs.declared.hop.Base.{Base}
use Rattle.sai_types.specs.declared.plan.Mode.TheVariants as mode
use Rattle.sai_types.specs.declared.plan.PlanId.{PlanId}
use Rattle.sai_types.specs.declared.plan.PlanId.TheVariants as plan_id
use Rattle.sai_types.specs.declared.thing.Thing.{Thing}
use Rattle.sai_types.specs.declared.thing.Thing.TheVariants as thing
use Rattle.sai_types.specs.Alike.{IsIn}
use Rattle.sai_types.specs.Names as name
use Rattle.sai_types.specs.Names.{ThingName, name_kind, name_of}
use Rattle.sai_types.specs.Objects.{Objects}
use Rattle.sai_types.proofs.Things.{rifs}
use Rattle.chip_names.specs.Naming.{entries_of}
use Rattle.chip_layout.specs.Bodies.{IsAt, IsBody, body_with, is_numbered, router_name, second_name, vr_with}
use Rattle.chip_layout.specs.Layout.{Has, Layout}
use Rattle.plan_laws.specs.Applied.{IsListedChip}
use Rattle.plan_laws.specs.Calls.{plan_layout, viewed}
use Rattle.plan_laws.specs.Old.{old_layout, old_things}
use Rattle.plan_laws.specs.Views.{SameRouters}
use Rattle.plan_laws.proofs.Starting.{old-laid, old-seen, seen-old}
use Rattle.view_match.specs.Pairs.{pairs_of}
use Rattle.apply_order.specs.Attributes.{is_old}
use Rattle.apply_order.specs.Naming.{OldIds, names_from, new_id}
use Rattle.apply_order.specs.Routers.{KeepRouters, is_same_router, stays_in_router}
use Rattle.apply_laws.specs.Viewed.{HaveOneLanes, IsViewOf, things_in}
use Rattle.apply_laws.proofs.Order.Changes.{place_old}
use Rattle.apply_laws.proofs.Order.Ids.{hitless-named}
use Rattle.apply_laws.proofs.Order.Placed.{in-new, matched, new-in, object-at, old-place, pair-at, thing-at}
use Rattle.apply_laws.proofs.Order.Sets.{at_old}

router_names : (m n : VrfName) → name.VirtualRouter m ≡ name.VirtualRouter n → m ≡ n
router_names m n e = cc

-- where no interface has to move, an old one and a new one of its name are in one virtual router
pub one-router : (olds news : List Thing) → SameRouters olds news → (u t : Thing) → IsIn u olds → IsIn t news → name_of u ≡ name_of t → (a b : Base) (v w : Vrf) → u ≡ thing.Rif a v → t ≡ thing.Rif b w → v ≡ w
one-router olds news same u t i j names a b v w was now =
    let bases : a ≡ b = rifs a b (sym (ap name_of was) ∙ names ∙ ap name_of now) in
    same a v w (subst (λ z. IsIn z olds) was i) (subst (λ z. IsIn z news) (now ∙ ap (λ c. thing.Rif c w) (sym bases)) j)

module _ {made : ℕ} (old : List (Object Rid)) {new : List (Object Vid)} {things : List (Vid × Thing)} (chip : IsListedChip made (entries_of old)) (view : IsViewOf things new) (lanes : HaveOneLanes (entries_of old) (things_in things)) where
  abbrev O : Objects
  O = entries_of old

  abbrev N : List Thing
  N = things_in things

  abbrev start : Layout Rid
  start = old_layout O N

  abbrev by : Layout PlanId
  by = plan_layout start (viewed things)

  abbrev names : OldIds
  names = names_from [] old new (pairs_of old new)

  -- ---- virtual routers by their identifiers

  -- the identifier by which a plan names what has an old one's name is the old one
  is_kept : (k : ThingName) (r : Rid) (p : PlanId) → Has start k r → Has by k p → is_old r p ≡ true
  is_kept k r (plan_id.Old s) a b =
      let has = b.1.1 in
      let same = (old-laid chip N).one r s a.0 has.0 a.1 has.1 (a.2 ∙ sym b.2 ∙ sym has.2) in
      eq-eqb r.0 s.0 (ap (λ (z : Rid). z.0) same.0)
  is_kept k r (plan_id.New v) a b = absurd (b.1.1 r (subst (λ z. Has start z r) (sym b.2) a))

  -- a new virtual router as the plan names it
  router_at : (label : VrfName) (l : Vid) → Has (viewed things) (name.VirtualRouter label) l → Has by (name.VirtualRouter label) (new_id names l)
  router_at label l h = (h.0, hitless-named old chip view lanes l h.0 h.1 (ap (λ z. is_numbered (name_kind z)) h.2), h.2)

  told_router : (v w : Vrf) (j : Rid) (l : Vid) → IsAt (Has start) (router_name v) j → IsAt (Has (viewed things)) (router_name w) l → is_same_router names (vr_with v j) (vr_with w l) ≡ true → v ≡ w
  told_router vrf.Default vrf.Default j l a b h = refl
  told_router vrf.Default (vrf.Named n) j l a b h = absurd (false≢true h)
  told_router (vrf.Named m) vrf.Default j l a b h = absurd (false≢true h)
  told_router (vrf.Named m) (vrf.Named n) j l a b h = ap vrf.Named (router_names m n (at_old start (old-laid chip N).ids (viewed things) names (name.VirtualRouter m) (name.VirtualRouter n) j (new_id names l) refl refl a (router_at n l b) h))

  router_told : (v w : Vrf) (j : Rid) (l : Vid) → v ≡ w → IsAt (Has start) (router_name v) j → IsAt (Has (viewed things)) (router_name w) l → is_same_router names (vr_with v j) (vr_with w l) ≡ true
  router_told vrf.Default vrf.Default j l e a b = refl
  router_told vrf.Default (vrf.Named n) j l e a b = absurd cc
  router_told (vrf.Named m) vrf.Default j l e a b = absurd cc
  router_told (vrf.Named m) (vrf.Named n) j l e a b = is_kept (name.VirtualRouter n) j (new_id names l) (subst (λ z. IsAt (Has start) (router_name z) j) e a) (router_at n l b)

  -- ---- interfaces by their places

  body_of : (i : ℕ) (o : Object Rid) (e : Entry Rid) (b : Body Rid) → slice_get old i ≡ Some o → slice_get O i ≡ Some (e, b) → o.body ≡ b
  body_of i o e b at there =
      let p = place_old old chip view mode.Hitless i e b there in
      ap (λ (z : Object Rid). z.body) (same_Some o p.0 (sym at ∙ p.1)) ∙ p.3

  -- a thing's object stays in its router where the thing does
  stays : (u t : Thing) (i j : Rid) (k l : Vid) → ((a b : Base) (v w : Vrf) → u ≡ thing.Rif a v → t ≡ thing.Rif b w → v ≡ w) → IsAt (Has start) (second_name u) j → IsAt (Has (viewed things)) (second_name t) l → stays_in_router names (body_with u i j) (body_with t k l) ≡ true
  stays (thing.Rif a v) (thing.Rif b w) i j k l same x y = router_told v w j l (same a b v w refl refl) x y
  stays (thing.Port p) t i j k l same x y = refl
  stays _ _ i j k l same x y = refl

  pub same-keep : SameRouters (old_things O N) N → KeepRouters old new (pairs_of old new)
  same-keep same q o n h at there =
      let p = pair-at old chip view q.0 q.1 h in
      let x = object-at old chip view q.1 n there in
      let news : p.now ≡ x.0 = same_Some p.now x.0 (sym p.there ∙ x.1) in
      let u = p.was.thing in
      let t = x.0.1 in
      let names_same : name_of u ≡ name_of t = p.same ∙ ap (λ (z : Vid × Thing). name_of z.1) news in
      let of = p.was.of in
      let one = one-router (old_things O N) N same u t (seen-old chip N p.was.id u p.was.stands) (new-in old chip view q.1 x.0 x.1) names_same in
      ap (λ b. stays_in_router names b n.body) (body_of q.0 o p.entry p.body at p.was.at ∙ of.body_is)
      ∙ ap (stays_in_router names (body_with u of.first of.second)) x.2.body_is
      ∙ stays u t of.first of.second x.2.first x.2.second one of.second_at x.2.second_at

  pub keep-same : KeepRouters old new (pairs_of old new) → SameRouters (old_things O N) N
  keep-same keep base v w i j =
      let s = old-seen chip N (thing.Rif base v) i in
      let p = old-place old chip view s.0 (thing.Rif base v) s.1 in
      let q = in-new old chip view (thing.Rif base w) j in
      let x = thing-at old chip view q.0 q.1 q.2 in
      let pair = matched old chip view lanes p.place q.0 p.entry p.body p.was q.1 q.2 (ap name_of p.thing ∙ ap name_of q.3) in
      let o = place_old old chip view mode.Hitless p.place p.entry p.body p.was.at in
      let of = subst (λ z. IsBody (Has start) z p.body) p.thing p.was.of in
      let new_of = subst (λ z. IsBody (Has (viewed things)) z x.0.body) (sym q.3) x.2 in
      told_router v w of.second new_of.second of.second_at new_of.second_at
      (sym (ap (λ b. stays_in_router names b x.0.body) (o.3 ∙ of.body_is) ∙ ap (stays_in_router names (body_with (thing.Rif base v) of.first of.second)) new_of.body_is)
      ∙ keep (p.place, q.0) o.0 x.0 pair o.1 x.1)
