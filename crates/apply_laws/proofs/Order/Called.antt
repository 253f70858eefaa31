-- the calls of due steps are those of their changes
use Rattle.std.proofs.Common.{◌≡◌, inl, inr, ℕ, ◌+◌, ◌++◌, true, cond, List, [], ◌∷◌, map, Option, None, Some, refl, sym, ap, ◌∙◌, subst}
use Rattle.std.specs.List.{slice_get}
use Rattle.std.proofs.lemmas.List.{map-append}
use Rattle.std.proofs.lemmas.Option.{same_Some}
use Rattle.sai_types.specs.declared.ids.Rid.{Rid}
use Rattle.sai_types.specs.declared.ids.Vid.{Vid}
use Rattle.sai_types.specs.declared.body.Body.{Body}
use Rattle.sai_types.specs.declared.body.Call.{Call}
use Rattle.sai_types.specs.declared.body.Call.TheVariants as call
use Rattle.sai_types.specs.declared.body.Object.{Object}
use Rattle.sai_types.specs.declared.plan.Mode.{Mode}
use Rattle.sai_types.specs.declared.plan.PlanCall.{PlanCall}
use Rattle.sai_types.specs.declared.plan.PlanId.{PlanId}
use Rattle.sai_types.specs.declared.thing.PortThing.{PortThing}
use Rattle.sai_types.specs.declared.thing.Thing.{Thing}
use Rattle.sai_types.specs.declared.thing.Thing.TheVariants as thing
use Rattle.sai_types.specs.After.{makes_id}
use Rattle.sai_types.specs.Alike.{IsIn}
use Rattle.sai_types.specs.Made.{made_after_all}
use Rattle.sai_types.specs.Named.{thing_of}
use Rattle.sai_types.specs.Names.{ThingName, name_kind, name_of}
use Rattle.sai_types.specs.Objects.{Objects}
use Rattle.chip_names.specs.Naming.{entries_of}
use Rattle.chip_layout.specs.Bodies.{IsAt, IsBody, body_with, first_name, is_numbered, second_name}
use Rattle.chip_layout.specs.Layout.{Has, Layout, has_number}
use Rattle.chip_layout.specs.Renamed.{body_renamed, call_renamed}
use Rattle.chip_layout.proofs.Bodies.{first-numbered, second-numbered}
use Rattle.chip_layout.proofs.Shapes.{renamed_with}
use Rattle.chip_layout.proofs.Renaming.{has_renamed}
use Rattle.plan_laws.specs.Applied.{IsListedChip}
use Rattle.plan_laws.specs.Calls.{PlansChange, PlansChanges, PlansSets, old_entry, plan_layout, resolve, viewed}
use Rattle.plan_laws.specs.Old.{old_layout, old_things, tag_of}
use Rattle.plan_laws.specs.Plans.{PlanChange, Make, Remove, Set}
use Rattle.plan_laws.specs.Views.{SameRouters}
use Rattle.plan_laws.proofs.Starting.{old-laid, seen-old}
use Rattle.view_match.specs.declared.key.NaturalKey.TheVariants as key
use Rattle.view_match.specs.Keys.{natural_key_of}
use Rattle.apply_order.specs.Attributes.{differing, set_call}
use Rattle.apply_order.specs.Calls.{both_calls, make_calls, made_id, remove_calls, step_calls, steps_calls}
use Rattle.apply_order.specs.Naming.{OldIds, new_id}
use Rattle.apply_order.specs.declared.ranks.PlanStep.{PlanStep}
use Rattle.apply_order.specs.declared.ranks.Timed.{Timed}
use Rattle.syncd_core.specs.Run.{made_by}
use Rattle.apply_laws.specs.Apply.{ComeToNextIds}
use Rattle.apply_laws.specs.Viewed.{IsViewOf, things_in}
use Rattle.apply_laws.proofs.Order.Changes.{IsGoneDue, IsMadeDue, IsSetDue, change_of, due-pair, name-is, new_thing, old_name, place_old, thing-is}
use Rattle.apply_laws.proofs.Order.Partners.{in-place}
use Rattle.apply_laws.proofs.Order.Placed.{IsPair, new-in, new-place, pair-at}
use Rattle.apply_laws.proofs.Order.Routers.{one-router}
use Rattle.apply_laws.proofs.Order.Sets.{attr_calls, sets-lead}

-- ---- how many identifiers are made

abbrev pub made_all : ℕ → List PlanCall → ℕ
made_all made [] = made
made_all made (c ∷ cs) = made_all (made_by made c) cs

pub makes_renamed : {I J : Type 0} (f : I → J) (c : Call I) → makes_id (call_renamed f c) ≡ makes_id c
makes_renamed f (call.Create b) = has_renamed f b
makes_renamed f (call.Set e a) = refl
makes_renamed f (call.Remove e) = refl

pub made-same : (f : PlanId → Rid) (cs : List PlanCall) (made : ℕ) → made_after_all made (map (call_renamed f) (map (λ c. c.call) cs)) ≡ made_all made cs
made-same f [] made = refl
made-same f (c ∷ cs) made =
    ap (λ b. made_after_all (cond b (made + 1) made) (map (call_renamed f) (map (λ (d : PlanCall). d.call) cs))) (makes_renamed f c.call)
    ∙ made-same f cs (made_by made c)

pub numbered-append : (ids : Vid → Rid) (xs ys : List PlanCall) (made : ℕ) → ComeToNextIds ids made (xs ++ ys) → ComeToNextIds ids made xs × ComeToNextIds ids (made_all made xs) ys
numbered-append ids [] ys made h = (tt, h)
numbered-append ids (x ∷ xs) ys made h = let rest = numbered-append ids xs ys (made_by made x) h.1 in ((h.0, rest.0), rest.1)

-- ---- the calls of steps, one after another

module _ (start : Layout Rid) (view : Layout Vid) (change : Timed → PlanChange) (calls : Timed → List PlanCall) where
  pub record HasPlan (t : Timed) : Type 0 where
    pub plans : PlansChange start view (change t) (map (λ c. c.call) (calls t))
    pub makes : (u : Thing) → change t ≡ Make u → (v : Vid) (w : Thing) → view v w → name_of w ≡ name_of u → has_number w ≡ true → (c : PlanCall) × (calls t ≡ c ∷ []) × (c.makes ≡ Some v)

  abbrev pub all_calls : List Timed → List PlanCall
  all_calls [] = []
  all_calls (t ∷ ts) = calls t ++ all_calls ts

  pub plans-all : (ids : Vid → Rid) (ts : List Timed) (made : ℕ) → ((t : Timed) → IsIn t ts → HasPlan t) → ComeToNextIds ids made (all_calls ts) → PlansChanges start view ids made (map change ts) (map (λ c. c.call) (all_calls ts))
  plans-all ids [] made have numbered = refl
  plans-all ids (t ∷ ts) made have numbered =
      let parts = numbered-append ids (calls t) (all_calls ts) made numbered in
      let here = have t (inl refl) in
      let rest = plans-all ids ts (made_all made (calls t)) (λ s i. have s (inr i)) parts.1 in (
        map (λ (c : PlanCall). c.call) (calls t),
        map (λ (c : PlanCall). c.call) (all_calls ts),
        map-append (λ (c : PlanCall). c.call) (calls t) (all_calls ts),
        here.plans,
        λ u is v w there same number.
            let c = here.makes u is v w there same number in
            let first = subst (λ cs. ComeToNextIds ids made cs) c.1 parts.0 in
            first.0 v c.2,
        subst (λ n. PlansChanges start view ids n (map change ts) (map (λ (c : PlanCall). c.call) (all_calls ts))) (sym (made-same (resolve ids) (calls t) made)) rest,
      )

pub calls-all : (names : OldIds) (old : List (Object Rid)) (new : List (Object Vid)) (start : Layout Rid) (view : Layout Vid) (change : Timed → PlanChange) (ts : List Timed) → all_calls start view change (λ t. step_calls names old new t.step) ts ≡ steps_calls names old new ts
calls-all names old new start view change [] = refl
calls-all names old new start view change (t ∷ ts) = ap (λ cs. step_calls names old new t.step ++ cs) (calls-all names old new start view change ts)

-- ---- the bodies of new objects, as a plan names them

module _ (start : Layout Rid) (view : Layout Vid) (names : OldIds) (named : (v : Vid) (u : Thing) → view v u → has_number u ≡ true → plan_layout start view (new_id names v) u) where
  pub at-new : (o : Option ThingName) (v : Vid) → ((k : ThingName) → o ≡ Some k → is_numbered (name_kind k) ≡ true) → IsAt (Has view) o v → IsAt (Has (plan_layout start view)) o (new_id names v)
  at-new None v number h = tt
  at-new (Some k) v number h = (h.0, named v h.0 h.1 (ap (λ z. is_numbered (name_kind z)) h.2 ∙ number k refl), h.2)

  pub body-new : (t : Thing) (b : Body Vid) → IsBody (Has view) t b → IsBody (Has (plan_layout start view)) t (body_renamed (new_id names) b)
  body-new t b x = record {
    first = new_id names x.first;
    second = new_id names x.second;
    first_at = at-new (first_name t) x.first (first-numbered t) x.first_at;
    second_at = at-new (second_name t) x.second (second-numbered t) x.second_at;
    body_is = ap (body_renamed (new_id names)) x.body_is ∙ renamed_with (new_id names) t x.first x.second;
  }

-- ---- each step

module _ {made : ℕ} (old : List (Object Rid)) {new : List (Object Vid)} {things : List (Vid × Thing)} (chip : IsListedChip made (entries_of old)) (view : IsViewOf things new) (m : Mode) (names : OldIds) where
  abbrev O : Objects
  O = entries_of old

  abbrev N : List Thing
  N = things_in things

  abbrev change : Timed → PlanChange
  change t = change_of (new_thing things) (old_name (tag_of O N) O) t.step

  abbrev calls : Timed → List PlanCall
  calls t = step_calls names old new t.step

  abbrev these : List PlanCall → List (Call PlanId)
  these cs = map (λ c. c.call) cs

  abbrev by_step : PlanStep → PlanChange
  by_step = change_of (new_thing things) (old_name (tag_of O N) O)

  -- what a step that makes an object calls
  pub made-plan : (start : Layout Rid) → ((v : Vid) (u : Thing) → viewed things v u → has_number u ≡ true → plan_layout start (viewed things) (new_id names v) u) → (t : Timed) → IsMadeDue old chip view m t → HasPlan start (viewed things) change calls t
  made-plan start named t d =
      let call_is : calls t ≡ record { call = call.Create (body_renamed (new_id names) d.n.body); makes = made_id d.n.entry } ∷ [] = ap (step_calls names old new) d.step ∙ ap (make_calls names) d.at in
      let change_is : change t ≡ Make d.x.1 = ap by_step d.step ∙ ap Make (thing-is old chip view m d.j d.x d.there) in
      record {
        plans = subst (λ c. PlansChange start (viewed things) c (these (calls t))) (sym change_is) (body_renamed (new_id names) d.n.body, body-new start (viewed things) names named d.x.1 d.n.body d.of, ap these call_is);
        makes = λ u is v w there same number.
            let made_is : d.x.1 ≡ u = one_made d.x.1 u (sym change_is ∙ is) in
            let k = in-place things (v, w) there in
            let at = new-place old chip view k.0 d.j (v, w) d.x k.1 d.there (same ∙ ap name_of (sym made_is)) in
            let both : (v, w) ≡ d.x = same_Some (v, w) d.x (sym k.1 ∙ ap (slice_get things) at ∙ d.there) in
            let number' : has_number d.x.1 ≡ true = ap (λ (z : Vid × Thing). has_number z.1) (sym both) ∙ number in
            (_, call_is, ap made_id (d.entry.some number') ∙ ap (λ (z : Vid × Thing). Some z.0) (sym both));
      }
    where
      one_made : (t u : Thing) → Make t ≡ Make u → t ≡ u
      one_made t u e = cc

  -- what a step that removes one calls
  pub gone-plan : (t : Timed) → IsGoneDue old chip view m t → HasPlan (old_layout O N) (viewed things) change calls t
  gone-plan t d =
      let call_is : calls t ≡ record { call = call.Remove (old_entry d.o.entry); makes = None } ∷ [] = ap (step_calls names old new) d.step ∙ ap remove_calls d.at in
      let change_is : change t ≡ Remove (name_of d.was.thing) = ap by_step d.step ∙ ap Remove (name-is old chip view m d.i d.o.entry d.o.body d.was) in
      record {
        plans = subst (λ c. PlansChange (old_layout O N) (viewed things) c (these (calls t))) (sym change_is) (d.was.id, d.was.thing, d.o.body, d.was.stands, refl, d.was.of, ap these call_is ∙ ap (λ e. call.Remove (old_entry e) ∷ []) d.was.entry);
        makes = λ u is v w there same number. absurd (apart_made (name_of d.was.thing) u (sym change_is ∙ is));
      }
    where
      apart_made : (k : ThingName) (u : Thing) → Remove k ≡ Make u → ⊥
      apart_made k u e = cc

  -- what a step that sets what differs calls
  port_lanes : (i j : ℕ) → (p : IsPair old chip view i j) → (q r : PortThing) → p.was.thing ≡ thing.Port q → p.now.1 ≡ thing.Port r → q.lanes ≡ r.lanes
  port_lanes i j p q r a b =
      let of = subst (λ w. IsBody (Has (old_layout O N)) w p.body) a p.was.of in
      let shown : thing_of O (p.entry, p.body) ≡ Some (thing.Port q) = ap (λ z. thing_of O (p.entry, z)) of.body_is in
      let is : p.shown ≡ thing.Port q = same_Some p.shown (thing.Port q) (sym p.shows ∙ shown) in
      let keys : key.Port q.lanes ≡ key.Port r.lanes = ap natural_key_of (sym is) ∙ p.key ∙ ap natural_key_of b in
      lanes_of q.lanes r.lanes keys
    where
      lanes_of : (xs ys : List ℕ) → key.Port xs ≡ key.Port ys → xs ≡ ys
      lanes_of xs ys e = cc

  pub set-plan : SameRouters (old_things O N) N → ((v : Vid) (u : Thing) → viewed things v u → has_number u ≡ true → plan_layout (old_layout O N) (viewed things) (new_id names v) u) → (t : Timed) → IsSetDue old chip view m t → HasPlan (old_layout O N) (viewed things) change calls t
  set-plan routers named t d =
      let p = pair-at old chip view d.i d.j (due-pair old chip view m (d.i, d.j) d.pair) in
      let o = place_old old chip view m d.i p.entry p.body p.was.at in
      let news : p.now ≡ d.x = same_Some p.now d.x (sym p.there ∙ d.there) in
      let now_is : p.now.1 ≡ d.x.1 = ap (λ (z : Vid × Thing). z.1) news in
      let call_is : calls t ≡ map (set_call o.0.entry) (differing names o.0.body d.n.body) = ap (step_calls names old new) d.step ∙ ap (λ z. both_calls names z (slice_get new d.j)) o.1 ∙ ap (both_calls names (Some o.0)) d.at in
      let change_is : change t ≡ Set d.x.1 = ap by_step d.step ∙ ap Set (thing-is old chip view m d.j d.x d.there) in
      let w = p.was.of in
      let x = d.of in
      let sets = sets-lead (old_layout O N) (old-laid chip N).ids (viewed things) names p.was.thing d.x.1 (p.same ∙ ap name_of now_is) (λ q r a b. port_lanes d.i d.j p q r a (now_is ∙ b)) (one-router (old_things O N) N routers p.was.thing d.x.1 (seen-old chip N p.was.id p.was.thing p.was.stands) (new-in old chip view d.j d.x d.there) (p.same ∙ ap name_of now_is)) p.entry w.first w.second x.first x.second w.first_at (at-new (old_layout O N) (viewed things) names named (first_name d.x.1) x.first (first-numbered d.x.1) x.first_at) in
      let calls_are : these (calls t) ≡ attr_calls p.entry (differing names (body_with p.was.thing w.first w.second) (body_with d.x.1 x.first x.second)) = ap these call_is ∙ ap (λ e. attr_calls e (differing names o.0.body d.n.body)) o.2 ∙ ap (λ b. attr_calls p.entry (differing names b d.n.body)) (o.3 ∙ w.body_is) ∙ ap (λ b. attr_calls p.entry (differing names (body_with p.was.thing w.first w.second) b)) x.body_is in
      let sets' = subst (λ cs. PlansSets (plan_layout (old_layout O N) (viewed things)) (old_entry p.entry) 0 cs p.was.thing d.x.1) (sym calls_are) sets in
      record {
        plans = subst (λ c. PlansChange (old_layout O N) (viewed things) c (these (calls t))) (sym change_is) (p.was.id, p.was.thing, p.body, p.was.stands, p.same ∙ ap name_of now_is, p.was.of, subst (λ e. PlansSets (plan_layout (old_layout O N) (viewed things)) (old_entry e) 0 (these (calls t)) p.was.thing d.x.1) p.was.entry sets');
        makes = λ u is v z there same number. absurd (apart_made d.x.1 u (sym change_is ∙ is));
      }
    where
      apart_made : (s u : Thing) → Set s ≡ Make u → ⊥
      apart_made s u e = cc
