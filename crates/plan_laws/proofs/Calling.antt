-- the calls of a plan, with the identifiers that they come to, make its changes
use Rattle.std.proofs.Common.{◌≡◌, inl, inr, ℕ, ◌+◌, ◌≤◌, ◌++◌, true, List, [], ◌∷◌, map, Option, None, Some, refl, sym, ap, ◌∙◌, subst, arith}
use Rattle.std.proofs.lemmas.List.{append-nil, map-append}
use Rattle.sai_types.specs.declared.ids.Rid.{Rid}
use Rattle.sai_types.specs.declared.ids.Vid.{Vid}
use Rattle.sai_types.specs.declared.body.Attr.{Attr}
use Rattle.sai_types.specs.declared.body.Attr.TheVariants as attr
use Rattle.sai_types.specs.declared.body.Body.{Body}
use Rattle.sai_types.specs.declared.body.Body.TheVariants as body
use Rattle.sai_types.specs.declared.body.Call.{Call}
use Rattle.sai_types.specs.declared.body.Call.TheVariants as call
use Rattle.sai_types.specs.declared.body.Entry.{Entry}
use Rattle.sai_types.specs.declared.body.Entry.TheVariants as entry
use Rattle.sai_types.specs.declared.plan.PlanId.{PlanId}
use Rattle.sai_types.specs.declared.plan.PlanId.TheVariants as plan_id
use Rattle.sai_types.specs.declared.thing.Goal.{Goal}
use Rattle.sai_types.specs.declared.thing.Goal.TheVariants as goal
use Rattle.sai_types.specs.declared.thing.PortThing.{PortThing}
use Rattle.sai_types.specs.declared.thing.Thing.{Thing}
use Rattle.sai_types.specs.declared.thing.Thing.TheVariants as thing
use Rattle.sai_types.specs.After.{entry_of}
use Rattle.sai_types.specs.Alike.{IsIn}
use Rattle.sai_types.specs.Names.{ThingName, name_kind, name_of}
use Rattle.sai_types.specs.Objects.{Objects}
use Rattle.chip_layout.specs.Bodies.{IsAt, IsBody, IsChange, first_name, goal_name, is_numbered, second_name, to_with}
use Rattle.chip_layout.specs.Layout.{Has, Layout, RefersWell, has_number, next_rid, with_changed}
use Rattle.chip_layout.specs.Renamed.{attr_renamed, body_renamed, call_renamed, entry_renamed, to_renamed}
use Rattle.chip_layout.proofs.Bodies.{entry-body, first-numbered, first-refers, second-numbered, second-refers}
use Rattle.chip_layout.proofs.Shapes.{renamed_with}
use Rattle.plan_laws.specs.Calls.{PlansChange, PlansChanges, PlansSets, Resolves, old_entry, plan_layout, resolve}
use Rattle.plan_laws.specs.Moments.{IsMoment, MakesChange, MakesChanges, SetsThing, attr_place, layout_after}
use Rattle.plan_laws.specs.Plans.{PlanChange, Make, Remove, Set, subject}
use Rattle.plan_laws.specs.Views.{HasRoomForPlan}
use Rattle.plan_laws.proofs.Allowed.{IsSafePlan}
use Rattle.plan_laws.proofs.Following.{before, due-in, origin, outcome-named}
use Rattle.plan_laws.proofs.Running.{IsEnd, allowed, end-append, one_then_rest, plan-step}
use Rattle.plan_laws.proofs.Stepping.{IsAllowed, IsChangeMade, first-place, is-port}

-- ---- identifiers that the plan's come to

module _ (start : Layout Rid) (view : Layout Vid) (ids : Vid → Rid) (now : Layout Rid) (resolves : Resolves start view ids now) where
  -- what stands has the identifier that a plan names it by
  has_resolved : (k : ThingName) (r : PlanId) → is_numbered (name_kind k) ≡ true → Has (plan_layout start view) k r → (j : Rid) → Has now k j → Has now k (resolve ids r)
  has_resolved k (plan_id.Old i) n h j there = resolves.old k i (subst (λ z. Has start z i) h.2 h.1.1) j there
  has_resolved k (plan_id.New v) n h j there = subst (λ z. Has now z (ids v)) h.2 (resolves.new v h.0 h.1.0 (ap (λ z. is_numbered (name_kind z)) h.2 ∙ n) h.1.1 j (subst (λ z. Has now z j) (sym h.2) there))

  at_resolved : (o : Option ThingName) (r : PlanId) → ((k : ThingName) → o ≡ Some k → is_numbered (name_kind k) ≡ true) → ((k : ThingName) → o ≡ Some k → (j : Rid) × Has now k j) → IsAt (Has (plan_layout start view)) o r → IsAt (Has now) o (resolve ids r)
  at_resolved None r n stand h = tt
  at_resolved (Some k) r n stand h = let j = stand k refl in has_resolved k r (n k refl) h j.0 j.1

  -- a body by a plan's identifiers comes to that of the same thing
  body_resolved : (t : Thing) (b : Body PlanId) → RefersWell now t → IsBody (Has (plan_layout start view)) t b → IsBody (Has now) t (body_renamed (resolve ids) b)
  body_resolved t b well x = record {
    first = resolve ids x.first;
    second = resolve ids x.second;
    first_at = at_resolved (first_name t) x.first (first-numbered t) (λ k e. well k (first-refers t k e)) x.first_at;
    second_at = at_resolved (second_name t) x.second (second-numbered t) (λ k e. well k (second-refers t k e)) x.second_at;
    body_is = ap (body_renamed (resolve ids)) x.body_is ∙ renamed_with (resolve ids) t x.first x.second;
  }

  at_stood : (o : Option ThingName) (i j : Rid) → IsAt (Has start) o i → IsAt (Has now) o j → IsAt (Has now) o i
  at_stood None i j x y = tt
  at_stood (Some k) i j x y = resolves.old k i x j y

  -- a body that an old thing had is the one that it has
  body_stood : (t : Thing) (b d : Body Rid) → IsBody (Has start) t b → IsBody (Has now) t d → IsBody (Has now) t b
  body_stood t b d x y = record {
    first = x.first;
    second = x.second;
    first_at = at_stood (first_name t) x.first y.first x.first_at y.first_at;
    second_at = at_stood (second_name t) x.second y.second x.second_at y.second_at;
    body_is = x.body_is;
  }

-- before the plan
pub resolves-first : (start : Layout Rid) (view : Layout Vid) (ids : Vid → Rid) → Resolves start view ids start
resolves-first start view ids = record {
  old = λ k i h j there. h;
  new = λ v t h n none j there. absurd (none j there);
}

-- and after each change, where what is made has the identifier that was made for it
pub resolves-next : {old : List Thing} {done : List PlanChange} {layout : Layout Rid} {made : ℕ} {objects : Objects} (at : IsMoment old done layout made objects) (capacities : List ℕ) (c : PlanChange) (calls : List (Call Rid)) (later : Layout Rid) → IsChangeMade at capacities c calls later → (start : Layout Rid) (view : Layout Vid) (ids : Vid → Rid) → ((t : Thing) → c ≡ Make t → ((i : Rid) → Has start (name_of t) i → ⊥) × ((v : Vid) (u : Thing) → view v u → name_of u ≡ name_of t → has_number u ≡ true → ids v ≡ next_rid made)) → Resolves start view ids layout → Resolves start view ids later
resolves-next at capacities c calls later is start view ids makes before = record {
  old = λ k i h j there. elim (is.fresh k j there) [
    | inl stood ↦ is.keeps k i (before.old k i h stood.0 stood.1) j there
    | inr new ↦ absurd ((makes new.0 new.1).0 i (subst (λ z. Has start z i) (sym new.2) h))
  ];
  new = λ v t h n none j there. elim (is.fresh (name_of t) j there) [
    | inl stood ↦ is.keeps (name_of t) (ids v) (before.new v t h n none stood.0 stood.1) j there
    | inr new ↦ subst (Has later (name_of t)) (sym ((makes new.0 new.1).1 v t h (sym new.2) n)) new.3
  ];
}

-- ---- calls

entry_back : (ids : Vid → Rid) (e : Entry Rid) → entry_renamed (resolve ids) (old_entry e) ≡ e
entry_back ids (entry.Oid r) = refl
entry_back ids (entry.Own None ip) = refl
entry_back ids (entry.Own (Some r) ip) = refl
entry_back ids (entry.Neigh r ip) = refl
entry_back ids (entry.Route None p) = refl
entry_back ids (entry.Route (Some r) p) = refl

pub to_resolved : {I J : Type 0} (f : I → J) (g : Goal) (i : I) → to_renamed f (to_with g i) ≡ to_with g (f i)
to_resolved f goal.Drop i = refl
to_resolved f (goal.Direct on) i = refl
to_resolved f (goal.Via hop) i = refl
to_resolved f (goal.Group hops) i = refl

place_resolved : {I J : Type 0} (f : I → J) (a : Attr I) → attr_place (attr_renamed f a) ≡ attr_place a
place_resolved f (attr.Mtu mtu) = refl
place_resolved f (attr.Up up) = refl
place_resolved f (attr.Speed s) = refl
place_resolved f _ = refl

module _ (start : Layout Rid) (view : Layout Vid) (ids : Vid → Rid) where
  abbrev f : PlanId → Rid
  f = resolve ids

  abbrev resolved : List (Call PlanId) → List (Call Rid)
  resolved = map (call_renamed f)

  -- ---- sets

  change_resolved : (now : Layout Rid) → Resolves start view ids now → (u : Thing) (a : Attr PlanId) (v : Thing) → RefersWell now v → IsChange (Has (plan_layout start view)) u a v → IsChange (Has now) u (attr_renamed f a) v
  change_resolved now r (thing.Port p) (attr.Speed s) v well h = h
  change_resolved now r (thing.Port p) (attr.Mtu m) v well h = h
  change_resolved now r (thing.Port p) (attr.Up x) v well h = h
  change_resolved now r (thing.VlanMember vlan lane tagging) (attr.Tagging x) v well h = h
  change_resolved now r (thing.Neighbor hop mac) (attr.Mac m) v well h = h
  change_resolved now r (thing.Route z p g) (attr.To x) v well h = (
    h.0,
    f h.1,
    at_resolved start view ids now r (goal_name h.0) h.1 (first-numbered (thing.Route z p h.0)) (λ k e. well k (first-refers v k (ap first_name h.4 ∙ e))) h.2,
    ap (to_renamed f) h.3 ∙ to_resolved f h.0 h.1,
    h.4,
  )
  change_resolved now r _ _ v well h = elim h [ ]

  port_change : (now : Layout Rid) (p : PortThing) (a : Attr PlanId) (v : Thing) → IsChange (Has (plan_layout start view)) (thing.Port p) a v → (q : PortThing) × (v ≡ thing.Port q) × IsChange (Has now) (thing.Port p) (attr_renamed f a) v
  port_change now p (attr.Speed s) v h = (_, h, h)
  port_change now p (attr.Mtu m) v h = (_, h, h)
  port_change now p (attr.Up x) v h = (_, h, h)
  port_change now p _ v h = elim h [ ]

  -- sets of a port
  port_sets : (i : Rid) (place : ℕ) (cs : List (Call PlanId)) (now : Layout Rid) (p : PortThing) (t : Thing) → PlansSets (plan_layout start view) (entry.Oid (plan_id.Old i)) place cs (thing.Port p) t → SetsThing i place (resolved cs) now (thing.Port p) t
  port_sets i place [] now p t is = is
  port_sets i place (c ∷ cs) now p t is =
      let a = is.0 in
      let change = port_change now p a is.1 is.2 in
      let same : attr_place (attr_renamed f a) ≡ attr_place a = place_resolved f a in
      let rest = port_sets i (attr_place a + 1) cs (with_changed now i is.1) change.0 t (subst (λ w. PlansSets (plan_layout start view) (entry.Oid (plan_id.Old i)) (attr_place a + 1) cs w t) change.1 is.5) in (
        body.Port p.lanes p.speed p.mtu p.up,
        attr_renamed f a,
        is.1,
        record { first = i; second = i; first_at = tt; second_at = tt; body_is = refl },
        change.2,
        ap (call_renamed f) is.3,
        subst (λ n. place ≤ n) (sym same) is.4,
        subst (λ n. SetsThing i (n + 1) (resolved cs) (with_changed now i is.1) is.1 t) (sym same) (subst (λ w. SetsThing i (attr_place a + 1) (resolved cs) (with_changed now i is.1) w t) (sym change.1) rest),
      )

  single_set : (now : Layout Rid) → Resolves start view ids now → (i : Rid) (u t : Thing) (b : Body Rid) (c : Call PlanId) → IsBody (Has now) u b → RefersWell now t → PlansSets (plan_layout start view) (old_entry (entry_of i.0 b)) 0 (c ∷ []) u t → SetsThing i 0 (resolved (c ∷ [])) now u t
  single_set now r i u t b c of well is =
      let well' : RefersWell now is.1 = subst (RefersWell now) (sym is.5) well in
      let least : 0 ≤ attr_place (attr_renamed f is.0) = omega arith in
      (b, attr_renamed f is.0, is.1, of, change_resolved now r u is.0 is.1 well' is.2, ap (call_renamed f) is.3 ∙ ap (λ e. call.Set e (attr_renamed f is.0)) (entry_back ids (entry_of i.0 b)), least, is.5)

  -- sets of a thing: of one that is no port there is at most one
  sets_resolved : (now : Layout Rid) → Resolves start view ids now → (i : Rid) (u t : Thing) (b : Body Rid) (calls : List (Call PlanId)) → IsBody (Has now) u b → RefersWell now t → PlansSets (plan_layout start view) (old_entry (entry_of i.0 b)) 0 calls u t → SetsThing i 0 (resolved calls) now u t
  sets_resolved now r i u t b [] of well is = is
  sets_resolved now r i u t b (c ∷ []) of well is = single_set now r i u t b c of well is
  sets_resolved now r i u t b (c ∷ d ∷ cs) of well is =
      elim (first-place (Has (plan_layout start view)) u is.0 is.1 is.2) [
        | inl port ↦
            let p = is-port u port in
            let e : old_entry (entry_of i.0 b) ≡ entry.Oid (plan_id.Old i) = ap old_entry (entry-body (Has now) i.0 u b of (ap has_number p.1)) in
            subst (λ w. SetsThing i 0 (resolved (c ∷ d ∷ cs)) now w t) (sym p.1)
            (port_sets i 0 (c ∷ d ∷ cs) now p.0 t (subst (λ w. PlansSets (plan_layout start view) (entry.Oid (plan_id.Old i)) 0 (c ∷ d ∷ cs) w t) p.1 (subst (λ x. PlansSets (plan_layout start view) x 0 (c ∷ d ∷ cs) u t) e is)))
        | inr one ↦ elim (first-place (Has (plan_layout start view)) is.1 is.5.0 is.5.1 is.5.2) [ inl port ↦ absurd (one.1 port) | inr first ↦ let zero = first.0 in let later = is.5.4 in absurd (omega (arith, zero, later)) ]
      ]

  module _ {order : PlanChange → ℕ} {old new : List Thing} {plan : List PlanChange} (p : IsSafePlan order old new plan) {made' : ℕ} {objects' : Objects} (first : IsMoment old [] start made' objects') where
    module _ (done due : List PlanChange) (c : PlanChange) (cut : plan ≡ done ++ (c ∷ due)) {layout : Layout Rid} {made : ℕ} {objects : Objects} (at : IsMoment old done layout made objects) (r : Resolves start view ids layout) where
      may : IsAllowed layout c
      may = allowed p done due at c cut

      -- what a change is about is still as it was
      untouched : (j : Rid) (w : Thing) → layout j w → name_of w ≡ subject c → IsIn w old
      untouched j w h e =
          elim (origin done (λ x. IsIn x old) w (at.sound j w h)) [
            | inl there ↦ there.0
            | inr o ↦ absurd ((before p.is_plan done (c ∷ due) cut o.0 c o.1 (inl refl)).1 (sym (outcome-named o.0 w o.2) ∙ e))
          ]

      pub still : (i : Rid) (u : Thing) → start i u → name_of u ≡ subject c → (j : Rid) → Has layout (subject c) j → layout i u
      still i u h e j has =
          let now = r.old (subject c) i (u, h, e) j has in
          let same : now.0 ≡ u = p.old_named.one now.0 u (untouched i now.0 now.1 now.2) (first.sound i u h) (now.2 ∙ sym e) in
          subst (layout i) same now.1

      pub still-body : (i : Rid) (u : Thing) (b : Body Rid) → layout i u → IsBody (Has start) u b → IsBody (Has layout) u b
      still-body i u b h of = let has = at.laid.stand i u h in body_stood start view ids layout r u b has.0 of has.1

      -- a thing that is to be made has no identifier at the start
      pub none-before : (t : Thing) → c ≡ Make t → (i : Rid) → Has start (name_of t) i → ⊥
      none-before t e i has =
          let there : IsIn (Make t) plan = due-in p.is_plan done (c ∷ due) cut (Make t) (inl (sym e)) in
          (p.is_plan.makes t there).1 has.0 (first.sound i has.0 has.1) has.2

    calls_of : (done due : List PlanChange) (c : PlanChange) → plan ≡ done ++ (c ∷ due) → {layout : Layout Rid} {made : ℕ} {objects : Objects} → IsMoment old done layout made objects → Resolves start view ids layout → (calls : List (Call PlanId)) → PlansChange start view c calls → MakesChange layout c (resolved calls)
    calls_of done due (Make t) cut {layout} at r calls is = (body_renamed f is.0, body_resolved start view ids layout r t is.0 (may done due (Make t) cut at r).1 is.1, ap resolved is.2)
    calls_of done due (Remove k) cut at r calls is =
        let ok = may done due (Remove k) cut at r in
        let there = still done due (Remove k) cut at r is.0 is.1 is.3 is.4 ok.0.0 ok.0.1 in
        (is.0, is.1, is.2, there, is.4, still-body done due (Remove k) cut at r is.0 is.1 is.2 there is.5, ap resolved is.6 ∙ ap (λ e. call.Remove e ∷ []) (entry_back ids (entry_of is.0.0 is.2)))
    calls_of done due (Set t) cut {layout} at r calls is =
        let ok = may done due (Set t) cut at r in
        let there = still done due (Set t) cut at r is.0 is.1 is.3 is.4 ok.0.0 ok.0.1 in
        (is.0, is.1, there, is.4, sets_resolved layout r is.0 is.1 t is.2 calls (still-body done due (Set t) cut at r is.0 is.1 is.2 there is.5) ok.1 is.6)

    module _ (capacities : List ℕ) (room : HasRoomForPlan capacities objects' plan) where
      -- the calls make the changes, and lead to a moment at which what stands has the identifiers that the plan's come to
      pub record IsCalled (done todo : List PlanChange) (made : ℕ) (objects : Objects) (layout : Layout Rid) (calls : List (Call Rid)) : Type 1 where
        pub run : MakesChanges made layout todo calls
        pub end : IsEnd capacities old (done ++ todo) made objects calls
        pub resolves : Resolves start view ids end.layout

      called_from : (todo due done : List PlanChange) → plan ≡ done ++ (todo ++ due) → {layout : Layout Rid} {made : ℕ} {objects : Objects} → IsMoment old done layout made objects → Resolves start view ids layout → (calls : List (Call PlanId)) → PlansChanges start view ids made todo calls → IsCalled done todo made objects layout (resolved calls)
      called_from [] due done cut {layout} {made} {objects} at r calls run =
          subst (λ l. IsCalled done [] made objects layout (resolved l)) (sym run) (record {
            run = refl;
            end = record { legal = tt; layout = layout; at = subst (λ d. IsMoment old d layout made objects) (sym (append-nil done)) at };
            resolves = r;
          })
      called_from (c ∷ cs) due done cut {layout} {made} {objects} at r calls run =
          let front = run.0 in
          let these = calls_of done (cs ++ due) c cut at r front run.3 in
          let step = plan-step p first capacities room done (cs ++ due) at c cut (resolved front) these in
          let r' = resolves-next at capacities c (resolved front) (layout_after made layout c) step start view ids (λ t e. (none-before done (cs ++ due) c cut at r t e, run.4 t e)) r in
          let rest = called_from cs due (done ++ (c ∷ [])) (cut ∙ one_then_rest done c (cs ++ due)) step.next r' run.1 run.5 in
          let whole : resolved calls ≡ resolved front ++ resolved run.1 = ap resolved run.2 ∙ map-append (call_renamed f) front run.1 in
          subst (IsCalled done (c ∷ cs) made objects layout) (sym whole) (record {
            run = (resolved front, resolved run.1, refl, these, rest.run);
            end = end-append capacities old _ _ made objects (resolved front) (resolved run.1) (sym (one_then_rest done c cs)) step.legal rest.end;
            resolves = rest.resolves;
          })

      pub plan-called : (todo due : List PlanChange) → plan ≡ todo ++ due → (calls : List (Call PlanId)) → PlansChanges start view ids made' todo calls → IsCalled [] todo made' objects' start (resolved calls)
      plan-called todo due cut calls run = called_from todo due [] cut first (resolves-first start view ids) calls run
