-- what the calls of a plan make comes to the chip's next identifiers
use Rattle.std.proofs.Common.{◌≡◌, inl, inr, ℕ, ◌+◌, Bool, true, false, cond, List, [], ◌∷◌, map, Option, None, Some, refl, sym, ap, ◌∙◌, subst}
use Rattle.std.specs.List.{slice_get}
use Rattle.sai_types.specs.declared.ids.Rid.{Rid}
use Rattle.sai_types.specs.declared.ids.Vid.{Vid}
use Rattle.sai_types.specs.declared.body.Call.TheVariants as call
use Rattle.sai_types.specs.declared.body.Entry.{Entry}
use Rattle.sai_types.specs.declared.body.Entry.TheVariants as entry
use Rattle.sai_types.specs.declared.body.Object.{Object}
use Rattle.sai_types.specs.declared.plan.Mode.{Mode}
use Rattle.sai_types.specs.declared.plan.Mode.TheVariants as mode
use Rattle.sai_types.specs.declared.plan.Plan.{Plan}
use Rattle.sai_types.specs.declared.plan.PlanCall.{PlanCall}
use Rattle.sai_types.specs.declared.thing.Thing.{Thing}
use Rattle.sai_types.specs.After.{has_id, makes_id}
use Rattle.sai_types.specs.Alike.{IsIn}
use Rattle.sai_types.proofs.Membership.{in-either, map-in}
use Rattle.chip_names.specs.Naming.{entries_of}
use Rattle.chip_layout.specs.Layout.{has_number}
use Rattle.chip_layout.specs.Renamed.{body_renamed, call_renamed}
use Rattle.chip_layout.proofs.Shapes.{renamed_with}
use Rattle.plan_laws.specs.Applied.{IsListedChip}
use Rattle.plan_laws.specs.Calls.{old_entry, resolve}
use Rattle.view_match.specs.Pairs.{pairs_of}
use Rattle.apply_order.specs.Attributes.{differing, set_call}
use Rattle.apply_order.specs.Calls.{both_calls, make_calls, made_id, remove_calls, step_calls, steps_calls}
use Rattle.apply_order.specs.Naming.{OldIds, names_in, new_id}
use Rattle.apply_order.specs.declared.ranks.Timed.{Timed}
use Rattle.asic_view.specs.View.{ViewObjects, rid_at, with_tie}
use Rattle.syncd_core.specs.Begun.{objects_listed, tied_in}
use Rattle.syncd_core.specs.Run.{AreInTime, made_by, tied_after, tied_calls, view_by}
use Rattle.syncd_core.specs.Synced.{tied_by}
use Rattle.syncd_core.specs.Tied.{rid_or_none, tie_of}
use Rattle.syncd_core.proofs.Ties.{tie_kept_through, ties-hold}
use Rattle.apply_laws.specs.Apply.{ComeToNextIds, IsApply, IsPlannedFrom, calls_by}
use Rattle.apply_laws.specs.Viewed.{IsViewOf}
use Rattle.apply_laws.proofs.Order.Changes.{IsDueStep, due-of, due-pair, place_old}
use Rattle.apply_laws.proofs.Order.Partners.{place-in}
use Rattle.apply_laws.proofs.Order.Placed.{pair-at}
use Rattle.apply_laws.proofs.Order.Roomy.{map_map}
use Rattle.apply_laws.proofs.Order.Shuffled.{in-shuffled}
use Rattle.apply_laws.proofs.Sync.InTime.{plan-in_time}
use Rattle.apply_laws.proofs.Sync.Started.{pairs-there, there-first}
use Rattle.apply_laws.proofs.Sync.Ties.{IsThere, there-kept, tied-same}
use Rattle.apply_laws.proofs.Sync.Timed.{has_number_with, made-id}

-- ---- ties and numbers

-- a call makes an object of the view, which is there
abbrev MakesThere : ViewObjects → PlanCall → Type 0
MakesThere V c = (v : Vid) → c.makes ≡ Some v → (makes_id c.call ≡ true) × IsThere V v

there_after : (V : ViewObjects) (made : ℕ) (c : PlanCall) (v : Vid) → IsThere V v → IsThere (view_by made V c) v
there_after V made c v there = by (makes_id c.call) c.makes
  where
    by : (b : Bool) (o : Option Vid) → IsThere (cond b (tied_by V o (record { 0 = made + 1 })) V) v
    by true None = there
    by true (Some w) = there-kept V v w (record { 0 = made + 1 }) there
    by false o = there

numbered-by : (calls : List PlanCall) (V : ViewObjects) (made : ℕ) → AreInTime made V calls → ((c : PlanCall) → IsIn c calls → MakesThere V c) → ComeToNextIds (tie_of (tied_after made V calls)) made calls
numbered-by [] V made times known = tt
numbered-by (c ∷ cs) V made times known = (
  λ v is.
      let k = known c (inl refl) v is in
      let next : Rid = record { 0 = made + 1 } in
      let here : view_by made V c ≡ with_tie V v next = ap (λ b. cond b (tied_by V c.makes next) V) k.0 ∙ ap (λ o. tied_by V o next) is in
      let tied : rid_at (view_by made V c) v ≡ Some next = ap (λ V'. rid_at V' v) here ∙ tied-same V v next k.1 in
      ap rid_or_none (tie_kept_through (made_by made c) (view_by made V c) cs v next times.2 tied),
  numbered-by cs (view_by made V c) (made_by made c) times.2 (λ d i v is. let k = known d (inr i) v is in (k.0, there_after V made c v k.1)),
)

-- ---- what the calls of steps make

one_vid_entry : (v w : Vid) → entry.Oid v ≡ entry.Oid w → v ≡ w
one_vid_entry v w e = cc

-- a numbered thing with this identifier, and a call that makes one
abbrev IsMaker : List (Vid × Thing) → PlanCall → Vid → Type 0
IsMaker things c v = (u : Thing) × IsIn (v, u) things × (has_number u ≡ true) × (makes_id c.call ≡ true)

module _ {made : ℕ} (old : List (Object Rid)) {new : List (Object Vid)} {things : List (Vid × Thing)} (chip : IsListedChip made (entries_of old)) (view : IsViewOf things new) (m : Mode) (names : OldIds) where
  made_by_step : (t : Timed) → IsDueStep old chip view m t → (c : PlanCall) → IsIn c (step_calls names old new t.step) → (v : Vid) → c.makes ≡ Some v → IsMaker things c v
  made_by_step t (inl d) c i v is =
      let made_call : PlanCall = record { call = call.Create (body_renamed (new_id names) d.n.body); makes = made_id d.n.entry } in
      let call_is : step_calls names old new t.step ≡ made_call ∷ [] = ap (step_calls names old new) d.step ∙ ap (make_calls names) d.at in
      let same : c ≡ made_call = only c made_call (subst (IsIn c) call_is i) in
      let f = made-id d.n.entry v (ap (λ (z : PlanCall). z.makes) (sym same) ∙ is) in
      let number = numbered d.x.1 d.n.entry (has_number d.x.1) refl d.entry.none v f in
      let mine : d.x.0 ≡ v = one_vid_entry d.x.0 v (sym (d.entry.some number) ∙ f) in
      let makes : makes_id made_call.call ≡ true = ap (λ b. has_id (body_renamed (new_id names) b)) d.of.body_is ∙ ap has_id (renamed_with (new_id names) d.x.1 d.of.first d.of.second) ∙ has_number_with d.x.1 (new_id names d.of.first) (new_id names d.of.second) ∙ number in
      (d.x.1, subst (λ z. IsIn (z, d.x.1) things) mine (place-in things d.j d.x d.there), number, ap (λ (z : PlanCall). makes_id z.call) same ∙ makes)
    where
      only : (a b : PlanCall) → IsIn a (b ∷ []) → a ≡ b
      only a b (inl e) = e
      only a b (inr n) = elim n [ ]

      numbered : (t : Thing) (f : Entry Vid) (b : Bool) → has_number t ≡ b → (has_number t ≡ false → (w : Vid) → f ≡ entry.Oid w → ⊥) → (v : Vid) → f ≡ entry.Oid v → has_number t ≡ true
      numbered t f true e none v g = e
      numbered t f false e none v g = absurd (none e v g)
  made_by_step t (inr (inl d)) c i v is =
      let p = pair-at old chip view d.i d.j (due-pair old chip view m (d.i, d.j) d.pair) in
      let o = place_old old chip view m d.i p.entry p.body p.was.at in
      let call_is : step_calls names old new t.step ≡ map (set_call o.0.entry) (differing names o.0.body d.n.body) = ap (step_calls names old new) d.step ∙ ap (λ z. both_calls names z (slice_get new d.j)) o.1 ∙ ap (both_calls names (Some o.0)) d.at in
      let a = map-in (set_call o.0.entry) (differing names o.0.body d.n.body) c (subst (IsIn c) call_is i) in
      let none : c.makes ≡ None = ap (λ (z : PlanCall). z.makes) a.2 in
      absurd cc
  made_by_step t (inr (inr d)) c i v is =
      let call_is : step_calls names old new t.step ≡ record { call = call.Remove (old_entry d.o.entry); makes = None } ∷ [] = ap (step_calls names old new) d.step ∙ ap remove_calls d.at in
      elim (subst (IsIn c) call_is i) [
        | inl same ↦ let none : c.makes ≡ None = ap (λ (z : PlanCall). z.makes) same in absurd cc
        | inr other ↦ elim other [ ]
      ]

  pub made-by : (ts : List Timed) → ((t : Timed) → IsIn t ts → IsDueStep old chip view m t) → (c : PlanCall) → IsIn c (steps_calls names old new ts) → (v : Vid) → c.makes ≡ Some v → IsMaker things c v
  made-by [] due c i v is = elim i [ ]
  made-by (t ∷ ts) due c i v is =
      elim (in-either c (step_calls names old new t.step) (steps_calls names old new ts) i) [
        | inl here ↦ made_by_step t (due t (inl refl)) c here v is
        | inr rest ↦ made-by ts (λ s j. due s (inr j)) c rest v is
      ]

-- ---- an apply by its ties

module _ {capacities : List ℕ} {made : ℕ} {old : List (Object Rid)} (objects : ViewObjects) {things : List (Vid × Thing)} {plan : Plan} (x : IsPlannedFrom capacities made old (objects_listed objects) things plan) (free : (v : Vid) → rid_at objects v ≡ None) where
  abbrev pub last_ties : ViewObjects
  last_ties = tied_after made (tied_in plan.mode objects old (objects_listed objects) (pairs_of old (objects_listed objects))) plan.calls

  there_by : (m : Mode) (v : Vid) (u : Thing) → IsIn (v, u) things → has_number u ≡ true → IsThere (tied_in m objects old (objects_listed objects) (pairs_of old (objects_listed objects))) v
  there_by mode.Hitless v u i number = pairs-there old objects x.chip x.view v (pairs_of old (objects_listed objects)) objects (there-first old objects x.chip x.view v u i number)
  there_by mode.Cold v u i number = there-first old objects x.chip x.view v u i number

  known : (c : PlanCall) → IsIn c plan.calls → MakesThere (tied_in plan.mode objects old (objects_listed objects) (pairs_of old (objects_listed objects))) c
  known c i v is =
      let names = names_in plan.mode old (objects_listed objects) (pairs_of old (objects_listed objects)) in
      let k = made-by old x.chip x.view plan.mode names x.planned.steps (λ t j. due-of old x.chip x.view plan.mode t (in-shuffled _ x.planned.steps x.planned.due t j)) c (subst (IsIn c) x.planned.calls i) v is in
      (k.3, there_by plan.mode v k.0 k.1 k.2)

  pub apply-by_ties : IsApply capacities made old (objects_listed objects) things plan (tie_of last_ties)
  apply-by_ties = record { of = x; numbered = numbered-by plan.calls (tied_in plan.mode objects old (objects_listed objects) (pairs_of old (objects_listed objects))) made (plan-in_time objects x free) known }

  -- the calls that come to the chip are those of the plan, with the identifiers that they come to
  pub tied-are : tied_calls made (tied_in plan.mode objects old (objects_listed objects) (pairs_of old (objects_listed objects))) plan.calls ≡ calls_by (tie_of last_ties) plan
  tied-are =
      ties-hold made (tied_in plan.mode objects old (objects_listed objects) (pairs_of old (objects_listed objects))) plan.calls (plan-in_time objects x free)
      ∙ sym (map_map (call_renamed (resolve (tie_of last_ties))) (λ (c : PlanCall). c.call) plan.calls)
