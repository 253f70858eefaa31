-- the calls of a plan are in time
use Rattle.std.proofs.Common.{◌≡◌, inl, inr, ℕ, ◌++◌, List, [], ◌∷◌, None, refl, sym, ap, ◌∙◌, subst}
use Rattle.std.proofs.lemmas.List.{append_assoc}
use Rattle.sai_types.specs.declared.ids.Rid.{Rid}
use Rattle.sai_types.specs.declared.ids.Vid.{Vid}
use Rattle.sai_types.specs.declared.body.Call.TheVariants as call
use Rattle.sai_types.specs.declared.body.Object.{Object}
use Rattle.sai_types.specs.declared.plan.Mode.{Mode}
use Rattle.sai_types.specs.declared.plan.Mode.TheVariants as mode
use Rattle.sai_types.specs.declared.plan.Plan.{Plan}
use Rattle.sai_types.specs.declared.plan.PlanCall.{PlanCall}
use Rattle.sai_types.specs.declared.thing.Thing.{Thing}
use Rattle.sai_types.specs.Alike.{IsIn}
use Rattle.sai_types.specs.Objects.{Objects}
use Rattle.chip_names.specs.Naming.{entries_of}
use Rattle.plan_laws.specs.Applied.{IsListedChip, nothing}
use Rattle.plan_laws.specs.Calls.{old_entry}
use Rattle.plan_laws.specs.Old.{old_layout, old_things}
use Rattle.plan_laws.proofs.Applied.{plan-safe}
use Rattle.plan_laws.proofs.Cold.{makes-safe}
use Rattle.plan_laws.proofs.Starting.{old-seen}
use Rattle.view_match.specs.Pairs.{pairs_of}
use Rattle.apply_order.specs.Calls.{remove_calls, step_calls, steps_calls}
use Rattle.apply_order.specs.Naming.{names_from}
use Rattle.apply_order.specs.declared.ranks.Timed.{Timed}
use Rattle.asic_view.specs.View.{ViewObjects, rid_at}
use Rattle.syncd_core.specs.Begun.{objects_listed, tied_in, tied_pairs}
use Rattle.syncd_core.specs.Run.{AreInTime}
use Rattle.apply_laws.specs.Apply.{IsPlannedFrom}
use Rattle.apply_laws.specs.Viewed.{IsViewOf, things_in}
use Rattle.apply_laws.proofs.Order.Applying.{calls-in, calls_are, cold_back, due-in, is-cold, is-hitless}
use Rattle.apply_laws.proofs.Order.Changes.{IsGoneDue, due-of}
use Rattle.apply_laws.proofs.Order.Cold.{cold-cut}
use Rattle.apply_laws.proofs.Order.Ids.{cold-named, hitless-named}
use Rattle.apply_laws.proofs.Order.Shuffled.{in-shuffled}
use Rattle.apply_laws.proofs.Sync.Names.{remove-tied}
use Rattle.apply_laws.proofs.Sync.Started.{none-named, pairs-free, pairs-there, there-first}
use Rattle.apply_laws.proofs.Sync.Timed.{in-time}

-- steps that remove name nothing new
gone_time : {made' : ℕ} (old : List (Object Rid)) {new : List (Object Vid)} {things : List (Vid × Thing)} (chip : IsListedChip made' (entries_of old)) (view : IsViewOf things new) (V : ViewObjects) (made : ℕ) (ts : List Timed) (rest : List PlanCall) → ((t : Timed) → IsIn t ts → IsGoneDue old chip view mode.Cold t) → AreInTime made V rest → AreInTime made V (steps_calls [] old new ts ++ rest)
gone_time old chip view V made [] rest gone h = h
gone_time old {new = new} chip view V made (t ∷ ts) rest gone h =
    let d = gone t (inl refl) in
    let c : PlanCall = record { call = call.Remove (old_entry d.o.entry); makes = None } in
    let call_is : step_calls [] old new t.step ≡ c ∷ [] = ap (step_calls [] old new) d.step ∙ ap remove_calls d.at in
    subst (AreInTime made V) (sym (append_assoc (step_calls [] old new t.step) (steps_calls [] old new ts) rest))
    (subst (λ cs. AreInTime made V (cs ++ (steps_calls [] old new ts ++ rest))) (sym call_is) (remove-tied V d.o.entry, tt, gone_time old chip view V made ts rest (λ s i. gone s (inr i)) h))

module _ {capacities : List ℕ} {made : ℕ} {old : List (Object Rid)} (objects : ViewObjects) {things : List (Vid × Thing)} {plan : Plan} (x : IsPlannedFrom capacities made old (objects_listed objects) things plan) (free : (v : Vid) → rid_at objects v ≡ None) where
  abbrev O : Objects
  O = entries_of old

  abbrev N : List Thing
  N = things_in things

  abbrev new : List (Object Vid)
  new = objects_listed objects

  hitless_time : plan.mode ≡ mode.Hitless → AreInTime made (tied_pairs objects old new (pairs_of old new)) plan.calls
  hitless_time e =
      let steps = x.planned.steps in
      let names = names_from [] old new (pairs_of old new) in
      let V = tied_pairs objects old new (pairs_of old new) in
      subst (AreInTime made V) (sym (calls-in x mode.Hitless e))
      (in-time (old_things O N) old x.chip x.view mode.Hitless names (old_layout O N) (hitless-named old x.chip x.view x.lanes) (old-seen x.chip N) steps (plan-safe (is-hitless x e)) steps [] V made refl (λ t i. due-of old x.chip x.view mode.Hitless t (in-shuffled _ steps (due-in x mode.Hitless e) t i)) (record {
        there = λ v u i number. pairs-there old objects x.chip x.view v (pairs_of old new) objects (there-first old objects x.chip x.view v u i number);
        tied = λ v u i number h. elim h [ ];
        free = λ v u i number none apart. pairs-free old objects x.chip x.view v (pairs_of old new) objects (none-named old objects x.chip x.view v u i number apart) (free v);
      }))

  cold_time : plan.mode ≡ mode.Cold → AreInTime made objects plan.calls
  cold_time e =
      let cut = cold-cut old x.chip x.view x.planned.steps (due-in x mode.Cold e) x.planned.in_order in
      subst (AreInTime made objects) (sym (calls_are x e))
      (gone_time old x.chip x.view objects made cut.front (cold_back x e) cut.first
      (in-time [] old x.chip x.view mode.Cold [] nothing (cold-named things) (λ u i. elim i [ ]) cut.back (makes-safe (is-cold x e)) cut.back [] objects made refl (λ t i. inl (cut.last t i)) (record {
        there = λ v u i number. there-first old objects x.chip x.view v u i number;
        tied = λ v u i number h. elim h [ ];
        free = λ v u i number none apart. free v;
      })))

  abbrev pub first_ties : ViewObjects
  first_ties = tied_in plan.mode objects old new (pairs_of old new)

  pub plan-in_time : AreInTime made first_ties plan.calls
  plan-in_time = by plan.mode refl
    where
      by : (m : Mode) → plan.mode ≡ m → AreInTime made (tied_in plan.mode objects old new (pairs_of old new)) plan.calls
      by mode.Hitless e = subst (λ m. AreInTime made (tied_in m objects old new (pairs_of old new)) plan.calls) (sym e) (hitless_time e)
      by mode.Cold e = subst (λ m. AreInTime made (tied_in m objects old new (pairs_of old new)) plan.calls) (sym e) (cold_time e)
