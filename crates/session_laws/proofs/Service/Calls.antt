-- one call of a plan more
use Rattle.std.proofs.Common.{◌≡◌, ◌+◌, ◌++◌, ◌∷◌, ◌∙◌, ℕ, cond, List, [], refl, sym, ap}
use Rattle.std.proofs.lemmas.List.{append_assoc}
use Rattle.sai_types.specs.declared.body.Call.{Call}
use Rattle.sai_types.specs.declared.ids.Rid.{Rid}
use Rattle.sai_types.specs.declared.ids.Vid.{Vid}
use Rattle.sai_types.specs.declared.plan.PlanCall.{PlanCall}
use Rattle.sai_types.specs.declared.thing.Thing.{Thing}
use Rattle.sai_types.specs.After.{after_call, after_calls}
use Rattle.sai_types.specs.Made.{made_after, made_after_all}
use Rattle.sai_types.specs.Objects.{Objects}
use Rattle.chip_names.specs.Naming.{entries_of}
use Rattle.chip_layout.specs.Renamed.{call_renamed}
use Rattle.plan_laws.proofs.Running.{after-append}
use Rattle.machine_laws.proofs.Staying.{made-one}
use Rattle.asic_view.specs.View.{ViewObjects}
use Rattle.syncd_core.specs.Run.{made_by, tied_after, tied_calls, view_by}
use Rattle.syncd_core.specs.Synced.{SyncState, applied}
use Rattle.syncd_core.specs.Tied.{plan_tie}
use Rattle.apply_laws.proofs.Order.Called.{makes_renamed}
use Rattle.apply_laws.specs.Begun.{first_ties}
use Rattle.session_laws.specs.Service.Standing.{IsUnderway}

-- a call of a plan as it comes to the chip by these ties
abbrev pub call_by : ViewObjects → PlanCall → Call Rid
call_by view c = call_renamed (plan_tie view) c.call

pub made-same : (made : ℕ) (view : ViewObjects) (c : PlanCall) → made_after made (call_by view c) ≡ made_by made c
made-same made view c = ap (λ b. cond b (made + 1) made) (makes_renamed (plan_tie view) c.call)

after-one : (made : ℕ) (view : ViewObjects) (xs : List PlanCall) (c : PlanCall) → tied_after made view (xs ++ c ∷ []) ≡ view_by (made_after_all made (tied_calls made view xs)) (tied_after made view xs) c
after-one made view [] c = refl
after-one made view (x ∷ xs) c =
    after-one (made_by made x) (view_by made view x) xs c
    ∙ ap (λ n. view_by (made_after_all n (tied_calls (made_by made x) (view_by made view x) xs)) (tied_after (made_by made x) (view_by made view x) xs) c) (sym (made-same made view x))

calls-one : (made : ℕ) (view : ViewObjects) (xs : List PlanCall) (c : PlanCall) → tied_calls made view (xs ++ c ∷ []) ≡ tied_calls made view xs ++ call_by (tied_after made view xs) c ∷ []
calls-one made view [] c = refl
calls-one made view (x ∷ xs) c = ap (λ l. call_by view x ∷ l) (calls-one (made_by made x) (view_by made view x) xs c)

module _ (y : SyncState) (made : ℕ) (objects : Objects) (left : List (Call Rid)) (things : List (Vid × Thing)) (u : IsUnderway y made objects left things) (c : PlanCall) (cs : List PlanCall) (has : y.left ≡ c ∷ cs) where
  abbrev d : Call Rid
  d = call_by y.view c

  abbrev view' : ViewObjects
  view' = view_by made y.view c

  abbrev first_view : ViewObjects
  first_view = first_ties u.old u.view u.plan

  abbrev before : List (Call Rid)
  before = tied_calls u.first first_view u.front

  abbrev there : ViewObjects
  there = tied_after u.first first_view u.front

  pub left-next : left ≡ d ∷ tied_calls (made_after made d) view' cs
  left-next =
      u.left_are ∙ ap (tied_calls made y.view) has ∙ ap (λ n. d ∷ tied_calls n view' cs) (sym (made-same made y.view c))

  d_is : d ≡ call_by there c
  d_is = ap (λ v. call_by v c) u.ties

  calls_then : tied_calls u.first first_view (u.front ++ c ∷ []) ≡ before ++ d ∷ []
  calls_then = calls-one u.first first_view u.front c ∙ ap (λ z. before ++ z ∷ []) (sym d_is)

  made_then : made_after made d ≡ made_after_all u.first (tied_calls u.first first_view (u.front ++ c ∷ []))
  made_then = ap (λ n. made_after n d) u.made_is ∙ sym (made-one u.first before d) ∙ ap (made_after_all u.first) (sym calls_then)

  objects_then : after_call (made + 1) objects d ≡ after_calls u.first (entries_of u.old) (tied_calls u.first first_view (u.front ++ c ∷ []))
  objects_then =
      ap (λ n. after_call (n + 1) objects d) u.made_is
      ∙ ap (λ o. after_call (made_after_all u.first before + 1) o d) u.objects_are
      ∙ sym (after-append u.first (entries_of u.old) before (d ∷ []))
      ∙ ap (after_calls u.first (entries_of u.old)) (sym calls_then)

  pub underway-next : IsUnderway (applied y view' cs) (made_after made d) (after_call (made + 1) objects d) (tied_calls (made_after made d) view' cs) things
  underway-next = record {
    first = u.first;
    old = u.old;
    view = u.view;
    plan = u.plan;
    begun = u.begun;
    rising = u.rising;
    front = u.front ++ c ∷ [];
    cut = u.cut ∙ ap (λ l. u.front ++ l) has ∙ sym (append_assoc u.front (c ∷ []) cs);
    made_is = made_then;
    ties = ap (λ n. view_by n y.view c) u.made_is ∙ ap (λ v. view_by (made_after_all u.first before) v c) u.ties ∙ sym (after-one u.first first_view u.front c);
    objects_are = objects_then;
    left_are = refl;
  }
