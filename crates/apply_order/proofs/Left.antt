-- steps that have nothing to do can be left out before a plan's steps are put in order
use Rattle.std.proofs.Common.{◌≡◌, ℕ, zero, suc, ◌+◌, Bool, true, false, not, cond, List, [], ◌∷◌, ◌++◌, Option, None, Some, slice_get, refl, ap, ◌∙◌, subst, true≢false, arith, IsPermutation, IsSorted}
use Rattle.std.specs.List.{filter, slice_index_or}
use Rattle.std.specs.Ordering.{is_lt}
use Rattle.std.proofs.lemmas.List.Elements.{filter-append}
use Rattle.std.proofs.lemmas.List.MinMax.{ranks_by}
use Rattle.std.proofs.lemmas.List.Sorted.{IsPermutation-append_comm, IsPermutation-append_left, IsPermutation-cons, IsPermutation-filter_both, IsPermutation-middle, IsPermutation-refl, IsPermutation-trans}
use Rattle.sai_types.specs.declared.ids.Rid.{Rid}
use Rattle.sai_types.specs.declared.ids.Vid.{Vid}
use Rattle.sai_types.specs.declared.body.Object.{Object}
use Rattle.sai_types.specs.declared.plan.Mode.{Mode}
use Rattle.sai_types.specs.declared.plan.PlanCall.{PlanCall}
use Rattle.chip_names.specs.Naming.{entries_of}
use Rattle.view_match.specs.Keys.{keys_of_objects}
use Rattle.view_match.specs.Pairs.{new_keys}
use Rattle.view_match.specs.declared.key.NaturalKey.{NaturalKey}
use Rattle.apply_order.specs.Attributes.{is_any}
use Rattle.apply_order.specs.Calls.{both_calls, is_needed, step_calls, steps_calls}
use Rattle.apply_order.specs.Due.{due_steps, needed, new_steps, old_step, old_steps, paired_in}
use Rattle.apply_order.specs.Naming.{OldIds}
use Rattle.apply_order.specs.Places.{Places, by_new, by_old, partner_at}
use Rattle.apply_order.specs.Ranks.{timed_cmp}
use Rattle.apply_order.specs.contracts.ranks.TimedOrd.TheImpl.Laws as ordered_timed
use Rattle.apply_order.specs.declared.ranks.PlanStep.{PlanStep}
use Rattle.apply_order.specs.declared.ranks.PlanStep.TheVariants as step
use Rattle.apply_order.specs.declared.ranks.Timed.{Timed}

abbrev before : Timed → Timed → Bool
before t u = is_lt (timed_cmp t u)

one_way : (t u : Timed) → before t u ≡ true → before u t ≡ false
one_way = (ranks_by ordered_timed.total-law (λ x. x)).one_way

-- a step put in before the first that is not less
abbrev inserted : Timed → List Timed → List Timed
inserted t [] = t ∷ []
inserted t (u ∷ us) = cond (before u t) (u ∷ inserted t us) (t ∷ u ∷ us)

-- the first of these steps is not before t
abbrev IsFirst : Timed → List Timed → Type 0
IsFirst t [] = Unit {0}
IsFirst t (u ∷ us) = before u t ≡ false

sorted-cons : (t : Timed) (ts : List Timed) → IsFirst t ts → IsSorted timed_cmp ts → IsSorted timed_cmp (t ∷ ts)
sorted-cons t [] first h k d low high = absurd (omega (arith, high))
sorted-cons t (u ∷ us) first h zero d low high = first
sorted-cons t (u ∷ us) first h (suc k) d low high =
    let next : suc (k + 1) ≡ suc k + 1 = omega arith in
    subst (λ n. before (slice_index_or (t ∷ u ∷ us) n d) (slice_index_or (u ∷ us) k d) ≡ false) next (h k d (omega arith) (omega (arith, high)))

sorted-head : (t : Timed) (ts : List Timed) → IsSorted timed_cmp (t ∷ ts) → IsFirst t ts
sorted-head t [] h = tt
sorted-head t (u ∷ us) h = h 0 t (omega arith) (omega arith)

sorted-tail : (t : Timed) (ts : List Timed) → IsSorted timed_cmp (t ∷ ts) → IsSorted timed_cmp ts
sorted-tail t ts h k d low high =
    let next : suc k + 1 ≡ suc (k + 1) = omega arith in
    subst (λ n. before (slice_index_or (t ∷ ts) n d) (slice_index_or ts k d) ≡ false) next (h (suc k) d (omega arith) (omega (arith, high)))

first-inserted : (u t : Timed) (us : List Timed) → before t u ≡ false → IsFirst u us → IsFirst u (inserted t us)
first-inserted u t [] least first = least
first-inserted u t (v ∷ us) least first = by (before v t)
  where
    by : (b : Bool) → IsFirst u (cond b (v ∷ inserted t us) (t ∷ v ∷ us))
    by true = first
    by false = least

sorted-inserted : (t : Timed) (us : List Timed) → IsSorted timed_cmp us → IsSorted timed_cmp (inserted t us)
sorted-inserted t [] h = sorted-cons t [] tt h
sorted-inserted t (u ∷ us) h = by (before u t) refl (sorted-inserted t us (sorted-tail u us h))
  where
    by : (b : Bool) → before u t ≡ b → IsSorted timed_cmp (inserted t us) → IsSorted timed_cmp (cond b (u ∷ inserted t us) (t ∷ u ∷ us))
    by true less rest = sorted-cons u (inserted t us) (first-inserted u t us (one_way u t less) (sorted-head u us h)) rest
    by false not_less rest = sorted-cons t (u ∷ us) not_less h

same-inserted : (t : Timed) (us : List Timed) → IsPermutation (t ∷ us) (inserted t us)
same-inserted t [] = IsPermutation-refl (t ∷ [])
same-inserted t (u ∷ us) = by (before u t) (same-inserted t us)
  where
    by : (b : Bool) → IsPermutation (t ∷ us) (inserted t us) → IsPermutation (t ∷ u ∷ us) (cond b (u ∷ inserted t us) (t ∷ u ∷ us))
    by true rest = IsPermutation-trans _ _ _ (IsPermutation-middle (t ∷ []) u us) (IsPermutation-cons u _ _ rest)
    by false rest = IsPermutation-refl (t ∷ u ∷ us)

module _ (names : OldIds) (old : List (Object Rid)) (new : List (Object Vid)) where
  abbrev calls : List Timed → List PlanCall
  calls = steps_calls names old new

  abbrev is_kept : Timed → Bool
  is_kept t = is_needed names old new t.step

  abbrev is_left : Timed → Bool
  is_left t = not (is_kept t)

  calls-inserted : (t : Timed) (us : List Timed) → step_calls names old new t.step ≡ [] → calls (inserted t us) ≡ calls us
  calls-inserted t [] none = ap (λ cs. cs ++ []) none
  calls-inserted t (u ∷ us) none = by (before u t) (calls-inserted t us none)
    where
      by : (b : Bool) → calls (inserted t us) ≡ calls us → calls (cond b (u ∷ inserted t us) (t ∷ u ∷ us)) ≡ calls (u ∷ us)
      by true rest = ap (λ cs. step_calls names old new u.step ++ cs) rest
      by false rest = ap (λ cs. cs ++ calls (u ∷ us)) none

  none_any : {X : Type 0} (xs : List X) → is_any xs ≡ false → xs ≡ []
  none_any [] h = refl
  none_any (x ∷ xs) h = absurd (true≢false h)

  no_calls : (s : PlanStep) → is_needed names old new s ≡ false → step_calls names old new s ≡ []
  no_calls (step.Set i j) h = none_any (both_calls names (slice_get old i) (slice_get new j)) h
  no_calls (step.Make j) h = absurd (true≢false h)
  no_calls (step.Remove i) h = absurd (true≢false h)

  -- some steps and further ones that have nothing to do, all in order, have the calls of the former
  pub record IsFilled (all steps : List Timed) : Type 0 where
    pub filled : List Timed
    pub same : IsPermutation all filled
    pub in_order : IsSorted timed_cmp filled
    pub calls : steps_calls names old new filled ≡ steps_calls names old new steps

  filled-more : (t : Timed) (all steps : List Timed) → step_calls names old new t.step ≡ [] → IsFilled all steps → IsFilled (t ∷ all) steps
  filled-more t all steps none f = record {
    filled = inserted t f.filled;
    same = IsPermutation-trans _ _ _ (IsPermutation-cons t _ _ f.same) (same-inserted t f.filled);
    in_order = sorted-inserted t f.filled f.in_order;
    calls = calls-inserted t f.filled none ∙ f.calls;
  }

  filled-left : (due steps : List Timed) → IsSorted timed_cmp steps → IsFilled (filter is_left due ++ steps) steps
  filled-left [] steps sorted = record { filled = steps; same = IsPermutation-refl steps; in_order = sorted; calls = refl }
  filled-left (t ∷ due) steps sorted = by (is_kept t) refl (filled-left due steps sorted)
    where
      by : (b : Bool) → is_kept t ≡ b → IsFilled (filter is_left due ++ steps) steps → IsFilled (cond (not b) (t ∷ filter is_left due) (filter is_left due) ++ steps) steps
      by true kept rest = rest
      by false kept rest = filled-more t _ steps (no_calls t.step kept) rest

  pub filled-needed : (due steps : List Timed) → IsPermutation (needed names old new due) steps → IsSorted timed_cmp steps → IsFilled due steps
  filled-needed due steps same sorted =
      let f = filled-left due steps sorted in
      let left = filter is_left due in
      let parted = IsPermutation-filter_both is_kept is_left (λ t. refl) due in
      let turned = IsPermutation-trans _ _ _ (IsPermutation-append_left left _ steps same) (IsPermutation-append_comm steps left) in
      record {
        filled = f.filled;
        same = IsPermutation-trans _ _ _ (IsPermutation-trans _ _ _ parted turned) f.same;
        in_order = f.in_order;
        calls = f.calls;
      }

  -- each old object that is removed is a step to do
  needed-old : (m : Mode) (paired : Places) (keys : List (Option NaturalKey)) (os : List (Object Rid)) (place : ℕ) → needed names old new (old_steps m paired keys os place) ≡ old_steps m paired keys os place
  needed-old m paired [] os place = refl
  needed-old m paired (key ∷ keys) [] place = refl
  needed-old m paired (key ∷ keys) (o ∷ os) place = with_step m key o place (partner_at paired place) _ (needed-old m paired keys os (place + 1))
    where
      with_step : (m : Mode) (key : Option NaturalKey) (o : Object Rid) (place : ℕ) (partner : Option ℕ) (later : List Timed) → needed names old new later ≡ later → needed names old new (old_step m key o place partner ++ later) ≡ old_step m key o place partner ++ later
      with_step m key o place None later rest = ap (λ ts. old_step m key o place None ++ ts) rest
      with_step m key o place (Some j) later rest = rest

  pub needed-due : (m : Mode) (pairs : List (ℕ × ℕ)) → needed names old new (due_steps m old new pairs) ≡ needed names old new (new_steps m (by_new (paired_in m pairs)) (new_keys new) new 0) ++ old_steps m (by_old (paired_in m pairs)) (keys_of_objects (entries_of old)) old 0
  needed-due m pairs =
      let made = new_steps m (by_new (paired_in m pairs)) (new_keys new) new 0 in
      let gone = old_steps m (by_old (paired_in m pairs)) (keys_of_objects (entries_of old)) old 0 in
      filter-append is_kept made gone ∙ ap (λ ts. needed names old new made ++ ts) (needed-old m (by_old (paired_in m pairs)) (keys_of_objects (entries_of old)) old 0)
