-- objects on which one more effect is made
use Rattle.std.proofs.Common.{◌≡◌, ◌⊎◌, inl, inr, ℕ, zero, suc, ◌+◌, ◌-◌, ◌≤◌, ◌<◌, Bool, true, false, cond, List, [], ◌∷◌, ◌++◌, length, take, count_by, Option, None, Some, slice_get, Result, Ok, Err, IfOk, OnErr, if◌then◌else◌, refl, sym, ap, ◌∙◌, subst, arith, rules}
use Rattle.std.specs.Option.{option_and_then}
use Rattle.std.proofs.lemmas.List.{take-append-le, length-append}
use Rattle.std.proofs.lemmas.List.Sums.{sum_by-cons}
use Rattle.std.proofs.lemmas.Option.{slice_get_within, slice_get_past}
use Rattle.sai_types.specs.declared.ids.Rid.{Rid}
use Rattle.sai_types.specs.declared.body.Call.{Call}
use Rattle.sai_types.specs.declared.thing.Thing.{Thing}
use Rattle.sai_types.specs.After.{after_call, after_calls, chip_after, makes_id, next_id}
use Rattle.sai_types.specs.Made.{made_after, made_after_all}
use Rattle.sai_types.specs.Objects.{Objects}
use Rattle.sai_chip.specs.SimChip.{effect_at}
use Rattle.sai_chip.specs.Replay.{Remade, IsRemadeOf, call_thing, effect_thing, new_remade, with_call}

count_more : (b : Bool) (made n : ℕ) → (if b then made + 1 else made) + n ≡ made + (cond b 1 0 + n)
count_more true made n = omega arith
count_more false made n = omega arith

made_all : (made : ℕ) (cs : List (Call Rid)) → made_after_all made cs ≡ made + count_by makes_id cs
made_all made [] = omega arith
made_all made (c ∷ cs) =
    made_all (made_after made c) cs
    ∙ count_more (makes_id c) made (count_by makes_id cs)
    ∙ ap (λ n. made + n) (sym (sum_by-cons (λ x. cond (makes_id x) 1 0) c cs))

made-counted : (cs : List (Call Rid)) → made_after_all 0 cs ≡ count_by makes_id cs
made-counted cs = made_all 0 cs ∙ omega arith

objects_next : (made : ℕ) (objects : Objects) (cs : List (Call Rid)) (k : ℕ) (c : Call Rid) → slice_get cs k ≡ Some c → after_calls made objects (take (suc k) cs) ≡ after_call (made_after_all made (take k cs) + 1) (after_calls made objects (take k cs)) c
objects_next made objects [] k c h = absurd cc
objects_next made objects (d ∷ cs) zero c h = let same : d ≡ c = cc in ap (after_call (made + 1) objects) same
objects_next made objects (d ∷ cs) (suc k) c h = objects_next (made_after made d) (after_call (made + 1) objects d) cs k c h

made_next : (made : ℕ) (cs : List (Call Rid)) (k : ℕ) (c : Call Rid) → slice_get cs k ≡ Some c → made_after_all made (take (suc k) cs) ≡ made_after (made_after_all made (take k cs)) c
made_next made [] k c h = absurd cc
made_next made (d ∷ cs) zero c h = let same : d ≡ c = cc in ap (made_after made) same
made_next made (d ∷ cs) (suc k) c h = made_next (made_after made d) cs k c h

effect_at-next : (effects : List (Call Rid)) (k : ℕ) → effect_at effects (k + 1) ≡ slice_get effects k
effect_at-next effects k = search rules

-- none made, of whatever effects
pub IsRemadeOf-new : (effects : List (Call Rid)) → IsRemadeOf new_remade effects
IsRemadeOf-new effects = record { at = omega arith; made = refl; objects = refl }

-- what was made of some effects was made of these with more behind them
pub IsRemadeOf-append : (r : Remade) (effects more : List (Call Rid)) → IsRemadeOf r effects → IsRemadeOf r (effects ++ more)
IsRemadeOf-append r effects more is = record {
  at = omega (arith, is.at, length-append effects more);
  made = is.made ∙ ap (count_by makes_id) (sym (take-append-le r.at effects more is.at));
  objects = is.objects ∙ ap (after_calls 0 []) (sym (take-append-le r.at effects more is.at));
}

module _ (r : Remade) (effects : List (Call Rid)) (c : Call Rid) (is : IsRemadeOf r effects) (next : slice_get effects r.at ≡ Some c) where
  further : suc r.at ≡ r.at + 1
  further = omega arith

  back : r.at + 1 - 1 ≡ r.at
  back = omega arith

  counted : r.made ≡ made_after_all 0 (take r.at effects)
  counted = is.made ∙ sym (made-counted (take r.at effects))

  objects-next : after_call (r.made + 1) r.objects c ≡ chip_after effects (r.at + 1)
  objects-next =
      ap (λ n. after_call (n + 1) r.objects c) counted
      ∙ ap (λ o. after_call (made_after_all 0 (take r.at effects) + 1) o c) is.objects
      ∙ sym (objects_next 0 [] effects r.at c next)
      ∙ ap (chip_after effects) further

  -- the replay stands behind that effect
  pub IsRemadeOf-with_call : IsRemadeOf (with_call r c) effects
  IsRemadeOf-with_call = record {
    at = let within = slice_get_within effects r.at c next in omega (arith, within);
    made =
        ap (λ n. made_after n c) counted
        ∙ sym (made_next 0 effects r.at c next)
        ∙ ap (λ k. made_after_all 0 (take k effects)) further
        ∙ made-counted (take (r.at + 1) effects);
    objects = objects-next;
  }

  -- and what the call was about is what that effect was about
  pub effect_thing-next : call_thing (r.made + 1) r.objects (after_call (r.made + 1) r.objects c) c ≡ effect_thing effects (r.at + 1)
  effect_thing-next =
      ap (λ n. call_thing (n + 1) r.objects (after_call (r.made + 1) r.objects c) c) (is.made ∙ ap (λ k. count_by makes_id (take k effects)) (sym back))
      ∙ ap (λ o. call_thing (next_id (take (r.at + 1 - 1) effects)) o (after_call (r.made + 1) r.objects c) c) (is.objects ∙ ap (chip_after effects) (sym back))
      ∙ ap (λ o. call_thing (next_id (take (r.at + 1 - 1) effects)) (chip_after effects (r.at + 1 - 1)) o c) objects-next
      ∙ ap (option_and_then (call_thing (next_id (take (r.at + 1 - 1) effects)) (chip_after effects (r.at + 1 - 1)) (chip_after effects (r.at + 1)))) (sym (effect_at-next effects r.at ∙ next))

-- behind all effects there is none to follow
pub none-past : {P : Type 0} (effects : List (Call Rid)) (k : ℕ) (c : Call Rid) → slice_get effects k ≡ Some c → length effects ≤ k → P
none-past effects k c next past = let none = slice_get_past effects k past in absurd cc

-- before the end there is one
pub next-within : {P : Type 0} (effects : List (Call Rid)) (k : ℕ) → slice_get effects k ≡ None → k < length effects → P
next-within [] k none within = absurd (omega (arith, within))
next-within (c ∷ cs) zero none within = absurd cc
next-within (c ∷ cs) (suc k) none within = next-within cs k none (omega (arith, within))

module _ (old new : Remade) (effects : List (Call Rid)) (c : Call Rid) (next : slice_get effects old.at ≡ Some c) where
  moved : new ≡ with_call old c → IsRemadeOf old effects → (new.at ≡ old.at + 1) × IsRemadeOf new effects
  moved e is = (ap (λ r. r.at) e, subst (λ r. IsRemadeOf r effects) (sym e) (IsRemadeOf-with_call old effects c is next))

  -- what was told of a call is what that effect was about, and the replay stands behind it
  pub told-further : {E : Type 0} (r : Result (Option Thing) E) → IfOk r (λ thing. (thing ≡ call_thing (old.made + 1) old.objects new.objects c) × (new ≡ with_call old c)) → IfOk r (λ thing. IsRemadeOf old effects → old.at < length effects → (thing ≡ effect_thing effects (old.at + 1)) × (new.at ≡ old.at + 1) × IsRemadeOf new effects)
  told-further (Ok thing) h = λ is within.
      let there = moved h.1 is in
      (h.0 ∙ ap (λ r. call_thing (old.made + 1) old.objects r.objects c) h.1 ∙ effect_thing-next old effects c is next, there.0, there.1)
  told-further (Err e) h = tt

  pub told-end : {E : Type 0} (r : Result (Option Thing) E) → IfOk r (λ thing. length effects ≤ old.at → (thing ≡ None) × (new ≡ old))
  told-end (Ok thing) = λ past. none-past effects old.at c next past
  told-end (Err e) = tt

  left_by : (new ≡ old) ⊎ (new ≡ with_call old c) → IsRemadeOf old effects → (old.at ≤ new.at) × (new.at ≤ old.at + 1) × IsRemadeOf new effects
  left_by (inl e) is = (omega (arith, ap (λ r. r.at) e), omega (arith, ap (λ r. r.at) e), subst (λ r. IsRemadeOf r effects) (sym e) is)
  left_by (inr e) is = let there = moved e is in (omega (arith, there.0), omega (arith, there.0), there.1)

  -- after want of memory the replay is as before or one further
  pub told-err : {E : Type 0} (r : Result (Option Thing) E) → OnErr r ((new ≡ old) ⊎ (new ≡ with_call old c)) → OnErr r (IsRemadeOf old effects → (old.at ≤ new.at) × (new.at ≤ old.at + 1) × IsRemadeOf new effects)
  told-err (Ok thing) h = tt
  told-err (Err e) h = λ is. left_by h is
