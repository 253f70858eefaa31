-- one call of a recording, by what the chip answers
use Rattle.std.proofs.Common.{◌≡◌, ◌⊎◌, inl, inr, ℕ, ◌+◌, Bool, true, false, cond, List, [], ◌∷◌, ◌++◌, count_by, Option, None, Some, option_map, Err, refl, sym, ap, ap₂, ◌∙◌, subst, add-zero, if◌then◌else◌}
use Rattle.std.specs.Option.{is_some}
use Rattle.std.proofs.lemmas.Bool.{false≢true}
use Rattle.std.proofs.lemmas.List.Sums.{fold-append}
use Rattle.std.proofs.lemmas.Option.{none-some}
use Rattle.chip_layout.specs.Renamed.{call_renamed}
use Rattle.chip_layout.proofs.Renaming.{has_renamed}
use Rattle.sai_types.specs.After.{makes_id, next_id}
use Rattle.sai_types.specs.ChipState.{Answers, ChipState, IsRefused, StaysSame, TakesEffect}
use Rattle.sai_types.specs.Objects.{Objects}
use Rattle.sai_types.specs.Refusal.{refusal_of}
use Rattle.sai_types.specs.declared.answer.ChipAnswer.{ChipAnswer}
use Rattle.sai_types.specs.declared.answer.ChipAnswer.TheVariants as answer
use Rattle.sai_types.specs.declared.ids.Rid.{Rid}
use Rattle.sai_types.specs.declared.body.Call.{Call}
use Rattle.sai_types.specs.declared.body.Call.TheVariants as call
use Rattle.sai_record.specs.Build.{Built, Numbers, after_recorded, call_ids, call_meant, first_unknown, first_why, made_twice, number_at, numbers_after, stop_of, with_number}
use Rattle.sai_record.specs.Replayed.{HasPerhaps, IsCallMade, built_on}
use Rattle.sai_record.specs.declared.recording.Recorded.{Recorded}
use Rattle.sai_record.specs.declared.replaying.StopWhy.{StopWhy}
use Rattle.sai_record.specs.declared.replaying.StopWhy.TheVariants as why

pub none-why : (o : Option StopWhy) → ((w : StopWhy) → o ≡ Some w → ⊥) → o ≡ None
none-why None h = refl
none-why (Some w) h = absurd (h w refl)

-- ---- a call that the chip is not asked

why_more : (a b c : Option StopWhy) (w : StopWhy) → first_why a b ≡ Some w → first_why a (first_why b c) ≡ Some w
why_more None None c w h = absurd (none-some w h)
why_more None (Some v) c w h = h
why_more (Some v) b c w h = h

abbrev is_failure : Option StopWhy → Bool
is_failure (Some why.Failed) = true
is_failure _ = false

unknown_calm : (ns : Numbers) (is : List Rid) → first_unknown ns is ≡ Some why.Failed → ⊥
unknown_calm ns [] h = absurd (none-some why.Failed h)
unknown_calm ns (i ∷ is) h = by (unknown_calm ns is) (is_some (number_at ns i)) h
  where
    by : (first_unknown ns is ≡ Some why.Failed → ⊥) → (t : Bool) → (if t then first_unknown ns is else Some (why.UnknownId i.0)) ≡ Some why.Failed → ⊥
    by rest true g = rest g
    by rest false g = absurd (false≢true (ap is_failure g))

twice_calm : (ns : Numbers) (made : Option Rid) → made_twice ns made ≡ Some why.Failed → ⊥
twice_calm ns None h = absurd (none-some why.Failed h)
twice_calm ns (Some i) h = by (is_some (number_at ns i)) h
  where
    by : (t : Bool) → (if t then Some (why.TwiceId i.0) else None) ≡ Some why.Failed → ⊥
    by true g = absurd (false≢true (ap is_failure g))
    by false g = absurd (none-some why.Failed g)

calm : (ns : Numbers) (r : Recorded) (o : Option StopWhy) → first_unknown ns (call_ids r.call) ≡ o → first_why o (made_twice ns r.made) ≡ Some why.Failed → ⊥
calm ns r None is h = twice_calm ns r.made h
calm ns r (Some w) is h = unknown_calm ns (call_ids r.call) (is ∙ h)

module _ (ns : Numbers) (old : ChipState) (r : Recorded) where
  -- an identifier in it that nobody made, or that was made twice
  abbrev pub bad_id : Option StopWhy
  bad_id = first_why (first_unknown ns (call_ids r.call)) (made_twice ns r.made)

  abbrev pub meant : Call Rid
  meant = call_meant (built_on ns old) r

  pub not-asked : (w : StopWhy) → bad_id ≡ Some w → IsCallMade ns old r (Err w) ns old
  not-asked why.Failed h = absurd (calm ns r (first_unknown ns (call_ids r.call)) refl h)
  not-asked (why.UnknownId i) h = (why_more (first_unknown ns (call_ids r.call)) (made_twice ns r.made) _ (why.UnknownId i) h, refl, refl)
  not-asked (why.TwiceId i) h = (why_more (first_unknown ns (call_ids r.call)) (made_twice ns r.made) _ (why.TwiceId i) h, refl, refl)
  not-asked (why.Refused a) h = (why_more (first_unknown ns (call_ids r.call)) (made_twice ns r.made) _ (why.Refused a) h, refl, refl)

  -- ---- a call that it is asked

  none_bad : (a b c : Option StopWhy) → first_why a b ≡ None → first_why a (first_why b c) ≡ c
  none_bad None None c h = refl
  none_bad None (Some v) c h = absurd (none-some v (sym h))
  none_bad (Some v) b c h = absurd (none-some v (sym h))

  asked_stop : bad_id ≡ None → stop_of old.capacities (built_on ns old) r ≡ option_map why.Refused (refusal_of old.capacities old.objects meant)
  asked_stop good = none_bad (first_unknown ns (call_ids r.call)) (made_twice ns r.made) (option_map why.Refused (refusal_of old.capacities old.objects meant)) good

  makes_same : (f : Rid → Rid) (c : Call Rid) → makes_id (call_renamed f c) ≡ makes_id c
  makes_same f (call.Create b) = has_renamed f b
  makes_same f (call.Set e a) = refl
  makes_same f (call.Remove e) = refl

  counted : (effects : List (Call Rid)) (c : Call Rid) → count_by makes_id (effects ++ c ∷ []) ≡ (if makes_id c then count_by makes_id effects + 1 else count_by makes_id effects)
  counted effects c = fold-append (λ (a : ℕ) (x : Call Rid). a + cond (makes_id x) 1 0) 0 effects (c ∷ []) ∙ by (makes_id c) (count_by makes_id effects)
    where
      by : (t : Bool) (n : ℕ) → n + cond t 1 0 ≡ (if t then n + 1 else n)
      by true n = refl
      by false n = add-zero n

  module _ (good : bad_id ≡ None) (new : ChipState) where
    legal_goes : refusal_of old.capacities old.objects meant ≡ None → stop_of old.capacities (built_on ns old) r ≡ None
    legal_goes legal = asked_stop good ∙ ap (option_map why.Refused) legal

    -- it took effect, and its identifier has the chip's number
    pub taken : (ns' : Numbers) → TakesEffect old meant new → ns' ≡ numbers_after ns r (next_id old.effects) → (stop_of old.capacities (built_on ns old) r ≡ None) × (built_on ns' new ≡ after_recorded (built_on ns old) r)
    taken ns' x numbers =
        let of : ℕ → Numbers → Objects → Built = λ made ns objects. record { made = made; numbers = ns; objects = objects } in
        let made : count_by makes_id new.effects ≡ (if makes_id r.call then count_by makes_id old.effects + 1 else count_by makes_id old.effects) =
        ap (count_by makes_id) x.effects ∙ counted old.effects meant ∙ ap (λ t. if t then count_by makes_id old.effects + 1 else count_by makes_id old.effects) (makes_same _ r.call) in (
          legal_goes x.legal,
          ap (λ n. of n ns' new.objects) made ∙ ap₂ (of (if makes_id r.call then count_by makes_id old.effects + 1 else count_by makes_id old.effects)) numbers x.objects,
        )

    numbers_by : (t : Bool) (n : ℕ) → makes_id meant ≡ t → numbers_after ns r n ≡ (if t then with_number ns r.made n else ns)
    numbers_by t n makes = ap (λ s. if s then with_number ns r.made n else ns) (sym (makes_same _ r.call) ∙ makes)

    pub made-number : (id : ℕ) → makes_id meant ≡ true → id ≡ next_id old.effects → with_number ns r.made id ≡ numbers_after ns r (next_id old.effects)
    made-number id makes is = ap (with_number ns r.made) is ∙ sym (numbers_by true (next_id old.effects) makes)

    pub same-numbers : makes_id meant ≡ false → ns ≡ numbers_after ns r (next_id old.effects)
    same-numbers makes = sym (numbers_by false (next_id old.effects) makes)

    -- ---- by the answer to a call that is what is meant

    module _ (asked : Call Rid) (is : asked ≡ meant) where
      pub done-made : Answers old asked answer.Done new → (stop_of old.capacities (built_on ns old) r ≡ None) × (built_on ns new ≡ after_recorded (built_on ns old) r) × (new.faults ≡ old.faults)
      done-made x = let y = taken ns (subst (λ c. TakesEffect old c new) is x.0) (same-numbers (ap makes_id (sym is) ∙ x.1)) in (y.0, y.1, x.2)

      pub made-made : (id : Rid) (ns' : Numbers) → ns' ≡ with_number ns r.made id.0 → Answers old asked (answer.Made id) new → (stop_of old.capacities (built_on ns old) r ≡ None) × (built_on ns' new ≡ after_recorded (built_on ns old) r) × (new.faults ≡ old.faults)
      made-made id ns' put x =
          let y = taken ns' (subst (λ c. TakesEffect old c new) is x.0) (put ∙ made-number id.0 (ap makes_id (sym is) ∙ x.1) x.2) in
          (y.0, y.1, x.3)

      pub failed-made : Answers old asked answer.Failed new → HasPerhaps ns old r new.objects × (new.faults ≡ old.faults + 1)
      failed-made x = (by x.0, x.1)
        where
          by : StaysSame old new ⊎ TakesEffect old asked new → HasPerhaps ns old r new.objects
          by (inl y) = inl y.objects
          by (inr y) = let z = subst (λ c. TakesEffect old c new) is y in inr (legal_goes z.legal, z.objects)

      refused : (a : ChipAnswer) → IsRefused old asked a new → (stop_of old.capacities (built_on ns old) r ≡ Some (why.Refused a)) × (new.objects ≡ old.objects) × (new.faults ≡ old.faults)
      refused a x = (asked_stop good ∙ ap (option_map why.Refused) (ap (refusal_of old.capacities old.objects) (sym is) ∙ x.0), x.1.objects, x.2)

      pub refused-made : (a : ChipAnswer) → Answers old asked a new → ((id : Rid) → a ≡ answer.Made id → ⊥) → (a ≡ answer.Done → ⊥) → (a ≡ answer.Failed → ⊥) → (a ≡ answer.NoMemory → ⊥)
          → (stop_of old.capacities (built_on ns old) r ≡ Some (why.Refused a)) × (new.objects ≡ old.objects) × (new.faults ≡ old.faults)
      refused-made (answer.Made id) x made done failed memory = absurd (made id refl)
      refused-made answer.Done x made done failed memory = absurd (done refl)
      refused-made answer.Failed x made done failed memory = absurd (failed refl)
      refused-made answer.NoMemory x made done failed memory = absurd (memory refl)
      refused-made answer.Exists x made done failed memory = refused answer.Exists x
      refused-made answer.BadReference x made done failed memory = refused answer.BadReference x
      refused-made answer.NotFound x made done failed memory = refused answer.NotFound x
      refused-made answer.InUse x made done failed memory = refused answer.InUse x
      refused-made answer.Full x made done failed memory = refused answer.Full x
