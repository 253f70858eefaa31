-- building on a chip that made identifiers before, where each of the recording stands for one that is so much greater
use Rattle.std.proofs.Common.{◌≡◌, ℕ, ◌+◌, Bool, true, false, cond, List, [], ◌∷◌, Option, None, Some, option_map, unwrap_or, refl, sym, ap, ap₂, ◌∙◌, if◌then◌else◌, arith}
use Rattle.std.specs.declared.cmp.Ordering.{Ordering}
use Rattle.std.specs.declared.cmp.Ordering.TheVariants.{Less, Equal, Greater}
use Rattle.std.specs.BTreeMap.{insert_entry, is_at}
use Rattle.std.specs.Option.{is_some}
use Rattle.std.specs.Ordering.{match_ordering, nat_cmp}
use Rattle.chip_layout.specs.Renamed.{call_renamed}
use Rattle.sai_types.specs.After.{after_call, makes_id}
use Rattle.sai_types.specs.Made.{AreSorted}
use Rattle.sai_types.specs.Objects.{Objects}
use Rattle.sai_types.specs.Refusal.{refusal_of}
use Rattle.sai_types.specs.declared.ids.Rid.{Rid}
use Rattle.sai_record.specs.Build.{Built, Numbers, after_recorded, call_ids, call_meant, first_unknown, first_why, made_twice, number_at, numbers_after, made_as, stop_of, with_number}
use Rattle.sai_record.specs.declared.recording.Recorded.{Recorded}
use Rattle.sai_record.specs.declared.replaying.StopWhy.{StopWhy}
use Rattle.sai_record.specs.declared.replaying.StopWhy.TheVariants as why
use Rattle.sai_record.proofs.Agreeing.{IsNumbered, all-numbered, call-agree, each-weaker}
use Rattle.sai_record.proofs.Later.{after-later, later, later_objects, refusal-later}

module _ (k : ℕ) where
  abbrev pub later_numbers : Numbers → Numbers
  later_numbers [] = []
  later_numbers (p ∷ ps) = (p.0, p.1 + k) ∷ later_numbers ps

  abbrev pub built_later : Built → Built
  built_later b = record { made = b.made + k; numbers = later_numbers b.numbers; objects = later_objects k b.objects }

  number_later : (ns : Numbers) (i : Rid) → number_at (later_numbers ns) i ≡ option_map (λ n. n + k) (number_at ns i)
  number_later [] i = refl
  number_later (p ∷ ps) i = ap (cond (is_at (nat_cmp i.0) p.0) (Some (p.1 + k))) (number_later ps i) ∙ by (is_at (nat_cmp i.0) p.0)
    where
      by : (t : Bool) → cond t (Some (p.1 + k)) (option_map (λ n. n + k) (number_at ps i)) ≡ option_map (λ n. n + k) (cond t (Some p.1) (number_at ps i))
      by true = refl
      by false = refl

  is_number_later : (ns : Numbers) (i : Rid) → is_some (number_at (later_numbers ns) i) ≡ is_some (number_at ns i)
  is_number_later ns i = ap is_some (number_later ns i) ∙ by (number_at ns i)
    where
      by : (o : Option ℕ) → is_some (option_map (λ n. n + k) o) ≡ is_some o
      by None = refl
      by (Some n) = refl

  put_later : (ns : Numbers) (i n : ℕ) → insert_entry nat_cmp (later_numbers ns) i (n + k) ≡ later_numbers (insert_entry nat_cmp ns i n)
  put_later [] i n = refl
  put_later (p ∷ ps) i n = ap (λ rest. match_ordering (nat_cmp i p.0) ((i, n + k) ∷ (p.0, p.1 + k) ∷ later_numbers ps) ((p.0, n + k) ∷ later_numbers ps) ((p.0, p.1 + k) ∷ rest)) (put_later ps i n) ∙ by (nat_cmp i p.0)
    where
      by : (r : Ordering) → match_ordering r ((i, n + k) ∷ (p.0, p.1 + k) ∷ later_numbers ps) ((p.0, n + k) ∷ later_numbers ps) ((p.0, p.1 + k) ∷ later_numbers (insert_entry nat_cmp ps i n)) ≡ later_numbers (match_ordering r ((i, n) ∷ p ∷ ps) ((p.0, n) ∷ ps) (p ∷ insert_entry nat_cmp ps i n))
      by Less = refl
      by Equal = refl
      by Greater = refl

  with_later : (ns : Numbers) (made : Option Rid) (n : ℕ) → with_number (later_numbers ns) made (n + k) ≡ later_numbers (with_number ns made n)
  with_later ns None n = refl
  with_later ns (Some i) n = put_later ns i.0 n

  -- ---- what stops building

  unknown_later : (ns : Numbers) (is : List Rid) → first_unknown (later_numbers ns) is ≡ first_unknown ns is
  unknown_later ns [] = refl
  unknown_later ns (i ∷ is) = ap₂ (λ t o. if t then o else Some (why.UnknownId i.0)) (is_number_later ns i) (unknown_later ns is)

  twice_later : (ns : Numbers) (made : Option Rid) → made_twice (later_numbers ns) made ≡ made_twice ns made
  twice_later ns None = refl
  twice_later ns (Some i) = ap (λ t. if t then Some (why.TwiceId i.0) else None) (is_number_later ns i)

  stands_later : (ns : Numbers) (i : Rid) → IsNumbered ns i → made_as (later_numbers ns) i ≡ later k (made_as ns i)
  stands_later ns i (n, is) =
      let by : Option ℕ → Rid = λ o. record { 0 = unwrap_or o 0 } in
      ap by (number_later ns i ∙ ap (option_map (λ m. m + k)) is) ∙ sym (ap (λ o. later k (by o)) is)

  meant_later : (b : Built) (r : Recorded) → first_unknown b.numbers (call_ids r.call) ≡ None → call_meant (built_later b) r ≡ call_renamed (later k) (call_meant b r)
  meant_later b r known =
      call-agree (made_as (later_numbers b.numbers)) (later k) (made_as b.numbers) r.call
      (each-weaker (IsNumbered b.numbers) (λ i. made_as (later_numbers b.numbers) i ≡ later k (made_as b.numbers i)) (stands_later b.numbers) (call_ids r.call) (all-numbered b.numbers (call_ids r.call) known))

  pub stop-later : (capacities : List ℕ) (b : Built) (r : Recorded) → AreSorted b.objects → AreSorted (later_objects k b.objects) → stop_of capacities (built_later b) r ≡ stop_of capacities b r
  stop-later capacities b r sorted sorted' =
      ap₂ (λ u t. first_why u (first_why t refused')) (unknown_later b.numbers (call_ids r.call)) (twice_later b.numbers r.made)
      ∙ by (first_unknown b.numbers (call_ids r.call)) refl
    where
      refused : Option StopWhy
      refused = option_map why.Refused (refusal_of capacities b.objects (call_meant b r))

      refused' : Option StopWhy
      refused' = option_map why.Refused (refusal_of capacities (later_objects k b.objects) (call_meant (built_later b) r))

      by : (o : Option StopWhy) → first_unknown b.numbers (call_ids r.call) ≡ o → first_why o (first_why (made_twice b.numbers r.made) refused') ≡ first_why o (first_why (made_twice b.numbers r.made) refused)
      by (Some w) known = refl
      by None known = ap (λ x. first_why (made_twice b.numbers r.made) (option_map why.Refused x)) (ap (refusal_of capacities (later_objects k b.objects)) (meant_later b r known) ∙ refusal-later k capacities b.objects (call_meant b r) sorted sorted')

  -- ---- what a call leaves

  next_later : (made : ℕ) → made + k + 1 ≡ made + 1 + k
  next_later made = omega arith

  made_later : (t : Bool) (made : ℕ) → (if t then made + k + 1 else made + k) ≡ (if t then made + 1 else made) + k
  made_later true made = next_later made
  made_later false made = refl

  numbers_later : (ns : Numbers) (r : Recorded) (n : ℕ) → numbers_after (later_numbers ns) r (n + k) ≡ later_numbers (numbers_after ns r n)
  numbers_later ns r n = ap (λ x. if makes_id r.call then x else later_numbers ns) (with_later ns r.made n) ∙ by (makes_id r.call)
    where
      by : (t : Bool) → (if t then later_numbers (with_number ns r.made n) else later_numbers ns) ≡ later_numbers (if t then with_number ns r.made n else ns)
      by true = refl
      by false = refl

  objects_later : (b : Built) (r : Recorded) → first_unknown b.numbers (call_ids r.call) ≡ None → after_call (b.made + k + 1) (later_objects k b.objects) (call_meant (built_later b) r) ≡ later_objects k (after_call (b.made + 1) b.objects (call_meant b r))
  objects_later b r known =
      ap₂ (λ n c. after_call n (later_objects k b.objects) c) (next_later b.made) (meant_later b r known)
      ∙ after-later k (b.made + 1) b.objects (call_meant b r)

  pub built-later : (b : Built) (r : Recorded) → first_unknown b.numbers (call_ids r.call) ≡ None → after_recorded (built_later b) r ≡ built_later (after_recorded b r)
  built-later b r known =
      let of : ℕ → Numbers → Objects → Built = λ made numbers objects. record { made = made; numbers = numbers; objects = objects } in
      let put : ℕ → Numbers = λ n. numbers_after (later_numbers b.numbers) r n in
      ap (λ made. of made (put (b.made + k + 1)) (after_call (b.made + k + 1) (later_objects k b.objects) (call_meant (built_later b) r))) (made_later (makes_id r.call) b.made)
      ∙ ap₂ (λ numbers objects. of ((if makes_id r.call then b.made + 1 else b.made) + k) numbers objects) (ap put (next_later b.made) ∙ numbers_later b.numbers r (b.made + 1)) (objects_later b r known)
