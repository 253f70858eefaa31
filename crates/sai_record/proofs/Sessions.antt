-- the recording of a session builds what the session's calls left
use Rattle.std.proofs.Common.{◌≡◌, ℕ, ◌+◌, ◌<◌, Bool, true, false, true≢false, cond, is_ok, List, [], ◌∷◌, Option, None, Some, option_map, unwrap_or, Result, Ok, Err, refl, sym, ap, ap₂, ◌∙◌, subst, if◌then◌else◌, arith}
use Rattle.std.specs.BTreeMap.{insert_entry, is_at}
use Rattle.std.specs.Cmp.{eq_by_cmp_equiv}
use Rattle.std.specs.List.{AllByRecursion}
use Rattle.std.specs.Option.{is_some}
use Rattle.std.specs.Ordering.{nat_cmp}
use Rattle.std.proofs.lemmas.Bool.{false≢true}
use Rattle.std.proofs.lemmas.Cmp.{nat_cmp_total}
use Rattle.std.proofs.lemmas.Map.Lookups.{exact_unsigned}
use Rattle.std.proofs.lemmas.Map.Views.{tells_apart}
use Rattle.std.proofs.lemmas.Option.{none-some}
use Rattle.chip_layout.specs.Renamed.{call_renamed}
use Rattle.swss_types.proofs.Maps.{lookup-insert_entry}
use Rattle.sai_types.specs.After.{after_call, after_calls, entry_of, has_id, makes_id, with_attr}
use Rattle.sai_types.specs.ChipState.{ChipState}
use Rattle.sai_types.specs.Made.{AreLegal, IsWhole, entry_named, made_after, same_entry}
use Rattle.sai_types.specs.Named.{named}
use Rattle.sai_types.specs.Objects.{Objects, body_at}
use Rattle.sai_types.specs.Refusal.{IsLegal, refusal_of}
use Rattle.sai_types.specs.declared.ids.Rid.{Rid}
use Rattle.sai_types.specs.declared.body.Body.{Body}
use Rattle.sai_types.specs.declared.body.Body.TheVariants as body
use Rattle.sai_types.specs.declared.body.Call.{Call}
use Rattle.sai_types.specs.declared.body.Call.TheVariants as call
use Rattle.sai_types.specs.declared.body.Entry.TheVariants as entry
use Rattle.sai_types.proofs.Exact.{entry-exact}
use Rattle.sai_types.proofs.Found.{found-other, found-removed, found-set}
use Rattle.sai_types.proofs.Whole.{whole-after_call, whole-empty}
use Rattle.sai_record.specs.Build.{Built, Numbers, after_recorded, build, built_from, call_ids, call_meant, first_unknown, first_why, made_twice, number_at, made_as, stop_of, unless_stopped, with_number}
use Rattle.sai_record.specs.Replayed.{IsReplayed}
use Rattle.sai_record.specs.Session.{recorded_behind, recorded_effect, recording_of}
use Rattle.sai_record.specs.declared.replaying.Replayed.{Replayed}
use Rattle.sai_record.specs.declared.replaying.Replayed.TheVariants as replayed
use Rattle.sai_record.specs.declared.replaying.StopWhy.{StopWhy}
use Rattle.sai_record.specs.declared.replaying.StopWhy.TheVariants as why
use Rattle.sai_record.proofs.Agreeing.{call-same, each-weaker}
use Rattle.sai_record.proofs.Known.{call-known, id_in, is_oid}

-- ---- numbers that compare equal

at_same : (i n : ℕ) → is_at (nat_cmp i) n ≡ true → i ≡ n
at_same i n h = tells_apart exact_unsigned i n h

at_self : (n : ℕ) → is_at (nat_cmp n) n ≡ true
at_self n = (eq_by_cmp_equiv nat_cmp_total).refl n

at_less : (n i : ℕ) → n < i → is_at (nat_cmp i) n ≡ false
at_less n i h = by (is_at (nat_cmp i) n) refl
  where
    by : (t : Bool) → is_at (nat_cmp i) n ≡ t → t ≡ false
    by true at = let same = at_same i n at in absurd (omega (arith, same, h))
    by false at = refl

-- an identifier stands for itself
abbrev IsOwn : Numbers → Rid → Type 0
IsOwn ns i = number_at ns i ≡ Some i.0

-- each identifier that stands does, and none above those that were made is known
record IsOwnNumbered (made : ℕ) (ns : Numbers) (objects : Objects) : Type 0 where
  whole : IsWhole made objects
  found : (i : Rid) (b : Body Rid) → body_at objects (entry.Oid i) ≡ Some b → IsOwn ns i
  above : (i : Rid) → made < i.0 → number_at ns i ≡ None

-- ---- a call names what stands, and is meant as it is

own_known : (ns : Numbers) (is : List Rid) → AllByRecursion (IsOwn ns) is → first_unknown ns is ≡ None
own_known ns [] h = refl
own_known ns (i ∷ is) h = ap (λ o. if is_some o then first_unknown ns is else Some (why.UnknownId i.0)) h.0 ∙ own_known ns is h.1

own_stands : (ns : Numbers) (i : Rid) → IsOwn ns i → made_as ns i ≡ i
own_stands ns i h = let of : Option ℕ → Rid = λ o. record { 0 = unwrap_or o 0 } in ap of h

own_meant : (ns : Numbers) (c : Call Rid) → AllByRecursion (IsOwn ns) (call_ids c) → call_renamed (made_as ns) c ≡ c
own_meant ns c h = call-same (made_as ns) c (each-weaker (IsOwn ns) (λ i. made_as ns i ≡ i) (own_stands ns) (call_ids c) h)

-- ---- one more call

module _ (capacities : List ℕ) (made : ℕ) (ns : Numbers) (objects : Objects) (x : IsOwnNumbered made ns objects) where
  abbrev new_id : Rid
  new_id = record { 0 = made + 1 }

  abbrev so_far : Built
  so_far = record { made = made; numbers = ns; objects = objects }

  -- the numbers behind a call that makes an identifier or none
  abbrev ns_after : Bool → Numbers
  ns_after t = if t then with_number ns (if t then Some new_id else None) (made + 1) else ns

  owned : (c : Call Rid) → IsLegal capacities objects c → AllByRecursion (IsOwn ns) (call_ids c)
  owned c legal = call-known made objects x.whole (IsOwn ns) x.found capacities c legal

  meant : (c : Call Rid) → IsLegal capacities objects c → call_meant so_far (recorded_effect made c) ≡ c
  meant c legal = own_meant ns c (owned c legal)

  not_twice : (t : Bool) → made_twice ns (if t then Some new_id else None) ≡ None
  not_twice false = refl
  not_twice true = ap (λ o. if is_some o then Some (why.TwiceId (made + 1)) else None) (x.above new_id (omega arith))

  goes : (c : Call Rid) → IsLegal capacities objects c → stop_of capacities so_far (recorded_effect made c) ≡ None
  goes c legal =
      ap₂ (λ u t. first_why u (first_why t (option_map why.Refused (refusal_of capacities objects (call_meant so_far (recorded_effect made c)))))) (own_known ns (call_ids c) (owned c legal)) (not_twice (makes_id c))
      ∙ ap (option_map why.Refused) (ap (refusal_of capacities objects) (meant c legal) ∙ legal)

  leaves : (c : Call Rid) → IsLegal capacities objects c → after_recorded so_far (recorded_effect made c) ≡ record { made = made_after made c; numbers = ns_after (makes_id c); objects = after_call (made + 1) objects c }
  leaves c legal =
      let of : Objects → Built = λ later. record { made = made_after made c; numbers = ns_after (makes_id c); objects = later } in
      ap (λ d. of (after_call (made + 1) objects d)) (meant c legal)

  -- ---- and then each identifier that stands still does for itself

  put_at : (i : Rid) → number_at (insert_entry nat_cmp ns (made + 1) (made + 1)) i ≡ cond (is_at (nat_cmp i.0) (made + 1)) (Some (made + 1)) (number_at ns i)
  put_at i = lookup-insert_entry nat_cmp nat_cmp_total ns (made + 1) (made + 1) i.0

  kept : (t : Bool) (i : Rid) → IsOwn ns i → IsOwn (ns_after t) i
  kept false i h = h
  kept true i h = put_at i ∙ by (is_at (nat_cmp i.0) (made + 1)) refl
    where
      by : (s : Bool) → is_at (nat_cmp i.0) (made + 1) ≡ s → cond s (Some (made + 1)) (number_at ns i) ≡ Some i.0
      by true at = ap Some (sym (at_same i.0 (made + 1) at))
      by false at = h

  new_own : (t : Bool) → t ≡ true → IsOwn (ns_after t) new_id
  new_own false h = absurd (false≢true h)
  new_own true h = put_at new_id ∙ ap (λ s. cond s (Some (made + 1)) (number_at ns new_id)) (at_self (made + 1))

  -- what a create makes
  made_by : (i : Rid) (d : Body Rid) → entry.Oid i ≡ entry_of (made + 1) d → (i ≡ new_id) × (has_id d ≡ true)
  made_by i (body.OwnAddress vr ip) h = absurd (true≢false (ap is_oid h))
  made_by i (body.Neighbor rif ip mac) h = absurd (true≢false (ap is_oid h))
  made_by i (body.Route vr prefix t) h = absurd (true≢false (ap is_oid h))
  made_by i _ h = (ap id_in h, refl)

  was_found : (o : Option (Body Rid)) (f : Body Rid → Body Rid) (i : Rid) (d : Body Rid) → body_at objects (entry.Oid i) ≡ o → option_map f o ≡ Some d → IsOwn ns i
  was_found None f i d at h = absurd (none-some d h)
  was_found (Some e) f i d at h = x.found i e at

  named_found : (c : Call Rid) (i : Rid) (d : Body Rid) → entry.Oid i ≡ entry_named (made + 1) c → body_at (after_call (made + 1) objects c) (entry.Oid i) ≡ Some d → IsOwn (ns_after (makes_id c)) i
  named_found (call.Create e) i d same h = let m = made_by i e same in subst (IsOwn (ns_after (has_id e))) (sym m.0) (new_own (has_id e) m.1)
  named_found (call.Set e a) i d same h =
      was_found (body_at objects (entry.Oid i)) (λ b. with_attr b a) i d refl
      (sym (found-set (made + 1) objects (entry.Oid i) a) ∙ subst (λ f. body_at (after_call (made + 1) objects (call.Set f a)) (entry.Oid i) ≡ Some d) (sym same) h)
  named_found (call.Remove e) i d same h =
      let gone = found-removed (made + 1) objects (entry.Oid i) x.whole.sorted in
      let there = subst (λ f. body_at (after_call (made + 1) objects (call.Remove f)) (entry.Oid i) ≡ Some d) (sym same) h in
      absurd (none-some d (sym gone ∙ there))

  found_next : (c : Call Rid) (i : Rid) (d : Body Rid) → body_at (after_call (made + 1) objects c) (entry.Oid i) ≡ Some d → IsOwn (ns_after (makes_id c)) i
  found_next c i d h = by (same_entry (entry.Oid i) (entry_named (made + 1) c)) refl
    where
      by : (s : Bool) → same_entry (entry.Oid i) (entry_named (made + 1) c) ≡ s → IsOwn (ns_after (makes_id c)) i
      by true at = named_found c i d (entry-exact (entry.Oid i) (entry_named (made + 1) c) at) h
      by false at = kept (makes_id c) i (x.found i d (sym (found-other (made + 1) objects c (entry.Oid i) x.whole.sorted at) ∙ h))

  above_next : (t : Bool) (i : Rid) → (if t then made + 1 else made) < i.0 → number_at (ns_after t) i ≡ None
  above_next false i h = x.above i h
  above_next true i h = put_at i ∙ ap (λ s. cond s (Some (made + 1)) (number_at ns i)) (at_less (made + 1) i.0 h) ∙ x.above i (omega (arith, h))

  next : (c : Call Rid) → IsLegal capacities objects c → IsOwnNumbered (made_after made c) (ns_after (makes_id c)) (after_call (made + 1) objects c)
  next c legal = record { whole = whole-after_call capacities made objects c x.whole legal; found = found_next c; above = above_next (makes_id c) }

-- ---- all calls

builds_behind : (capacities : List ℕ) (at made : ℕ) (ns : Numbers) (objects : Objects) (cs : List (Call Rid)) → IsOwnNumbered made ns objects → AreLegal capacities made objects cs
    → (b : Built) × (built_from capacities at (record { made = made; numbers = ns; objects = objects }) (recorded_behind made cs) ≡ Ok b) × (b.objects ≡ after_calls made objects cs)
builds_behind capacities at made ns objects [] x h = (record { made = made; numbers = ns; objects = objects }, refl, refl)
builds_behind capacities at made ns objects (c ∷ cs) x h =
    let rest = recorded_behind (made_after made c) cs in
    let b = so_far capacities made ns objects x in
    let y = builds_behind capacities (at + 1) (made_after made c) (ns_after capacities made ns objects x (makes_id c)) (after_call (made + 1) objects c) cs (next capacities made ns objects x c h.0) h.1 in (
      y.0,
      ap (λ o. unless_stopped o at (built_from capacities (at + 1) (after_recorded b (recorded_effect made c)) rest)) (goes capacities made ns objects x c h.0)
          ∙ ap (λ d. built_from capacities (at + 1) d rest) (leaves capacities made ns objects x c h.0) ∙ y.1,
      y.2,
    )

pub session-built : (capacities : List ℕ) (effects : List (Call Rid)) → AreLegal capacities 0 [] effects → (b : Built) × (build capacities (recording_of effects) ≡ Ok b) × (b.objects ≡ after_calls 0 [] effects)
session-built capacities effects legal = builds_behind capacities 1 0 [] [] effects (record { whole = whole-empty; found = λ i b h. absurd (none-some b h); above = λ i h. refl }) legal

abbrev built_in : Built → Result Built (ℕ × StopWhy) → Built
built_in d (Ok b) = b
built_in d (Err e) = d

-- its replay is done, where the chip doesn't fail
pub session-replayed : (effects : List (Call Rid)) (old new : ChipState) (answer : Replayed) → AreLegal old.capacities 0 [] effects → IsReplayed old (recording_of effects) answer new → new.faults ≡ old.faults → (answer ≡ replayed.Done) × (named new.objects ≡ named (after_calls 0 [] effects))
session-replayed effects old new answer legal is calm = by answer is
  where
    built : (b : Built) × (build old.capacities (recording_of effects) ≡ Ok b) × (b.objects ≡ after_calls 0 [] effects)
    built = session-built old.capacities effects legal

    not_stopped : (at : ℕ) (w : StopWhy) → build old.capacities (recording_of effects) ≡ Err (at, w) → ⊥
    not_stopped at w h = absurd (true≢false (ap is_ok (sym built.1 ∙ h)))

    by : (a : Replayed) → IsReplayed old (recording_of effects) a new → (a ≡ replayed.Done) × (named new.objects ≡ named (after_calls 0 [] effects))
    by replayed.Done y = let one : y.0.0 ≡ built.0 = ap (built_in built.0) (sym y.0.1 ∙ built.1) in (refl, y.0.2 ∙ ap (λ b. named b.objects) one ∙ ap named built.2)
    by (replayed.Stopped at why.Failed) y = absurd (omega (arith, y.3, calm))
    by (replayed.Stopped at (why.UnknownId i)) y = absurd (not_stopped at (why.UnknownId i) y.0)
    by (replayed.Stopped at (why.TwiceId i)) y = absurd (not_stopped at (why.TwiceId i) y.0)
    by (replayed.Stopped at (why.Refused a)) y = absurd (not_stopped at (why.Refused a) y.0)
