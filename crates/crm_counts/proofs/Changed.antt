-- what is kept of the chip of effects, where one effect more comes
use Rattle.std.proofs.Common.{◌≡◌, ℕ, ◌+◌, ◌-◌, ◌==◌, Bool, true, false, cond, List, [], ◌∷◌, ◌++◌, count_by, Option, Some, option_map, refl, sym, ap, ap₂, ◌∙◌}
use Rattle.std.specs.List.Sorted.{IsStrictlySortedBy}
use Rattle.std.specs.Map.{keys_of}
use Rattle.std.specs.Option.{option_and_then}
use Rattle.sai_types.specs.declared.ids.Rid.{Rid}
use Rattle.sai_types.specs.declared.kind.Kind.{Kind}
use Rattle.sai_types.specs.declared.body.Attr.{Attr}
use Rattle.sai_types.specs.declared.body.Body.{Body}
use Rattle.sai_types.specs.declared.body.Call.{Call}
use Rattle.sai_types.specs.declared.body.Call.TheVariants as call
use Rattle.sai_types.specs.declared.body.Entry.{Entry}
use Rattle.sai_types.specs.After.{makes_id, next_id}
use Rattle.sai_types.specs.Objects.{body_at, kind_of, level, used}
use Rattle.sai_types.specs.Refusal.{IsLegal, capacity_of}
use Rattle.crm_counts.specs.declared.alarm.Alarm.{Alarm}
use Rattle.crm_counts.specs.Above.{is_above_after}
use Rattle.crm_counts.specs.Alarms.{Limits, alarm_between, alarm_of, is_above_behind}
use Rattle.crm_counts.specs.Counted.{AreCountsOf, Counted, Recounts, above_of, count_of_kind, id_cmp, kind_of_entry, kind_of_id, with_kind_of, without_entry}
use Rattle.crm_counts.specs.Effects.{IsNextEffect, chip_of, kind_changed}
use Rattle.crm_counts.proofs.Chips.{above-append, above-stays, chip_of-append, legal-append, whole-behind}
use Rattle.crm_counts.proofs.Counting.{counted-made, counted-removed, counted-set, stood}
use Rattle.crm_counts.proofs.Held.{AreKindsOf, kind_found, kind_of-entry, kinds-made, kinds-removed, kinds-set}
use Rattle.crm_counts.proofs.Uses.{level-exact}

module _ (limits : Limits) (old : Counted) (effects : List (Call Rid)) (c : Call Rid) (are : AreCountsOf limits old effects) (legal : IsLegal limits.capacities (chip_of effects) c) where
  abbrev later : List (Call Rid)
  later = effects ++ c ∷ []

  held : AreKindsOf old.kinds (chip_of effects)
  held = record { each = are.kinds }

  stays : (k : Kind) → used (chip_of later) k ≡ used (chip_of effects) k → is_above_behind limits later k ≡ is_above_behind limits effects k
  stays k same = above-stays limits.high limits.low (capacity_of limits.capacities k) k effects c are.thresholds same

  module _ (new : Counted) (kind : Kind) (count : ℕ) (re : Recounts limits old new kind count) (counts : (k : Kind) → used (chip_of later) k ≡ cond (level kind == level k) count (used (chip_of effects) k)) where
    used_now : (k : Kind) → count_of_kind new k ≡ used (chip_of later) k
    used_now k = re.used k ∙ ap (cond (level kind == level k) count) (are.used k) ∙ sym (counts k)

    above_by : (k : Kind) (t : Bool) → (level kind == level k) ≡ t → above_of new k ≡ cond t (is_above_after limits.high limits.low (capacity_of limits.capacities kind) (above_of old kind) count) (above_of old k) → used (chip_of later) k ≡ cond t count (used (chip_of effects) k) → above_of new k ≡ is_above_behind limits later k
    above_by k true same above counted =
        above
        ∙ ap (λ l. is_above_after limits.high limits.low (capacity_of limits.capacities l) (above_of old l) count) (level-exact kind k same)
        ∙ ap₂ (λ b n. is_above_after limits.high limits.low (capacity_of limits.capacities k) b n) (are.above k) (sym counted)
        ∙ sym (above-append limits.high limits.low (capacity_of limits.capacities k) k effects c)
    above_by k false same above counted = above ∙ are.above k ∙ sym (stays k counted)

    above_now : (k : Kind) → above_of new k ≡ is_above_behind limits later k
    above_now k = above_by k (level kind == level k) refl (re.above k) (counts k)

    -- what is kept then is that of one effect more
    recounted : ((r : Rid) → kind_of_id new.kinds r ≡ kind_found (chip_of later) r) → AreCountsOf limits new later
    recounted kinds = record {
      thresholds = are.thresholds;
      legal = legal-append limits.capacities effects c are.legal legal;
      used = used_now;
      above = above_now;
      kinds = kinds;
    }

    -- and its alarm is told
    told : kind_changed (chip_of effects) c ≡ Some kind → (alarm : Option Alarm) → alarm ≡ alarm_between kind (above_of old kind) (above_of new kind) → alarm ≡ alarm_of limits effects c
    told changed alarm is =
        is
        ∙ ap₂ (alarm_between kind) (are.above kind) (above_now kind)
        ∙ ap (option_and_then (λ k. alarm_between k (is_above_behind limits effects k) (is_above_behind limits later k))) (sym changed)

module _ (limits : Limits) (old new : Counted) (effects : List (Call Rid)) (b : Body Rid) (made : Option Rid) (are : AreCountsOf limits old effects) (next : IsNextEffect limits.capacities effects (call.Create b) made) (re : Recounts limits old new (kind_of b) (count_of_kind old (kind_of b) + 1)) where
  one_more : (k : Kind) → used (chip_of (effects ++ call.Create b ∷ [])) k ≡ cond (level (kind_of b) == level k) (count_of_kind old (kind_of b) + 1) (used (chip_of effects) k)
  one_more k = counted-made limits.capacities effects are.legal b next.legal k ∙ ap (λ n. cond (level (kind_of b) == level k) (n + 1) (used (chip_of effects) k)) (sym (are.used (kind_of b)))

  -- a call that makes an object
  pub counts-made : new.kinds ≡ with_kind_of old.kinds made (kind_of b) → AreCountsOf limits new (effects ++ call.Create b ∷ [])
  counts-made kept = recounted limits old effects (call.Create b) are next.legal new (kind_of b) (count_of_kind old (kind_of b) + 1) re one_more (λ r.
      ap (λ kinds. kind_of_id kinds r) kept
      ∙ ap (λ id. kind_of_id (with_kind_of old.kinds id (kind_of b)) r) next.made
      ∙ kinds-made old.kinds (chip_of effects) (held limits old effects (call.Create b) are next.legal) (next_id effects) b r
      ∙ ap (λ objects. kind_found objects r) (sym (chip_of-append effects (call.Create b))))

  pub alarm-made : (alarm : Option Alarm) → alarm ≡ alarm_between (kind_of b) (above_of old (kind_of b)) (above_of new (kind_of b)) → alarm ≡ alarm_of limits effects (call.Create b)
  alarm-made = told limits old effects (call.Create b) are next.legal new (kind_of b) (count_of_kind old (kind_of b) + 1) re one_more refl

-- one that sets an attribute
pub counts-set : (limits : Limits) (counts : Counted) (effects : List (Call Rid)) (e : Entry Rid) (a : Attr Rid) → AreCountsOf limits counts effects → IsLegal limits.capacities (chip_of effects) (call.Set e a) → AreCountsOf limits counts (effects ++ call.Set e a ∷ [])
counts-set limits counts effects e a are legal =
    let more = chip_of-append effects (call.Set e a) in
    let same = counted-set limits.capacities effects are.legal e a in record {
      thresholds = are.thresholds;
      legal = legal-append limits.capacities effects (call.Set e a) are.legal legal;
      used = λ k. are.used k ∙ sym (same k);
      above = λ k. are.above k ∙ sym (stays limits counts effects (call.Set e a) are legal k (same k));
      kinds = λ r. kinds-set counts.kinds (chip_of effects) (held limits counts effects (call.Set e a) are legal) (next_id effects) e a r ∙ ap (λ objects. kind_found objects r) (sym more);
    }

module _ (limits : Limits) (old new : Counted) (effects : List (Call Rid)) (e : Entry Rid) (are : AreCountsOf limits old effects) (legal : IsLegal limits.capacities (chip_of effects) (call.Remove e)) where
  -- the object that is removed
  abbrev pub gone : (b : Body Rid) × (body_at (chip_of effects) e ≡ Some b)
  gone = stood limits.capacities effects are.legal e legal

  -- the entry tells the kind
  pub entry_kind : kind_of_entry old.kinds e ≡ Some (kind_of gone.0)
  entry_kind = kind_of-entry old.kinds (chip_of effects) (held limits old effects (call.Remove e) are legal) (count_by makes_id effects) (whole-behind limits.capacities effects are.legal).entered e gone.0 gone.1

  module _ (re : Recounts limits old new (kind_of gone.0) (count_of_kind old (kind_of gone.0) - 1)) where
    one_less : (k : Kind) → used (chip_of (effects ++ call.Remove e ∷ [])) k ≡ cond (level (kind_of gone.0) == level k) (count_of_kind old (kind_of gone.0) - 1) (used (chip_of effects) k)
    one_less k = counted-removed limits.capacities effects are.legal e legal k ∙ ap (λ n. cond (level (kind_of gone.0) == level k) (n - 1) (used (chip_of effects) k)) (sym (are.used (kind_of gone.0)))

    -- one that removes an object
    pub counts-removed : IsStrictlySortedBy id_cmp (keys_of old.kinds) → new.kinds ≡ without_entry old.kinds e → AreCountsOf limits new (effects ++ call.Remove e ∷ [])
    counts-removed rising kept = recounted limits old effects (call.Remove e) are legal new (kind_of gone.0) (count_of_kind old (kind_of gone.0) - 1) re one_less (λ r.
        ap (λ kinds. kind_of_id kinds r) kept
        ∙ kinds-removed old.kinds (chip_of effects) (held limits old effects (call.Remove e) are legal) (whole-behind limits.capacities effects are.legal).sorted rising (next_id effects) e r
        ∙ ap (λ objects. kind_found objects r) (sym (chip_of-append effects (call.Remove e))))

    pub alarm-removed : (alarm : Option Alarm) → alarm ≡ alarm_between (kind_of gone.0) (above_of old (kind_of gone.0)) (above_of new (kind_of gone.0)) → alarm ≡ alarm_of limits effects (call.Remove e)
    alarm-removed = told limits old effects (call.Remove e) are legal new (kind_of gone.0) (count_of_kind old (kind_of gone.0) - 1) re one_less (ap (option_map kind_of) gone.1)
