-- what a call comes to, by what was made of it
use Rattle.std.proofs.Common.{◌≡◌, ℕ, ◌+◌, ◌-◌, ◌<◌, false, List, [], ◌∷◌, ◌++◌, length, Option, Result, Ok, Err, IfOk, IfSome, OnOk, sym, ap, ap₂, ◌∙◌, subst, arith}
use Rattle.std.specs.List.Sorted.{IsStrictlySortedBy}
use Rattle.std.specs.Map.{keys_of}
use Rattle.std.proofs.lemmas.List.{length-append}
use Rattle.sai_types.specs.declared.ids.Rid.{Rid}
use Rattle.sai_types.specs.declared.kind.Kind.{Kind}
use Rattle.sai_types.specs.declared.body.Attr.{Attr}
use Rattle.sai_types.specs.declared.body.Body.{Body}
use Rattle.sai_types.specs.declared.body.Call.{Call}
use Rattle.sai_types.specs.declared.body.Call.TheVariants as call
use Rattle.sai_types.specs.declared.body.Entry.{Entry}
use Rattle.sai_types.specs.Objects.{kind_of}
use Rattle.crm_counts.specs.declared.alarm.Alarm.{Alarm}
use Rattle.crm_counts.specs.Alarms.{Limits, alarm_between, alarm_of, alarms_behind, numbered_alarm}
use Rattle.crm_counts.specs.Counted.{AreCountsOf, Counted, Recounts, above_of, count_of_kind, id_cmp, kind_of_entry, kind_of_id, with_kind_of, without_entry}
use Rattle.crm_counts.specs.Crm.{CrmState, IsCrmOf}
use Rattle.crm_counts.specs.Effects.{IsNextEffect}
use Rattle.crm_counts.proofs.Changed.{alarm-made, alarm-removed, counts-made, counts-removed, counts-set, entry_kind, gone}
use Rattle.crm_counts.proofs.Raised.{alarms_behind-append}

module _ (limits : Limits) (old new : Counted) (c : Call Rid) (made : Option Rid) where
  module _ (b : Body Rid) (k : Kind) (is : c ≡ call.Create b) (of : k ≡ kind_of b) where
    recounts_of : Recounts limits old new k (count_of_kind old k + 1) → Recounts limits old new (kind_of b) (count_of_kind old (kind_of b) + 1)
    recounts_of re = subst (λ l. Recounts limits old new l (count_of_kind old l + 1)) of re

    next_of : (effects : List (Call Rid)) → IsNextEffect limits.capacities effects c made → IsNextEffect limits.capacities effects (call.Create b) made
    next_of effects next = subst (λ d. IsNextEffect limits.capacities effects d made) is next

    pub follows-made : {E : Type 0} (r : Result (Option Alarm) E) → OnOk r (Recounts limits old new k (count_of_kind old k + 1)) → OnOk r (new.kinds ≡ with_kind_of old.kinds made k) → OnOk r ((effects : List (Call Rid)) → AreCountsOf limits old effects → IsNextEffect limits.capacities effects c made → AreCountsOf limits new (effects ++ c ∷ []))
    follows-made (Ok alarm) re kept = λ effects are next.
        subst (λ d. AreCountsOf limits new (effects ++ d ∷ [])) (sym is) (counts-made limits old new effects b made are (next_of effects next) (recounts_of re) (kept ∙ ap (with_kind_of old.kinds made) of))
    follows-made (Err e) re kept = tt

    pub alarms-made : {E : Type 0} (r : Result (Option Alarm) E) → OnOk r (Recounts limits old new k (count_of_kind old k + 1)) → IfOk r (λ alarm. alarm ≡ alarm_between k (above_of old k) (above_of new k)) → IfOk r (λ alarm. (effects : List (Call Rid)) → AreCountsOf limits old effects → IsNextEffect limits.capacities effects c made → alarm ≡ alarm_of limits effects c)
    alarms-made (Ok alarm) re told = λ effects are next.
        alarm-made limits old new effects b made are (next_of effects next) (recounts_of re) alarm (told ∙ ap (λ l. alarm_between l (above_of old l) (above_of new l)) of)
        ∙ ap (alarm_of limits effects) (sym is)
    alarms-made (Err e) re told = tt

  -- of a set
  pub follows-set : (e : Entry Rid) (a : Attr Rid) → c ≡ call.Set e a → (effects : List (Call Rid)) → AreCountsOf limits old effects → IsNextEffect limits.capacities effects c made → AreCountsOf limits old (effects ++ c ∷ [])
  follows-set e a is effects are next = subst (λ d. AreCountsOf limits old (effects ++ d ∷ [])) (sym is) (counts-set limits old effects e a are (subst (λ d. IsNextEffect limits.capacities effects d made) is next).legal)

  module _ (e : Entry Rid) (is : c ≡ call.Remove e) (re : IfSome (kind_of_entry old.kinds e) (λ k. Recounts limits old new k (count_of_kind old k - 1))) (effects : List (Call Rid)) (are : AreCountsOf limits old effects) (next : IsNextEffect limits.capacities effects c made) where
    next_removed : IsNextEffect limits.capacities effects (call.Remove e) made
    next_removed = subst (λ d. IsNextEffect limits.capacities effects d made) is next

    at_kind : (P : Kind → Type 0) → IfSome (kind_of_entry old.kinds e) P → P (kind_of (gone limits old new effects e are next_removed.legal).0)
    at_kind P h = subst (λ o. IfSome o P) (entry_kind limits old new effects e are next_removed.legal) h

    -- of a removal
    pub follows-removed : IfSome (kind_of_entry old.kinds e) (λ _. new.kinds ≡ without_entry old.kinds e) → IsStrictlySortedBy id_cmp (keys_of old.kinds) → AreCountsOf limits new (effects ++ c ∷ [])
    follows-removed kept rising =
        subst (λ d. AreCountsOf limits new (effects ++ d ∷ [])) (sym is)
        (counts-removed limits old new effects e are next_removed.legal (at_kind (λ k. Recounts limits old new k (count_of_kind old k - 1)) re) rising (at_kind (λ _. new.kinds ≡ without_entry old.kinds e) kept))

    pub alarms-removed : (alarm : Option Alarm) → IfSome (kind_of_entry old.kinds e) (λ k. alarm ≡ alarm_between k (above_of old k) (above_of new k)) → alarm ≡ alarm_of limits effects c
    alarms-removed alarm told =
        alarm-removed limits old new effects e are next_removed.legal (at_kind (λ k. Recounts limits old new k (count_of_kind old k - 1)) re) alarm (at_kind (λ k. alarm ≡ alarm_between k (above_of old k) (above_of new k)) told)
        ∙ ap (alarm_of limits effects) (sym is)

-- of no effect
pub none-counted : (limits : Limits) (counts : Counted) → limits.low < limits.high → ((k : Kind) → count_of_kind counts k ≡ 0) → ((k : Kind) → above_of counts k ≡ false) → counts.kinds ≡ [] → AreCountsOf limits counts []
none-counted limits counts less none never empty = record {
  thresholds = less;
  legal = tt;
  used = none;
  above = never;
  kinds = λ r. ap (λ kinds. kind_of_id kinds r) empty;
}

-- counters that were given some effects are given one more
pub given-one : (crm new : CrmState) (before : ℕ) (effects : List (Call Rid)) (c : Call Rid) (alarm : Option Alarm) → IsCrmOf crm before effects → new.limits ≡ crm.limits → AreCountsOf crm.limits new.counts (effects ++ c ∷ []) → new.effects ≡ crm.effects + 1 → new.alarms ≡ crm.alarms ++ numbered_alarm new.effects alarm → alarm ≡ alarm_of crm.limits effects c → IsCrmOf new before (effects ++ c ∷ [])
given-one crm new before effects c alarm is same counts number alarms told =
    let more = length-append effects (c ∷ []) in
    let was = is.number in
    let at : new.effects ≡ length effects + 1 = omega (arith, number, was) in
    record {
      counts = subst (λ l. AreCountsOf l new.counts (effects ++ c ∷ [])) (sym same) counts;
      number = omega (arith, at, more);
      within = omega (arith, is.within, more);
      alarms =
          alarms
          ∙ ap₂ (λ xs ys. xs ++ ys) is.alarms (ap₂ numbered_alarm at told)
          ∙ sym (alarms_behind-append crm.limits before effects c is.within)
          ∙ ap (λ l. alarms_behind l before (effects ++ c ∷ [])) (sym same);
    }
