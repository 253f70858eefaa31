-- the alarms of effects, where one effect more comes
use Rattle.std.proofs.Common.{◌≡◌, ℕ, ◌+◌, ◌≤◌, List, [], ◌∷◌, ◌++◌, length, take, drop, sym, ap, ap₂, ◌∙◌, append_assoc}
use Rattle.std.proofs.lemmas.List.{append-nil, drop-append-le, take-append-drop, take-append-le}
use Rattle.sai_types.specs.declared.ids.Rid.{Rid}
use Rattle.sai_types.specs.declared.body.Call.{Call}
use Rattle.crm_counts.specs.declared.alarm.Alarm.{Alarm}
use Rattle.crm_counts.specs.Alarms.{Limits, alarm_of, alarms_among, alarms_behind, numbered_alarm}

module _ (limits : Limits) where
  -- the alarm of a call behind effects, with its number
  abbrev alarms_at : List (Call Rid) → Call Rid → List (ℕ × Alarm)
  alarms_at effects c = numbered_alarm (length effects + 1) (alarm_of limits effects c)

  among_more : (past cs : List (Call Rid)) (c : Call Rid) → alarms_among limits past (cs ++ c ∷ []) ≡ alarms_among limits past cs ++ alarms_at (past ++ cs) c
  among_more past [] c = append-nil (alarms_at past c) ∙ ap (λ effects. alarms_at effects c) (sym (append-nil past))
  among_more past (d ∷ cs) c =
      ap (λ alarms. alarms_at past d ++ alarms) (among_more (past ++ d ∷ []) cs c ∙ ap (λ effects. alarms_among limits (past ++ d ∷ []) cs ++ alarms_at effects c) (append_assoc past (d ∷ []) cs))
      ∙ sym (append_assoc (alarms_at past d) (alarms_among limits (past ++ d ∷ []) cs) (alarms_at (past ++ d ∷ cs) c))

  -- they come last
  pub alarms_behind-append : (before : ℕ) (effects : List (Call Rid)) (c : Call Rid) → before ≤ length effects → alarms_behind limits before (effects ++ c ∷ []) ≡ alarms_behind limits before effects ++ numbered_alarm (length effects + 1) (alarm_of limits effects c)
  alarms_behind-append before effects c within =
      ap₂ (alarms_among limits) (take-append-le before effects (c ∷ []) within) (drop-append-le before effects (c ∷ []) within)
      ∙ among_more (take before effects) (drop before effects) c
      ∙ ap (λ all. alarms_behind limits before effects ++ alarms_at all c) (take-append-drop before effects)
