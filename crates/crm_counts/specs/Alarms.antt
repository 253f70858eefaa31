-- The alarms that effects raise: a kind comes above its threshold, or leaves it (SONiC CRM: THRESHOLD_EXCEEDED and THRESHOLD_CLEAR).
use Rattle.std.specs.Prelude.{ℕ, ◌+◌, ◌==◌, Bool, true, false, List, [], ◌∷◌, ◌++◌, length, take, drop, fold, Option, Some, None, if◌then◌else◌}
use Rattle.std.specs.Option.{option_and_then}
use Rattle.sai_types.specs.declared.ids.Rid.{Rid}
use Rattle.sai_types.specs.declared.kind.Kind.{Kind}
use Rattle.sai_types.specs.declared.body.Call.{Call}
use Rattle.sai_types.specs.Objects.{level}
use Rattle.sai_types.specs.Refusal.{capacity_of}
use Rattle.crm_counts.specs.declared.alarm.Alarm.{Alarm}
use Rattle.crm_counts.specs.declared.alarm.Alarm.TheVariants as alarm
use Rattle.crm_counts.specs.Above.{is_above}
use Rattle.crm_counts.specs.Effects.{chip_of, counts_along, kind_changed}

-- the capacity of each kind, and the thresholds in hundredths of it
pub record Limits : Type 0 where
  pub capacities : List ℕ
  pub high : ℕ
  pub low : ℕ

-- whether a kind is above after these effects
abbrev pub is_above_behind : Limits → List (Call Rid) → Kind → Bool
is_above_behind limits effects k = is_above limits.high limits.low (capacity_of limits.capacities k) (counts_along k effects)

-- what tells that a kind came above its threshold, or left it
abbrev pub alarm_between : Kind → Bool → Bool → Option Alarm
alarm_between k false true = Some (alarm.Exceeded k)
alarm_between k true false = Some (alarm.Clear k)
alarm_between k _ _ = None

-- the alarm of a call that takes effect behind others: of the kind of the object that it makes or removes, where that comes above or leaves it
abbrev pub alarm_of : Limits → List (Call Rid) → Call Rid → Option Alarm
alarm_of limits effects c = option_and_then (λ k. alarm_between k (is_above_behind limits effects k) (is_above_behind limits (effects ++ c ∷ []) k)) (kind_changed (chip_of effects) c)

-- an alarm with the number of its effect
abbrev pub numbered_alarm : ℕ → Option Alarm → List (ℕ × Alarm)
numbered_alarm n None = []
numbered_alarm n (Some a) = (n, a) ∷ []

-- the alarms of effects behind those that are past, each with the number of its effect, the first of all being 1
abbrev pub alarms_among : Limits → List (Call Rid) → List (Call Rid) → List (ℕ × Alarm)
alarms_among limits past [] = []
alarms_among limits past (c ∷ cs) = numbered_alarm (length past + 1) (alarm_of limits past c) ++ alarms_among limits (past ++ c ∷ []) cs

-- the alarms of the effects behind the first `before`, as of a round before which there were so many
abbrev pub alarms_behind : Limits → ℕ → List (Call Rid) → List (ℕ × Alarm)
alarms_behind limits before effects = alarms_among limits (take before effects) (drop before effects)

-- whether a kind is above, as one alarm more tells
abbrev pub told_by : Kind → Bool → Alarm → Bool
told_by k before (alarm.Exceeded l) = if level l == level k then true else before
told_by k before (alarm.Clear l) = if level l == level k then false else before

-- whether the last alarm about a kind tells that it is above
abbrev pub is_told_above : Kind → List (ℕ × Alarm) → Bool
is_told_above k alarms = fold (λ before a. told_by k before a.1) false alarms
