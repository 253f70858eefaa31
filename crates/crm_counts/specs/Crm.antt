-- The counters of resources, as contracts see them (SONiC CRM). Own.
use Rattle.std.specs.Prelude.{◌≡◌, ℕ, ◌≤◌, List, length}
use Rattle.sai_types.specs.declared.ids.Rid.{Rid}
use Rattle.sai_types.specs.declared.body.Call.{Call}
use Rattle.crm_counts.specs.declared.alarm.Alarm.{Alarm}
use Rattle.crm_counts.specs.Alarms.{Limits, alarms_behind}
use Rattle.crm_counts.specs.Counted.{AreCountsOf, Counted}

-- the capacities and thresholds, what is kept of the chip of the effects given, how many these are, and the alarms of the round
pub record CrmState : Type 0 where
  pub limits : Limits
  pub counts : Counted
  pub effects : ℕ
  pub alarms : List (ℕ × Alarm)

-- the counters were given exactly these effects, and all but the first `before` of them in this round
pub record IsCrmOf (crm : CrmState) (before : ℕ) (effects : List (Call Rid)) : Type 0 where
  pub counts : AreCountsOf crm.limits crm.counts effects
  pub number : crm.effects ≡ length effects
  pub within : before ≤ length effects
  pub alarms : crm.alarms ≡ alarms_behind crm.limits before effects
