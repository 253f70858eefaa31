-- How a core and its chip go on from the opening of a round, before it is settled. Own.
use Rattle.std.specs.Prelude.{◌≡◌, ℕ, List, ◌++◌}
use Rattle.table_schema.specs.declared.write.Sent.{Sent}
use Rattle.sai_types.specs.ChipState.{ChipState}
use Rattle.switch_model.specs.declared.mark.Mark.{Mark}
use Rattle.restart_laws.specs.Logged.{LoggedService}
use Rattle.session_laws.specs.Core.{CoreState}
use Rattle.session_laws.specs.Service.Events.{MakesMore}
use Rattle.session_laws.specs.Service.Standing.{IsServiceOf}
use Rattle.orch_core.specs.Outcomes.{IsWithinLimit}
use Rattle.orch_core.specs.Restarting.{IsInService}
use Rattle.swss_service.specs.CoreAndChip.{CoreAndChip}
use Rattle.swss_service.specs.Faults.{FaultsRise}

-- whichever session the opening stands for, steps led from it to one that core and chip stand for, and began operations for this worker and those before it alone; these writes were taken and these marks made, and no round ended; each fault has its mark; the log is within its limit where it was; and the chip fails where it was made to
pub record HasGoneOn (most : ℕ) (opening : CoreAndChip) (core : CoreState) (chip : ChipState) (taken : List Sent) (marks : List Mark) : Type 0 where
  pub began : IsInService opening.core opening.chip
  pub steps : (s : LoggedService) → IsServiceOf opening.core opening.chip s → MakesMore most opening.core s core chip
  pub log : core.log ≡ record { taken = opening.core.log.taken ++ taken; marks = opening.core.log.marks ++ marks; ends = opening.core.log.ends }
  pub faults : FaultsRise opening.chip.faults marks chip.faults
  pub places : IsWithinLimit opening.core opening.chip → IsWithinLimit core chip
  pub fails : chip.fails ≡ opening.chip.fails
