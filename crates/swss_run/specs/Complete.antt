-- When a run comes to its end. Own.
use Rattle.std.specs.Prelude.{◌≡◌, ◌⊎◌, ◌+◌, ◌≤◌, false, length, Option, Some, None, List}
use Rattle.std.specs.List.{AllByRecursion}
use Rattle.sai_types.specs.ChipState.{ChipState}
use Rattle.switch_model.specs.History.{History, log_size}
use Rattle.switch_model.specs.Sound.{is_fault}
use Rattle.switch_model.specs.declared.mark.Mark.{Mark}
use Rattle.round_laws.specs.Named.{keys_named}
use Rattle.swss_run.specs.Session.{log_limit}
use Rattle.swss_run.specs.declared.outcome.Outcome.{Outcome}
use Rattle.swss_run.specs.declared.status.Status.TheVariants as status

-- no call of the chip failed, where there is one, and the log has as many places left as any event can need: 2, and 1 for each key that was written
abbrev pub IsUnhinderedBy : History → Option ChipState → Type 0
IsUnhinderedBy log None = Unit {0}
IsUnhinderedBy log (Some sim) = (sim.faults ≡ 0) × (log_size log (length sim.effects) + 2 + length (keys_named log.taken) ≤ log_limit)

-- no mark is that of a fault, so each round that ended did so at the mark of its settling
abbrev pub HaveNoFault : List Mark → Type 0
HaveNoFault marks = AllByRecursion (λ (m : Mark). is_fault m.event ≡ false) marks

-- the run came to its end, or memory was refused; and no round ended at a fault
pub record ComesToEnd (outcome : Outcome) : Type 0 where
  pub status : (outcome.status ≡ status.Done) ⊎ (outcome.status ≡ status.OutOfMemory)
  pub marks : HaveNoFault outcome.log.marks
