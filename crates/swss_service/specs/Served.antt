-- What the core of a round keeps from its opening on, and what its events are. Own.
use Rattle.std.specs.Prelude.{ℕ, ◌+◌, ◌<◌, List, length, Ok}
use Rattle.table_schema.specs.declared.write.Sent.{Sent}
use Rattle.switch_model.specs.declared.mark.Mark.{Mark}
use Rattle.restart_laws.specs.Logged.{LoggedService}
use Rattle.session_laws.specs.Core.{size_beside}
use Rattle.session_laws.specs.Service.Standing.{IsServiceOf}
use Rattle.round_laws.specs.Named.{keys_named}
use Rattle.orch_core.specs.Restarting.{StepsFrom}
use Rattle.orch_core.specs.declared.answer.Step.{Step}
use Rattle.orch_core.specs.declared.answer.Step.TheVariants as core_steps
use Rattle.round_actors.specs.declared.answers.Step.{Step as Told}
use Rattle.round_actors.specs.declared.answers.Step.TheVariants as steps
use Rattle.swss_service.specs.CoreAndChip.{CoreAndChip}
use Rattle.swss_service.specs.Going.{HasGoneOn}

-- it has gone on from the opening, by workers whose numbers are at most this one
abbrev pub IsServed : ℕ → CoreAndChip → CoreAndChip → Type 0
IsServed most opening now = (taken : List Sent) × (marks : List Mark) × HasGoneOn most opening now.core now.chip taken marks

-- from whatever opening it had gone on, it has gone on still
abbrev pub StaysServed : CoreAndChip → CoreAndChip → Type 0
StaysServed old new = (most : ℕ) (opening : CoreAndChip) → IsServed most opening old → IsServed most opening new

-- the log has fewer places left than any event can need: 2, and 1 for each key that the writes taken name
abbrev pub LacksPlaces : CoreAndChip → Type 0
LacksPlaces s = s.core.limit < size_beside s.core (length s.chip.effects) + 2 + length (keys_named s.core.log.taken)

-- what a worker is told of the core's answer
abbrev pub told_step : Step → Told
told_step core_steps.Did = steps.Did
told_step core_steps.Idle = steps.Idle
told_step core_steps.Suspect = steps.Suspect
told_step core_steps.Faulted = steps.Faulted
told_step core_steps.LogFull = steps.LogFull

-- and what the core answered
abbrev pub core_step : Told → Step
core_step steps.Did = core_steps.Did
core_step steps.Idle = core_steps.Idle
core_step steps.Suspect = core_steps.Suspect
core_step steps.Faulted = core_steps.Faulted
core_step steps.LogFull = core_steps.LogFull

-- the core made an event of the worker, with this answer
abbrev pub MakesCoreEvent : CoreAndChip → ℕ → Told → CoreAndChip → Type 0
MakesCoreEvent old worker told new = (s : LoggedService) → IsServiceOf old.core old.chip s → StepsFrom old.core.warm worker s old.core old.chip (Ok (core_step told)) new.core new.chip
