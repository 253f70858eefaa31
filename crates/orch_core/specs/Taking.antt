-- What the core makes of a write that comes. Own.
use Rattle.std.specs.Prelude.{◌≡◌, ℕ, Result, Ok, Err}
use Rattle.table_schema.specs.declared.write.Sent.{Sent}
use Rattle.swss_types.specs.declared.out_of_memory.OutOfMemory.{OutOfMemory}
use Rattle.sai_types.specs.ChipState.{ChipState}
use Rattle.restart_laws.specs.Logged.{LoggedService}
use Rattle.session_laws.specs.Core.{CoreState, IsFullFor, with_taken}
use Rattle.session_laws.specs.Events.{MakesOne}
use Rattle.session_laws.specs.Service.Events.{MakesNext}
use Rattle.orch_core.specs.declared.answer.TakeFault.{TakeFault}
use Rattle.orch_core.specs.declared.answer.TakeFault.TheVariants as fault

-- it is taken; or the log has no place for it, and it comes back
abbrev pub TakesSent : CoreState → Sent → ℕ → Result (Unit {0}) TakeFault → CoreState → Type 0
TakesSent c sent effects (Ok _) c' = (c' ≡ with_taken c sent) × (IsFullFor c effects 1 → ⊥)
TakesSent c sent effects (Err (fault.LogFull back)) c' = (c' ≡ c) × (back ≡ sent) × IsFullFor c effects 1

-- a write that is taken is one step of the session, a Take of the machine with its place in the log
abbrev pub TakesStep : LoggedService → CoreState → ChipState → Result (Result (Unit {0}) TakeFault) OutOfMemory → CoreState → Type 0
TakesStep s c chip (Ok (Ok _)) c' = MakesOne c s c' chip
TakesStep s c chip _ c' = c' ≡ c

-- and one of the service's, in any warm state
abbrev pub TakesNext : LoggedService → CoreState → ChipState → Result (Result (Unit {0}) TakeFault) OutOfMemory → CoreState → Type 0
TakesNext s c chip (Ok (Ok _)) c' = MakesNext c s c' chip
TakesNext s c chip _ c' = c' ≡ c
