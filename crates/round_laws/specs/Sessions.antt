-- A core and its chip within a session of the service: what steps of the service have led to, from its beginning over an empty chip. Own.
use Rattle.std.specs.Prelude.{◌≡◌, ℕ, List, [], ◌∷◌}
use Rattle.table_schema.specs.Plan.{Ports}
use Rattle.sai_types.specs.ChipState.{ChipState}
use Rattle.switch_model.specs.declared.mark.Mark.{Mark}
use Rattle.switch_model.specs.declared.mark.MarkEvent.{MarkEvent}
use Rattle.switch_model.specs.declared.mark.MarkEvent.TheVariants as event
use Rattle.restart_laws.specs.BrokenOff.{AreSteadyOverBreaks}
use Rattle.restart_laws.specs.Logged.{AreLoggedSteps, LoggedService, new_session, session_after}
use Rattle.session_laws.specs.Core.{CoreState}
use Rattle.session_laws.specs.Service.Standing.{IsServiceOf}
use Rattle.session_laws.specs.Workers.{AreByFirst}

-- steps of the service lead from its beginning to this session, and where one of them is reconciled none but the first workers, so many, has an operation under way
pub record HasComeAbout (workers : ℕ) (plan : Ports) (capacities : List ℕ) (s : LoggedService) : Type 0 where
  pub steps : List LoggedService
  pub are : AreLoggedSteps plan 4 capacities new_session steps
  pub is : session_after new_session steps ≡ s
  pub by : AreByFirst workers steps

-- a core and its chip stand for a session that has come about by so many workers, in any warm state
pub record InSession (workers : ℕ) (c : CoreState) (chip : ChipState) : Type 0 where
  pub session : LoggedService
  pub came : HasComeAbout workers c.board.plan c.sync.capacities session
  pub stands : IsServiceOf c chip session

-- none of these marks is that of the beginning of an apply
abbrev pub BeginsNoApply : MarkEvent → Type 0
BeginsNoApply (event.ApplyBegan mode waits) = ⊥
BeginsNoApply _ = Unit {0}

abbrev pub BeginNoApply : List Mark → Type 0
BeginNoApply [] = Unit {0}
BeginNoApply (mark ∷ marks) = BeginsNoApply mark.event × BeginNoApply marks

-- a core and its chip in a session, in which what goes on over applies that are broken off one after the other is steady
pub record InSteadySession (workers : ℕ) (c : CoreState) (chip : ChipState) : Type 0 where
  pub within : InSession workers c chip
  pub breaks : AreSteadyOverBreaks c.board.plan c.log.taken chip.effects c.log.marks
