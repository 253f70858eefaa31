-- Steps of a core that lead to a later session, in which nothing or one mark is logged: answers, pops, and whole settlings. Own.
use Rattle.std.specs.Prelude.{◌≡◌, ◌++◌, ◌<◌, ℕ, List, [], map, None}
use Rattle.sai_types.specs.declared.body.Call.{Call}
use Rattle.sai_types.specs.declared.ids.Rid.{Rid}
use Rattle.sai_types.specs.ChipState.{ChipState}
use Rattle.switch_model.specs.History.{no_history}
use Rattle.switch_machine.specs.Events.{AreAnswers, IsQuiet, SwitchState, after_answers}
use Rattle.machine_laws.specs.Logged.{ArePops, IsWholeSettling, LoggedSwitch, after_pops}
use Rattle.restart_laws.specs.Logged.{AreLoggedSteps, LoggedService, session_after, switch_of}
use Rattle.flight_board.specs.Board.{flown_at}
use Rattle.session_laws.specs.Core.{CoreState}
use Rattle.session_laws.specs.Standing.{IsSessionOf}
use Rattle.session_laws.specs.Workers.{StayByFirst}
use Rattle.warm_state.specs.declared.warm.Warm.TheVariants as warm

-- steps of the session lead to this one, which is that of the later core and chip, and begin operations for the first worker alone
pub record LeadsTo (c : CoreState) (s later : LoggedService) (c' : CoreState) (chip' : ChipState) : Type 0 where
  pub steps : List LoggedService
  pub are : AreLoggedSteps c.board.plan 4 c.sync.capacities s steps
  pub few : StayByFirst 0 s steps
  pub is : session_after s steps ≡ later
  pub stands : IsSessionOf c' chip' later
  pub plan : c'.board.plan ≡ c.board.plan
  pub capacities : c'.sync.capacities ≡ c.sync.capacities
  pub limit : c'.limit ≡ c.limit

-- the calls of answers
abbrev pub calls_in : List (Call Rid × SwitchState) → List (Call Rid)
calls_in answers = map (λ (a : Call Rid × SwitchState). a.0) answers

-- answers alone lead there
pub record RunsTo (c : CoreState) (s : LoggedService) (c' : CoreState) (chip' : ChipState) : Type 0 where
  pub later : LoggedService
  pub leads : LeadsTo c s later c' chip'
  pub answers : List (Call Rid × SwitchState)
  pub are : AreAnswers c.board.plan 4 s.service.core answers
  pub core : later.service.core ≡ after_answers s.service.core answers
  pub effects : later.effects ≡ s.effects ++ calls_in answers
  pub log : later.log ≡ s.log

-- pops alone lead there
pub record PopsTo (c : CoreState) (s : LoggedService) (c' : CoreState) (chip' : ChipState) : Type 0 where
  pub later : LoggedService
  pub leads : LeadsTo c s later c' chip'
  pub pops : List SwitchState
  pub are : ArePops s.service.core pops
  pub core : later.service.core ≡ after_pops s.service.core pops
  pub effects : later.effects ≡ s.effects
  pub log : later.log ≡ s.log

-- a state of the machine alone, with calls that took effect
abbrev pub with_calls : SwitchState → List (Call Rid) → LoggedSwitch
with_calls s calls = record { switch = s; log = no_history; effects = calls }

-- the switch with its log and effects, once so many answers were given
abbrev pub switch_answered : LoggedService → List (Call Rid × SwitchState) → LoggedSwitch
switch_answered s answers = record { switch = after_answers s.service.core answers; log = s.log; effects = s.effects ++ calls_in answers }

-- a settling of a core that is reconciled: what workers left is run to its end, and then there is a whole settling, which ends at its mark
pub record SettlesTo (c : CoreState) (s : LoggedService) (c' : CoreState) (chip' : ChipState) : Type 0 where
  pub later : LoggedService
  pub leads : LeadsTo c s later c' chip'
  pub answers : List (Call Rid × SwitchState)
  pub are : AreAnswers c.board.plan 4 s.service.core answers
  pub quiet : IsQuiet (after_answers s.service.core answers)
  pub settling : IsWholeSettling c.board.plan 4 c.sync.capacities (switch_answered s answers) (switch_of later)
  pub free : (v : ℕ) → v < 4 → flown_at c'.board v ≡ None
  pub popped : c'.tables.waiting ≡ []
  pub warm : c'.warm ≡ warm.Reconciled
