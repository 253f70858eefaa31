-- What each call of the core comes to: steps of the service, and the session that it stands for then. Own.
use Rattle.std.specs.Prelude.{◌≡◌, ◌++◌, ℕ, List, [], ◌∷◌, Option, Some, None}
use Rattle.sai_types.specs.declared.answer.SyncAnswer.{SyncAnswer}
use Rattle.sai_types.specs.declared.answer.SyncAnswer.TheVariants as sync
use Rattle.sai_types.specs.declared.body.Call.{Call}
use Rattle.sai_types.specs.declared.ids.Rid.{Rid}
use Rattle.sai_types.specs.declared.ids.Vid.{Vid}
use Rattle.sai_types.specs.declared.kind.Kind.{Kind}
use Rattle.sai_types.specs.ChipState.{ChipState}
use Rattle.sai_types.specs.Objects.{Objects, used}
use Rattle.switch_model.specs.Marks.{Waiting}
use Rattle.switch_machine.specs.Events.{SwitchState, with_made_call}
use Rattle.switch_machine.specs.Reasons.{IsReason}
use Rattle.ref_counts.specs.Room.{number_of_kind}
use Rattle.restart_laws.specs.Logged.{AreLoggedSteps, IsLoggedStep, LoggedService, session_after}
use Rattle.flight_board.specs.Applied.{row_at}
use Rattle.session_laws.specs.Core.{CoreState}
use Rattle.session_laws.specs.Standing.{IsSessionOf}
use Rattle.session_laws.specs.Workers.{StayByFirst}

-- one step of the session leads to one of the later core and chip, with the same port plan, capacities and places of the log
pub record MakesOne (c : CoreState) (s : LoggedService) (c' : CoreState) (chip' : ChipState) : Type 0 where
  pub later : LoggedService
  pub makes : IsLoggedStep c.board.plan 4 c.sync.capacities s later
  pub stands : IsSessionOf c' chip' later
  pub plan : c'.board.plan ≡ c.board.plan
  pub capacities : c'.sync.capacities ≡ c.sync.capacities
  pub limit : c'.limit ≡ c.limit

-- the session behind an event of the machine, with the call that took effect in it
abbrev pub session_with : LoggedService → SwitchState → Option (Call Rid) → LoggedService
session_with s core call = record { service = record { warm = s.service.warm; core = core; seen = s.service.seen; left = s.service.left }; log = s.log; effects = s.effects ++ with_made_call call [] }

-- the machine alone went on, with this call: nothing was logged
abbrev pub IsMachineStep : LoggedService → Option (Call Rid) → LoggedService → Type 0
IsMachineStep s call t = t ≡ session_with s t.service.core call

-- so many steps do, and begin operations for the first worker alone
pub record MakesSome (c : CoreState) (s : LoggedService) (c' : CoreState) (chip' : ChipState) : Type 0 where
  pub steps : List LoggedService
  pub are : AreLoggedSteps c.board.plan 4 c.sync.capacities s steps
  pub few : StayByFirst 0 s steps
  pub stands : IsSessionOf c' chip' (session_after s steps)
  pub plan : c'.board.plan ≡ c.board.plan
  pub capacities : c'.sync.capacities ≡ c.sync.capacities
  pub limit : c'.limit ≡ c.limit

-- the identifier of what a call made
abbrev pub vid_made_by : SyncAnswer → Option Vid
vid_made_by (sync.Made v) = Some v
vid_made_by _ = None

-- these numbers are those of the objects of each kind
abbrev pub CountObjects : Objects → List ℕ → Type 0
CountObjects objects numbers = (kind : Kind) → number_of_kind numbers kind ≡ used objects kind

-- each listed key has a true reason and its applied row
abbrev pub HaveReasons : CoreState → SwitchState → Waiting → Type 0
HaveReasons c s [] = Unit {0}
HaveReasons c s (w ∷ ws) = IsReason c.board.plan 4 c.sync.capacities s w.0 w.1 × (w.2 ≡ row_at c.board.applied w.0) × HaveReasons c s ws
