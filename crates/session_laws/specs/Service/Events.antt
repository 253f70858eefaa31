-- What restarts, lists of the chip and the calls of a plan come to: steps of the service, and the session that the core stands for then. Own.
use Rattle.std.specs.Prelude.{◌≡◌, ℕ, List, []}
use Rattle.sai_types.specs.ChipState.{ChipState}
use Rattle.switch_model.specs.History.{with_mark}
use Rattle.switch_model.specs.declared.mark.MarkEvent.TheVariants as event
use Rattle.restart_laws.specs.Logged.{AreLoggedSteps, IsLoggedStep, LoggedService, session_after}
use Rattle.syncd_core.specs.Synced.{new_state}
use Rattle.flight_board.specs.Board.{new_board}
use Rattle.warm_state.specs.declared.warm.Warm.TheVariants as warm
use Rattle.session_laws.specs.Core.{CoreState, mark_at}
use Rattle.session_laws.specs.Service.Standing.{IsServiceOf}
use Rattle.session_laws.specs.Workers.{StayByFirst}

-- one step of the session leads to one of the later core and chip, with the same port plan, capacities and places of the log
pub record MakesNext (c : CoreState) (s : LoggedService) (c' : CoreState) (chip' : ChipState) : Type 0 where
  pub later : LoggedService
  pub makes : IsLoggedStep c.board.plan 4 c.sync.capacities s later
  pub stands : IsServiceOf c' chip' later
  pub plan : c'.board.plan ≡ c.board.plan
  pub capacities : c'.sync.capacities ≡ c.sync.capacities
  pub limit : c'.limit ≡ c.limit

-- so many steps do, and begin operations for this worker and those before it alone
pub record MakesMore (w : ℕ) (c : CoreState) (s : LoggedService) (c' : CoreState) (chip' : ChipState) : Type 0 where
  pub steps : List LoggedService
  pub are : AreLoggedSteps c.board.plan 4 c.sync.capacities s steps
  pub few : StayByFirst w s steps
  pub stands : IsServiceOf c' chip' (session_after s steps)
  pub plan : c'.board.plan ≡ c.board.plan
  pub capacities : c'.sync.capacities ≡ c.sync.capacities
  pub limit : c'.limit ≡ c.limit

-- a core that forgets all but its rows, what waits to be popped and its log, beside a chip that has made so many effects
abbrev pub restarted : CoreState → ℕ → CoreState
restarted c effects = record {
  tables = record c.tables { ops = [] };
  board = new_board c.board.plan c.sync.capacities;
  sync = new_state c.sync.capacities;
  waiting = [];
  log = with_mark c.log (mark_at c effects event.Restarted);
  listed = c.listed;
  limit = c.limit;
  warm = warm.Initialized;
}
