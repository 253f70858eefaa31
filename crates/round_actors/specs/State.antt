-- What contracts see of the value under the lock. Own.
use Rattle.std.specs.Prelude.{ℕ}
use Rattle.intake_queue.specs.Values.{Receiver}
use Rattle.round_actors.specs.declared.answers.Kept.{Kept}

-- its core, its taker, the refusal that it keeps, how many restarts were made in this round, and how many producers ended
pub record SharedState (K : Type 0) : Type 0 where
  pub core : K
  pub taker : Receiver
  pub refusal : Kept
  pub restarts : ℕ
  pub ended : ℕ
