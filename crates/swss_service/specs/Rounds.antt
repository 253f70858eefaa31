-- What a round with several workers comes to. Own.
use Rattle.std.specs.Prelude.{◌≡◌, ◌⊎◌, ℕ, ◌+◌, List, ◌++◌, Result, Ok, Err}
use Rattle.swss_types.specs.declared.out_of_memory.OutOfMemory.{OutOfMemory}
use Rattle.table_schema.specs.declared.write.Sent.{Sent}
use Rattle.table_schema.specs.SentBy.{sent_of}
use Rattle.restart_laws.specs.Logged.{LoggedService}
use Rattle.session_laws.specs.Service.Standing.{IsServiceOf}
use Rattle.orch_core.specs.ComingBack.{SettlesFrom, restarts_marked}
use Rattle.orch_core.specs.declared.answer.Settled.{Settled}
use Rattle.swss_script.specs.Sent.{restarts_in}
use Rattle.swss_script.specs.declared.parts.Section.{Section}
use Rattle.intake_queue.specs.Values.{IntakeId, IsAllTaken, Receiver, Sender}
use Rattle.round_actors.specs.Follows.{FollowsTaker}
use Rattle.round_actors.specs.Round.{ActorsRan, CoreRan, own_sent}
use Rattle.round_actors.specs.declared.answers.Kept.{Kept}
use Rattle.round_actors.specs.declared.answers.Kept.TheVariants as keeps
use Rattle.swss_service.specs.CoreAndChip.{CoreAndChip}
use Rattle.swss_service.specs.Served.{IsServed, LacksPlaces}
use Rattle.swss_service.specs.declared.ending.RoundEnd.{RoundEnd}
use Rattle.swss_service.specs.declared.ending.RoundEnd.TheVariants as end

abbrev pub writes_logged : CoreAndChip → List Sent
writes_logged s = s.core.log.taken

abbrev pub restarts_logged : CoreAndChip → ℕ
restarts_logged s = restarts_marked s.core.log.marks

-- ---- behind the actors

-- the actors of the round ran, and the core took what the taker received, but the last where a refusal is kept; and places are wanting only where the log lacks them
pub record HaveActed (intake : IntakeId) (sections : List Section) (old now : CoreAndChip) (passes : List Sender) (taker : Receiver) (kept : Kept) : Type 0 where
  pub made : ℕ
  pub ran : ActorsRan intake sections passes taker kept made
  pub here : taker.intake ≡ intake
  pub follows : FollowsTaker (writes_logged old) (writes_logged now) taker.received kept
  pub marked : restarts_logged now ≡ restarts_logged old + made
  pub cause : kept ≡ keeps.LogFull → LacksPlaces now

-- and where none is kept, it took all
pub record HasTakenRest (intake : IntakeId) (sections : List Section) (old now : CoreAndChip) (passes : List Sender) (taker : Receiver) (kept : Kept) : Type 0 where
  pub acted : HaveActed intake sections old now passes taker kept
  pub all : kept ≡ keeps.Nothing → IsAllTaken taker passes

-- ---- the round

-- all acts of the sections were made: of each producer the core took all writes of its sections, each once and in order, and as many restarts were made as the sections have
pub record HasMadeAll (most : ℕ) (sections : List Section) (old now : CoreAndChip) : Type 0 where
  pub served : IsServed most old now
  pub new : List Sent
  pub taken : writes_logged now ≡ writes_logged old ++ new
  pub whole : (p : ℕ) → sent_of p new ≡ own_sent p sections
  pub restarts : restarts_logged now ≡ restarts_logged old + restarts_in sections

-- and what was made of them is settled
pub record SettlesAll (most : ℕ) (sections : List Section) (old : CoreAndChip) (r : Result Settled OutOfMemory) (new : CoreAndChip) : Type 0 where
  pub mid : CoreAndChip
  pub all : HasMadeAll most sections old mid
  pub settles : (s : LoggedService) → IsServiceOf mid.core mid.chip s → SettlesFrom s mid.core mid.chip r new.core new.chip

-- some were made, and then a refusal was kept: for want of places only where the log has fewer left than any event can need
pub record HasMadeSome (most : ℕ) (sections : List Section) (kept : Kept) (old now : CoreAndChip) : Type 0 where
  pub served : IsServed most old now
  pub ran : CoreRan sections kept (writes_logged old) (writes_logged now) (restarts_logged old) (restarts_logged now)
  pub cause : kept ≡ keeps.LogFull → LacksPlaces now

-- by how the round ended: it was settled; the log had no place for the next write, restart or call; or memory was refused, before all was taken or in the settling
abbrev pub RoundsBeside : ℕ → List Section → CoreAndChip → RoundEnd → CoreAndChip → Type 0
RoundsBeside most sections old (end.Ran r) new = SettlesAll most sections old (Ok r) new
RoundsBeside most sections old end.LogFull new = HasMadeSome most sections keeps.LogFull old new
RoundsBeside most sections old end.NoMemory new = HasMadeSome most sections keeps.NoMemory old new ⊎ ((e : OutOfMemory) × SettlesAll most sections old (Err e) new)

-- a settling by how it ends the round
abbrev pub SettlesBoth : CoreAndChip → RoundEnd → CoreAndChip → Type 0
SettlesBoth mid (end.Ran r) new = (s : LoggedService) → IsServiceOf mid.core mid.chip s → SettlesFrom s mid.core mid.chip (Ok r) new.core new.chip
SettlesBoth mid end.LogFull new = ⊥
SettlesBoth mid end.NoMemory new = (e : OutOfMemory) × ((s : LoggedService) → IsServiceOf mid.core mid.chip s → SettlesFrom s mid.core mid.chip (Err e) new.core new.chip)

abbrev pub end_of_settling : Result Settled OutOfMemory → RoundEnd
end_of_settling (Ok r) = end.Ran r
end_of_settling (Err e) = end.NoMemory
