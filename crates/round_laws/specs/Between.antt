-- A core between two rounds, and in a round. Own.
use Rattle.std.specs.Prelude.{◌≡◌, ◌⊎◌, ◌++◌, ℕ, List, [], length, Option, Some, None}
use Rattle.table_schema.specs.declared.key.Key.{Key}
use Rattle.table_schema.specs.declared.write.Sent.{Sent}
use Rattle.sai_types.specs.declared.body.Call.{Call}
use Rattle.sai_types.specs.declared.ids.Rid.{Rid}
use Rattle.sai_types.specs.Alike.{IsIn}
use Rattle.sai_types.specs.ChipState.{ChipState}
use Rattle.switch_model.specs.History.{with_end, with_mark}
use Rattle.switch_model.specs.Marks.{sent_writes}
use Rattle.switch_model.specs.declared.mark.Mark.{Mark}
use Rattle.producer_table.specs.Pending.{ArePendingInOrder}
use Rattle.switch_machine.specs.Written.{HasNoWrite}
use Rattle.machine_laws.specs.Logged.{ListsKey}
use Rattle.restart_laws.specs.Logged.{last_mark}
use Rattle.sync_tables.specs.Tables.{IsToSync, written_in}
use Rattle.flight_board.specs.Applied.{row_at}
use Rattle.warm_state.specs.declared.warm.Warm.TheVariants as warm
use Rattle.session_laws.specs.Core.{CoreState}
use Rattle.session_laws.specs.Turning.{IsAtRest}
use Rattle.round_laws.specs.Ended.{CountsCalls, EndedRound, LeavesRows, LeavesSettled, applied_since, waits_since}
use Rattle.round_laws.specs.Named.{keys_named}
use Rattle.round_laws.specs.Quiet.{LeavesQuietRows}
use Rattle.round_laws.specs.Sessions.{InSession}
use Rattle.round_laws.specs.Turns.{IsMadeByTurns}

-- the last mark
abbrev pub mark_of : CoreState → Option Mark
mark_of c = last_mark None c.log.marks

-- a core in a session, at rest since this mark, or since its beginning: no worker has anything under way, and no write waits; the rows that are applied are those that the mark tells, the keys that it lists are to sync, and it counts the writes taken and the calls made
pub record IsAtRestSince (workers : ℕ) (since : Option Mark) (c : CoreState) (chip : ChipState) : Type 0 where
  pub within : InSession workers c chip
  pub rest : IsAtRest c
  pub tells : LeavesRows since
  pub first : since ≡ None → (c.log.taken ≡ []) × (chip.effects ≡ [])
  pub taken : (mark : Mark) → since ≡ Some mark → mark.taken ≡ length c.log.taken
  pub effects : (mark : Mark) → since ≡ Some mark → CountsCalls mark.event mark.effects (length chip.effects)
  pub applied : (k : Key) → row_at c.board.applied k ≡ applied_since c.board.plan c.log.taken since k
  pub to_sync : (k : Key) → IsToSync c.tables k → ListsKey k (waits_since since)
  pub listed : (k : Key) → ListsKey k (waits_since since) → IsToSync c.tables k

-- a core in a session between two rounds: it is at rest since the mark at which a settling ended, its last, or since its beginning
pub record IsBetweenRounds (workers : ℕ) (c : CoreState) (chip : ChipState) : Type 0 where
  pub resting : IsAtRestSince workers (mark_of c) c chip
  pub settled : LeavesSettled (mark_of c)

-- a core in a session that a round may begin with: its writes wait in order; and it is between two rounds, or suspect since a fault
pub record IsReadyForRound (workers : ℕ) (c : CoreState) (chip : ChipState) : Type 0 where
  pub within : InSession workers c chip
  pub order : ArePendingInOrder c.tables.waiting
  pub between : c.warm ≡ warm.Reconciled → IsBetweenRounds workers c chip
  pub warm : (c.warm ≡ warm.Reconciled) ⊎ (c.warm ≡ warm.Suspect)

-- in a round that began with the old core, at rest since this mark, these writes were taken, and nothing else was done: they wait
pub record IsInRound (workers : ℕ) (since : Option Mark) (old : CoreState) (chip : ChipState) (sent : List Sent) (c : CoreState) : Type 0 where
  pub began : IsAtRestSince workers since old chip
  pub within : InSession workers c chip
  pub log : c.log ≡ record old.log { taken = old.log.taken ++ sent }
  pub board : c.board ≡ old.board
  pub sync : c.sync ≡ old.sync
  pub warm : c.warm ≡ old.warm
  pub ops : c.tables.ops ≡ old.tables.ops
  pub order : ArePendingInOrder c.tables.waiting
  pub named : (k : Key) → IsIn k (keys_named sent) → HasNoWrite (written_in (sent_writes c.log.taken) c.tables) k → ⊥
  pub unnamed : (k : Key) → (IsIn k (keys_named sent) → ⊥) → HasNoWrite (written_in (sent_writes c.log.taken) c.tables) k

-- the round that began with this core and chip, at rest since this mark, and in which these writes were taken and these calls took effect up to this mark
abbrev pub round_from : Option Mark → CoreState → ChipState → List Sent → List (Call Rid) → Mark → EndedRound
round_from since old chip sent calls mark = record { before = since; taken = old.log.taken; effects = chip.effects; sent = sent; calls = calls; mark = mark }

-- a round ended with its settling: the log has its writes, its mark and its end; its calls are those of the turns that its mark counts, and leave quiet rows alone; and the later core is between two rounds
pub record RoundEnds (workers : ℕ) (since : Option Mark) (old : CoreState) (chip : ChipState) (sent : List Sent) (c : CoreState) (chip' : ChipState) : Type 0 where
  pub calls : List (Call Rid)
  pub mark : Mark
  pub effects : chip'.effects ≡ chip.effects ++ calls
  pub log : c.log ≡ with_end (with_mark (record old.log { taken = old.log.taken ++ sent }) mark)
  pub made : IsMadeByTurns old.board.plan old.sync.capacities (round_from since old chip sent calls mark)
  pub quiet : LeavesQuietRows old.board.plan (round_from since old chip sent calls mark)
  pub later : IsBetweenRounds workers c chip'
  pub plan : c.board.plan ≡ old.board.plan
  pub capacities : c.sync.capacities ≡ old.sync.capacities
