-- What contracts see of an intake, of its passes and of its taker. Own.
use Rattle.std.specs.Prelude.{◌≡◌, ℕ, zero, suc, ◌+◌, ◌<◌, ◌≤◌, List, [], ◌∷◌, ◌++◌, length, map, slice_index_or, All}
use Rattle.atomic_table.specs.Seated.{TableId}
use Rattle.table_schema.specs.declared.write.Sent.{Sent}
use Rattle.table_schema.specs.declared.write.Write.{Write}
use Rattle.table_schema.specs.SentBy.{sent_of}
use Rattle.intake_queue.specs.ReadWrites.{IsReadWrite}
use Rattle.intake_queue.specs.declared.intake.TheConstants.{PLACES}

-- which queue it is, and how many producers it has
pub record IntakeId : Type 0 where
  pub queue : TableId
  pub producers : ℕ

-- a producer's pass: its queue, whose it is, and what was sent over it
pub record Sender : Type 0 where
  pub queue : TableId
  pub from : ℕ
  pub sent : List Sent

-- the taker: its intake, and what it received
pub record Receiver : Type 0 where
  pub intake : IntakeId
  pub received : List Sent

-- ---- one step

-- the write as this producer's next
abbrev pub sent_next : Sender → Write → Sent
sent_next s write = record { from = s.from; number = length s.sent; write = write }

abbrev pub with_sent : Sender → Write → Sender
with_sent s write = record s { sent = s.sent ++ sent_next s write ∷ [] }

abbrev pub with_received : Receiver → Sent → Receiver
with_received t w = record t { received = t.received ++ w ∷ [] }

abbrev pub new_receiver : IntakeId → Receiver
new_receiver intake = record { intake = intake; received = [] }

-- the write is of a producer, the next of it by its number, and was read
pub record IsNext (t : Receiver) (w : Sent) : Type 0 where
  pub producer : (0 < w.from) × (w.from ≤ t.intake.producers)
  pub number : w.number ≡ length (sent_of w.from t.received)
  pub read : IsReadWrite w.write

-- ---- all passes

-- these are all passes of an intake, in the order of its producers
pub record AreAllPasses (intake : IntakeId) (passes : List Sender) : Type 0 where
  pub count : length passes ≡ intake.producers
  pub each : (i : ℕ) (d : Sender) → i < length passes → ((slice_index_or passes i d).queue ≡ intake.queue) × ((slice_index_or passes i d).from ≡ i + 1)

-- all passes of an intake over which nothing was sent
pub record AreNew (intake : IntakeId) (passes : List Sender) : Type 0 where
  pub all : AreAllPasses intake passes
  pub unsent : All (λ s. s.sent ≡ []) passes

-- what was sent over the pass of the producer p, the p-th of these
abbrev pub sent_over : ℕ → List Sender → List Sent
sent_over zero passes = []
sent_over (suc i) [] = []
sent_over (suc zero) (s ∷ ss) = s.sent
sent_over (suc (suc i)) (s ∷ ss) = sent_over (suc i) ss

-- what was received of a sender is the front of what it sent, and no more writes than the queue has places are still queued
pub record IsFront (received sent : List Sent) : Type 0 where
  pub queued : List Sent
  pub whole : received ++ queued ≡ sent
  pub few : length queued ≤ PLACES

-- so it is of each sender
abbrev pub IsMet : Receiver → List Sender → Type 0
IsMet t passes = (p : ℕ) → IsFront (sent_of p t.received) (sent_over p passes)

-- of each sender, what was received is what it sent
abbrev pub IsAllTaken : Receiver → List Sender → Type 0
IsAllTaken t passes = (p : ℕ) → sent_of p t.received ≡ sent_over p passes

-- how many writes were sent over each pass
abbrev pub numbers_of : List Sender → List ℕ
numbers_of passes = map (λ s. length s.sent) passes
