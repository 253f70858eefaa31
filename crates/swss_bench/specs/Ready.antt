-- Passes that may send. Own.
use Rattle.std.specs.Prelude.{◌≡◌, ◌+◌, ◌*◌, ◌<◌, ◌≤◌, ◌^◌, ℕ, [], length}
use Rattle.intake_queue.specs.Values.{IntakeId, Sender}

-- no intake
abbrev pub nowhere : IntakeId
nowhere = record { queue = record { words = 0; slots = 0; views_name = 0; atom = 0; block = 0; offset = 0; slot_names = [] }; producers = 0 }

-- the pass is of the intake, and sent what so many tenths may have
pub record IsQueueReady (intake : IntakeId) (tenths : ℕ) (s : Sender) : Type 0 where
  pub here : s.queue ≡ intake.queue
  pub few : length s.sent ≤ tenths * 4294967296

-- the pass is of the intake, and sent few enough to send one more
pub record CanSend (intake : IntakeId) (s : Sender) : Type 0 where
  pub here : s.queue ≡ intake.queue
  pub few : length s.sent < 2 ^ 62

-- the same pass, which sent one more
pub record SentOne (old new : Sender) : Type 0 where
  pub here : new.queue ≡ old.queue
  pub more : length new.sent ≡ length old.sent + 1
