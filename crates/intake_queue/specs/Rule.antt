-- The queue's rule: of each producer, what was received and then what is queued is what it sent, numbered from 0. Own.
use Rattle.std.specs.Prelude.{◌≡◌, ℕ, ◌+◌, ◌<◌, ◌≤◌, true, false, List, [], ◌∷◌, ◌++◌, length, map}
use mathlib.Core.Option.{Option, some, none}
use lib.ListN.{get_elem?}
use Rattle.table_schema.specs.declared.write.Sent.{Sent}
use Rattle.intake_queue.specs.declared.intake.TheConstants.{PLACES}
use Rattle.intake_queue.specs.declared.known.Known.{Known}
use Rattle.table_schema.specs.SentBy.{sent_of}
use Rattle.intake_queue.specs.ReadWrites.{AreReadWrites, IsReadWrite}
use Rattle.intake_queue.specs.Writes.{IsNumbered, IsOther}

-- ---- what passes know

-- a producer's pass, that of the taker, which made the first passes, and one that is spent
abbrev pub producer : ℕ → List Sent → Known
producer p sent = record { sends = true; from = p; sent = sent; takes = false; made = 0; received = [] }

abbrev pub taker : ℕ → List Sent → Known
taker made received = record { sends = false; from = 0; sent = []; takes = true; made = made; received = received }

abbrev pub nobody : Known
nobody = record { sends = false; from = 0; sent = []; takes = false; made = 0; received = [] }

-- a pass without its producer's part, that part alone, and a pass that was given the part of another
abbrev pub without_part : Known → Known
without_part v = record v { sends = false; from = 0; sent = [] }

abbrev pub only_part : Known → Known
only_part v = record v { takes = false; made = 0; received = [] }

abbrev pub with_part : Known → Known → Known
with_part v w = record v { sends = w.sends; from = w.from; sent = w.sent }

-- a taker that made one pass more, and a pass after a send and after a receipt
abbrev pub one_more : Known → Known
one_more v = record v { made = v.made + 1 }

abbrev pub after_send : Known → Sent → Known
after_send v x = record v { sent = v.sent ++ x ∷ [] }

abbrev pub after_receipt : Known → Sent → Known
after_receipt v x = record v { received = v.received ++ x ∷ [] }

-- ---- what steps tell

-- one write more was received: the next of its producer, which was read
abbrev pub IsReceived : Known → Sent → Known → Type 0
IsReceived v x w = (w ≡ after_receipt v x) × (0 < x.from) × (x.from ≤ v.made) × (x.number ≡ length (sent_of x.from v.received)) × IsReadWrite x.write

-- what a producer sent is what was received of it, and then what is queued of it
abbrev pub IsHalfway : Known → List Sent → Type 0
IsHalfway v queued = (received : List Sent) × (sent_of v.from (received ++ queued) ≡ v.sent)

-- the same, by one who knows what was received
abbrev pub IsWholePass : Known → List Sent → Type 0
IsWholePass v queued = (sent_of v.from (v.received ++ queued) ≡ v.sent) × (length queued ≤ PLACES)

-- of each sender, what was received and then what is queued is numbered from 0
abbrev pub IsNumberedOn : Known → List Sent → Type 0
IsNumberedOn v queued = (p : ℕ) → IsNumbered 0 (sent_of p (v.received ++ queued))

-- nothing was received of any that is no producer
abbrev pub HasNoOthers : Known → List Sent → Type 0
HasNoOthers v queued = (p : ℕ) → IsOther v.made p → sent_of p v.received ≡ []

-- ---- the rule

-- a producer's part is in one pass, which knows what was sent
abbrev pub FitsProducer : (ℕ → Option ℕ) → (ℕ → List Sent) → ℕ → Known → Type 0
FitsProducer seat sent pass v = v.sends ≡ true → (seat v.from ≡ some pass) × (v.sent ≡ sent v.from)

-- the taker's part is in one pass, which knows what was received, and that none sent but over the passes that it made
abbrev pub FitsTaker : ℕ → (ℕ → Option ℕ) → (ℕ → List Sent) → List Sent → ℕ → Known → Type 0
FitsTaker reader seat sent received pass v = v.takes ≡ true → (pass ≡ reader) × (v.received ≡ received) × ((p : ℕ) → IsOther v.made p → (seat p ≡ none) × (sent p ≡ []))

-- the pass in which the taker's part is, that of each producer's part, what each sent, and what was received; and what holds of
-- them, of what is queued and of what each pass knows
pub record IsInOrder (queued : List Sent) (views : List Known) : Type 0 where
  pub reader : ℕ
  pub seat : ℕ → Option ℕ
  pub sent : ℕ → List Sent
  pub received : List Sent
  pub balance : (p : ℕ) → sent_of p (received ++ queued) ≡ sent p
  pub numbered : (p : ℕ) → IsNumbered 0 (sent p)
  pub room : length queued ≤ PLACES
  pub read : AreReadWrites (map (λ s. s.write) queued)
  pub producers : (pass : ℕ) (v : Known) → get_elem? views pass ≡ some v → FitsProducer seat sent pass v
  pub takers : (pass : ℕ) (v : Known) → get_elem? views pass ≡ some v → FitsTaker reader seat sent received pass v
