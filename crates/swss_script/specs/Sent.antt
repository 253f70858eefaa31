-- The writes of a round as its producers send them. Own.
use Rattle.std.specs.Prelude.{ℕ, ◌+◌, ◌==◌, Bool, List, [], ◌∷◌, ◌++◌, map, count_by}
use Rattle.std.specs.List.{list_any}
use Rattle.table_schema.specs.declared.write.Sent.{Sent}
use Rattle.table_schema.specs.declared.write.Write.{Write}
use Rattle.swss_script.specs.Sections.{acts_of, restarts_of}
use Rattle.swss_script.specs.declared.parts.Round.{Round}
use Rattle.swss_script.specs.declared.parts.Section.{Section}

-- the writes of sections in order, each with its producer
abbrev pub writes_in : List Section → List (ℕ × Write)
writes_in [] = []
writes_in (section ∷ sections) = map (λ w. (section.producer, w)) (acts_of section.acts) ++ writes_in sections

-- how many restarts sections have
abbrev pub restarts_in : List Section → ℕ
restarts_in [] = 0
restarts_in (section ∷ sections) = restarts_of section.acts + restarts_in sections

-- the next write of a producer: its number is how many the producer sent before
abbrev pub next_sent : List Sent → ℕ × Write → Sent
next_sent sent next = record { from = next.0; number = count_by (λ s. s.from == next.0) sent; write = next.1 }

-- what was sent in a round, and then these writes
abbrev pub sent_after : List Sent → List (ℕ × Write) → List Sent
sent_after sent [] = sent
sent_after sent (next ∷ more) = sent_after (sent ++ next_sent sent next ∷ []) more

-- the writes of a round in order, each with its producer
abbrev pub round_acts : Round → List (ℕ × Write)
round_acts round = writes_in round.sections

-- the writes of a round as they are sent, in the order of the script
abbrev pub sent_in_round : Round → List Sent
sent_in_round round = sent_after [] (round_acts round)

-- ---- a producer's part of it

-- the writes of a producer, numbered from a number on
abbrev pub sent_by : ℕ → ℕ → List Write → List Sent
sent_by producer number [] = []
sent_by producer number (write ∷ writes) = record { from = producer; number = number; write = write } ∷ sent_by producer (number + 1) writes

-- some section is the producer's
abbrev pub has_section : List Section → ℕ → Bool
has_section sections producer = list_any (λ section. section.producer == producer) sections
