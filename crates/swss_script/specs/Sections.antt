-- The writes of a script, and those of its lines, each with its round and the name of its producer. Own.
use Rattle.std.specs.Prelude.{ℕ, ◌+◌, ◌-◌, ◌==◌, Bool, false, not, ◌&&◌, List, [], ◌∷◌, ◌++◌, map, filter, slice_index_or, Some, option_and_then, bytes_eq, if◌then◌else◌}
use Rattle.table_schema.specs.declared.write.Write.{Write}
use Rattle.swss_script.specs.Batch.{batch_of}
use Rattle.swss_script.specs.Line.{is_block, script_line_of}
use Rattle.swss_script.specs.Lines.{block_of, is_end, line_text, lines_in}
use Rattle.swss_script.specs.declared.line.Line.{Line}
use Rattle.swss_script.specs.declared.line.Line.TheVariants.{Producer, Put, Batch, Settle}
use Rattle.swss_script.specs.declared.parts.Act.{Act}
use Rattle.swss_script.specs.declared.parts.Act.TheVariants as act
use Rattle.swss_script.specs.declared.parts.Round.{Round}
use Rattle.swss_script.specs.declared.parts.Section.{Section}
use Rattle.swss_script.specs.declared.script.Script.{Script}

-- a write of a round, counted from 1, by the producer of this name
pub record PlacedWrite : Type 0 where
  pub round : ℕ
  pub producer : List ℕ
  pub write : Write

abbrev pub placed : ℕ → List ℕ → Write → PlacedWrite
placed round name write = record { round = round; producer = name; write = write }

-- ---- the writes of a script

abbrev pub acts_writes : ℕ → List ℕ → List Act → List PlacedWrite
acts_writes round name [] = []
acts_writes round name (act.Write write ∷ acts) = placed round name write ∷ acts_writes round name acts
acts_writes round name (act.Restart ∷ acts) = acts_writes round name acts

-- the name of the producer with this number
abbrev pub producer_name : List (List ℕ) → ℕ → List ℕ
producer_name names number = slice_index_or names (number - 1) []

abbrev pub sections_writes : List (List ℕ) → ℕ → List Section → List PlacedWrite
sections_writes names round [] = []
sections_writes names round (section ∷ sections) = acts_writes round (producer_name names section.producer) section.acts ++ sections_writes names round sections

abbrev pub rounds_writes : List (List ℕ) → ℕ → List Round → List PlacedWrite
rounds_writes names number [] = []
rounds_writes names number (round ∷ rounds) = sections_writes names number round.sections ++ rounds_writes names (number + 1) rounds

-- the writes of a script, in order
abbrev pub script_writes : Script → List PlacedWrite
script_writes script = rounds_writes script.producers 1 script.rounds

-- ---- the writes of lines

-- a line, where that which begins a block is the batch of the block's lines
abbrev pub whole_line : Line → List (List ℕ) → Line
whole_line line lines = if is_block line then Batch (option_and_then batch_of (block_of lines)) else line

-- what the lines say, one after the other: the lines of a block are a part of its first
abbrev pub told : Bool → List (List ℕ) → List Line
told block [] = []
told block (line ∷ lines) =
    if block then told (not (is_end (line_text line))) lines
    else whole_line (script_line_of (line_text line)) lines ∷ told (is_block (script_line_of (line_text line))) lines

abbrev pub line_writes : ℕ → List ℕ → Line → List PlacedWrite
line_writes round name (Put write) = placed round name write ∷ []
line_writes round name (Batch (Some writes)) = map (placed round name) writes
line_writes round name line = []

-- the round behind a line
abbrev pub round_behind : ℕ → Line → ℕ
round_behind round Settle = round + 1
round_behind round line = round

-- the producer of the section behind a line: behind a settle there is none
abbrev pub name_behind : List ℕ → Line → List ℕ
name_behind name (Producer other) = other
name_behind name Settle = []
name_behind name line = name

-- the writes of lines that begin in this round, in a section of this producer
abbrev pub lines_writes : ℕ → List ℕ → List Line → List PlacedWrite
lines_writes round name [] = []
lines_writes round name (line ∷ lines) = line_writes round name line ++ lines_writes (round_behind round line) (name_behind name line) lines

-- the writes of the lines of a text, in order
abbrev pub text_writes : List ℕ → List PlacedWrite
text_writes bytes = lines_writes 1 [] (told false (lines_in bytes))

-- ---- a producer in a round

-- of placed writes, those of a producer in a round
abbrev pub writes_of : ℕ → List ℕ → List PlacedWrite → List Write
writes_of round name writes = map (λ p. p.write) (filter (λ p. p.round == round && bytes_eq p.producer name) writes)

abbrev pub acts_of : List Act → List Write
acts_of [] = []
acts_of (act.Write write ∷ acts) = write ∷ acts_of acts
acts_of (act.Restart ∷ acts) = acts_of acts

-- how many of the acts are restarts
abbrev pub restarts_of : List Act → ℕ
restarts_of [] = 0
restarts_of (act.Write write ∷ acts) = restarts_of acts
restarts_of (act.Restart ∷ acts) = 1 + restarts_of acts

abbrev pub sections_by : ℕ → List Section → List Write
sections_by producer [] = []
sections_by producer (section ∷ sections) = (if section.producer == producer then acts_of section.acts else []) ++ sections_by producer sections

abbrev pub sections_from : ℕ → ℕ → ℕ → List Round → List Write
sections_from number round producer [] = []
sections_from number round producer (r ∷ rounds) = (if number == round then sections_by producer r.sections else []) ++ sections_from (number + 1) round producer rounds

-- the writes of a producer in a round of a script, in order: rounds and producers are counted from 1
abbrev pub sections_of : Script → ℕ → ℕ → List Write
sections_of script round producer = sections_from 1 round producer script.rounds
