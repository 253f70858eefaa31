-- What taking the writes of a round and making its restarts comes to. Own.
use Rattle.std.specs.Prelude.{◌≡◌, ℕ, ◌==◌, List, [], ◌∷◌, ◌++◌, map, count_by, Option, Some, None, Result, Ok, Err}
use Rattle.std.specs.BTreeMap.{is_at}
use Rattle.std.specs.List.{AllByRecursion}
use Rattle.std.specs.Map.{lookup}
use Rattle.std.specs.Option.{unwrap_or}
use Rattle.std.specs.Ordering.{nat_cmp}
use Rattle.swss_types.specs.declared.out_of_memory.OutOfMemory.{OutOfMemory}
use Rattle.table_schema.specs.declared.write.Sent.{Sent}
use Rattle.table_schema.specs.declared.write.Write.{Write}
use Rattle.session_laws.specs.Core.{CoreState, IsFullFor}
use Rattle.session_laws.specs.Service.Events.{restarted}
use Rattle.table_schema.specs.Writes.{HasReadKey}
use Rattle.swss_script.specs.Sections.{acts_of}
use Rattle.swss_script.specs.Sent.{next_sent}
use Rattle.swss_script.specs.declared.parts.Act.{Act}
use Rattle.swss_script.specs.declared.parts.Act.TheVariants as act
use Rattle.swss_script.specs.declared.parts.Section.{Section}
use Rattle.swss_service.specs.Made.{with_made, writes_among}
use Rattle.round_actors.specs.declared.answers.Kept.{Kept}
use Rattle.round_actors.specs.declared.answers.Kept.TheVariants as keeps

-- the acts of a section and of sections, each with its producer
abbrev pub acts_by : ℕ → List Act → List (ℕ × Act)
acts_by producer acts = map (λ a. (producer, a)) acts

abbrev pub acts_in : List Section → List (ℕ × Act)
acts_in [] = []
acts_in (section ∷ sections) = acts_by section.producer section.acts ++ acts_in sections

-- the writes of a section, each with its producer
abbrev pub writes_by : ℕ → List Act → List (ℕ × Write)
writes_by producer acts = map (λ w. (producer, w)) (acts_of acts)

-- the key of each of these writes is one that was read
abbrev pub HaveReadKeys : List (ℕ × Write) → Type 0
HaveReadKeys writes = AllByRecursion (λ w. HasReadKey w.1) writes

-- how many writes each producer has sent in the round
abbrev pub Counts : Type 0
Counts = List (ℕ × ℕ)

pub record AreCounted (counts : Counts) (sent : List Sent) : Type 0 where
  pub each : (producer : ℕ) → unwrap_or (lookup (is_at (nat_cmp producer)) counts) 0 ≡ count_by (λ s. s.from == producer) sent

-- ---- what is made of acts

-- an act is made after these writes were sent: a write is sent with its number, or it is a restart
abbrev pub act_made : List Sent → ℕ → Act → Option Sent
act_made before producer (act.Write write) = Some (next_sent before (producer, write))
act_made before producer act.Restart = None

abbrev pub sent_then : List Sent → Option Sent → List Sent
sent_then before (Some sent) = before ++ sent ∷ []
sent_then before None = before

-- acts are made in order: each write with its number, and each restart as none
abbrev pub acts_made : List Sent → List (ℕ × Act) → List (Option Sent)
acts_made before [] = []
acts_made before (next ∷ more) = act_made before next.0 next.1 ∷ acts_made (sent_then before (act_made before next.0 next.1)) more

-- the acts of producers behind the writes of the round so far: all were made, and their writes counted; or some, and the next found the log full; or some, and memory was refused
abbrev pub IsMade : ℕ → List Sent → List (ℕ × Act) → CoreState → Kept → CoreState → Counts → Type 0
IsMade effects before acts old keeps.Nothing new counts = (new ≡ with_made effects old (acts_made before acts)) × AreCounted counts (before ++ writes_among (acts_made before acts))
IsMade effects before acts old keeps.LogFull new counts =
    (done : List (ℕ × Act)) × (next : ℕ × Act) × (later : List (ℕ × Act)) × (acts ≡ done ++ next ∷ later) × (new ≡ with_made effects old (acts_made before done)) × IsFullFor new effects 1
IsMade effects before acts old keeps.NoMemory new counts =
    (done : List (ℕ × Act)) × (later : List (ℕ × Act)) × (acts ≡ done ++ later) × (new ≡ with_made effects old (acts_made before done))

-- the same of the first acts of a round
abbrev pub IsRoundMade : ℕ → List (ℕ × Act) → CoreState → Kept → CoreState → Type 0
IsRoundMade effects acts old result new = (counts : Counts) × IsMade effects [] acts old result new counts

-- a restart was made; or it found the log full; or memory was refused
abbrev pub IsRestartMade : ℕ → CoreState → Kept → CoreState → Type 0
IsRestartMade effects old keeps.Nothing new = new ≡ restarted old effects
IsRestartMade effects old keeps.LogFull new = (new ≡ old) × IsFullFor new effects 1
IsRestartMade effects old keeps.NoMemory new = new ≡ old

-- the number of a producer's next write, which is counted then
abbrev pub IsNextNumber : ℕ → List Sent → Result ℕ OutOfMemory → Counts → Type 0
IsNextNumber producer before (Ok number) counts = (number ≡ count_by (λ s. s.from == producer) before) × ((sent : Sent) → sent.from ≡ producer → AreCounted counts (before ++ sent ∷ []))
IsNextNumber producer before (Err e) counts = Unit {0}
