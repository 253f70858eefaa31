-- The sections of scripts can run.
use Rattle.std.proofs.Common.{◌≡◌, ℕ, zero, suc, ◌+◌, ◌<◌, ◌^◌, List, [], ◌∷◌, length, slice_get, Some, Ok, subst, arith, All}
use Rattle.std.specs.List.{AllByRecursion}
use Rattle.table_schema.specs.Writes.{HasField, HasReadKey}
use Rattle.intake_queue.specs.ReadWrites.{AreReadWrites, IsReadWrite}
use Rattle.swss_script.specs.Script.{script_of}
use Rattle.swss_script.specs.Sections.{PlacedWrite, acts_of, acts_writes, producer_name, rounds_writes, script_writes, sections_writes}
use Rattle.swss_script.specs.Stage.{AreOfProducers, IsProducerNumber}
use Rattle.swss_script.specs.declared.parts.Act.{Act}
use Rattle.swss_script.specs.declared.parts.Act.TheVariants as act
use Rattle.swss_script.specs.declared.parts.Round.{Round}
use Rattle.swss_script.specs.declared.parts.Section.{Section}
use Rattle.swss_script.specs.declared.script.Script.{Script}
use Rattle.swss_script.proofs.SetFields.{keys-were_read, sets-have_fields}
use Rattle.swss_script.proofs.Staged.{stage-of_script}
use Rattle.round_actors.specs.Round.{AreSectionsOf, number_of_acts}
use Rattle.round_actors.proofs.Acting.{all-back, all-front}
use Rattle.round_actors.proofs.FewActs.{acts-few}

-- ---- lists

all-pairs : {X : Type 0} (P Q : X → Type 0) (xs : List X) → AllByRecursion P xs → AllByRecursion Q xs → AllByRecursion (λ x. P x × Q x) xs
all-pairs P Q [] p q = tt
all-pairs P Q (x ∷ xs) p q = ((p.0, q.0), all-pairs P Q xs p.1 q.1)

all-places : {X : Type 0} (P : X → Type 0) (xs : List X) → AllByRecursion P xs → All P xs
all-places P [] h i d l = absurd (omega arith)
all-places P (x ∷ xs) h zero d l = h.0
all-places P (x ∷ xs) h (suc i) d l = all-places P xs h.1 i d (omega arith)

all-at : {X : Type 0} (P : X → Type 0) (xs : List X) (at : ℕ) (x : X) → AllByRecursion P xs → slice_get xs at ≡ Some x → P x
all-at P [] at x h is = cc
all-at P (y ∷ xs) zero x h is = let same : y ≡ x = cc in subst P same h.0
all-at P (y ∷ xs) (suc at) x h is = all-at P xs at x h.1 is

-- ---- writes

abbrev AreRead : List PlacedWrite → Type 0
AreRead writes = AllByRecursion (λ (p : PlacedWrite). IsReadWrite p.write) writes

-- the writes of sections were read
abbrev HaveRead : List Section → Type 0
HaveRead sections = All (λ s. AreReadWrites (acts_of s.acts)) sections

acts-read : (round : ℕ) (name : List ℕ) (acts : List Act) → AreRead (acts_writes round name acts) → AreReadWrites (acts_of acts)
acts-read round name [] h = tt
acts-read round name (act.Write w ∷ acts) h = (h.0, acts-read round name acts h.1)
acts-read round name (act.Restart ∷ acts) h = acts-read round name acts h

sections-read : (names : List (List ℕ)) (round : ℕ) (sections : List Section) → AreRead (sections_writes names round sections) → HaveRead sections
sections-read names round [] h i d l = absurd (omega arith)
sections-read names round (section ∷ sections) h zero d l =
    acts-read round (producer_name names section.producer) section.acts (all-front (λ (p : PlacedWrite). IsReadWrite p.write) (acts_writes round (producer_name names section.producer) section.acts) (sections_writes names round sections) h)
sections-read names round (section ∷ sections) h (suc i) d l =
    sections-read names round sections (all-back (λ (p : PlacedWrite). IsReadWrite p.write) (acts_writes round (producer_name names section.producer) section.acts) (sections_writes names round sections) h) i d (omega arith)

rounds-read : (names : List (List ℕ)) (number : ℕ) (rounds : List Round) → AreRead (rounds_writes names number rounds) → AllByRecursion (λ r. HaveRead r.sections) rounds
rounds-read names number [] h = tt
rounds-read names number (r ∷ rounds) h = (
  sections-read names number r.sections (all-front (λ (p : PlacedWrite). IsReadWrite p.write) (sections_writes names number r.sections) (rounds_writes names (number + 1) rounds) h),
  rounds-read names (number + 1) rounds (all-back (λ (p : PlacedWrite). IsReadWrite p.write) (sections_writes names number r.sections) (rounds_writes names (number + 1) rounds) h),
)

-- ---- scripts

module _ (producers : ℕ) where
  rounds-run : (rounds : List Round)
      → AllByRecursion (λ r. AreOfProducers producers r.sections) rounds
      → AllByRecursion (λ r. number_of_acts r.sections < 2 ^ 62) rounds
      → AllByRecursion (λ r. HaveRead r.sections) rounds
      → AllByRecursion (λ r. AreSectionsOf producers r.sections) rounds
  rounds-run [] own few read = tt
  rounds-run (r ∷ rounds) own few read = (
    record { own = all-places (λ s. IsProducerNumber producers s.producer) r.sections own.0; few = few.0; read = read.0 },
    rounds-run rounds own.1 few.1 read.1,
  )

-- the producers of an accepted script may make the sections of each of its rounds
pub rounds-can_run : (bytes : List ℕ) (script : Script) → script_of bytes ≡ Ok script → AllByRecursion (λ r. AreSectionsOf (length script.producers) r.sections) script.rounds
rounds-can_run bytes script is =
    rounds-run (length script.producers) script.rounds (stage-of_script bytes script is).numbers (acts-few bytes script is)
    (rounds-read script.producers 1 script.rounds (all-pairs (λ (p : PlacedWrite). HasReadKey p.write) (λ (p : PlacedWrite). HasField p.write) (script_writes script) (keys-were_read bytes script is) (sets-have_fields bytes script is)))

pub sections-can_run : (bytes : List ℕ) (script : Script) (at : ℕ) (round : Round) → script_of bytes ≡ Ok script → slice_get script.rounds at ≡ Some round → AreSectionsOf (length script.producers) round.sections
sections-can_run bytes script at round is here = all-at (λ r. AreSectionsOf (length script.producers) r.sections) script.rounds at round (rounds-can_run bytes script is) here
