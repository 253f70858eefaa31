-- What a round's actors came to. Own.
use Rattle.std.specs.Prelude.{◌≡◌, ℕ, ◌+◌, ◌<◌, ◌≤◌, ◌^◌, List, [], ◌∷◌, ◌++◌, length, All}
use Rattle.intake_queue.specs.ReadWrites.{AreReadWrites}
use Rattle.table_schema.specs.declared.write.Sent.{Sent}
use Rattle.table_schema.specs.SentBy.{sent_of}
use Rattle.swss_script.specs.Sections.{acts_of, sections_by}
use Rattle.swss_script.specs.Sent.{restarts_in, sent_by}
use Rattle.swss_script.specs.declared.parts.Section.{Section}
use Rattle.intake_queue.specs.Values.{IntakeId, Sender, Receiver, AreAllPasses, IsFront, IsMet, sent_over}
use Rattle.round_actors.specs.declared.answers.Kept.{Kept}
use Rattle.round_actors.specs.declared.answers.Kept.TheVariants.{Nothing}

-- how many acts sections have
abbrev pub number_of_acts : List Section → ℕ
number_of_acts [] = 0
number_of_acts (section ∷ sections) = length section.acts + number_of_acts sections

-- sections that so many producers may make: each is of one of them, their acts are few, and their writes were read
pub record AreSectionsOf (producers : ℕ) (sections : List Section) : Type 0 where
  pub own : All (λ s. (0 < s.producer) × (s.producer ≤ producers)) sections
  pub few : number_of_acts sections < 2 ^ 62
  pub read : All (λ s. AreReadWrites (acts_of s.acts)) sections

-- all of them begin with these
abbrev pub HasFront : List Sent → List Sent → Type 0
HasFront all front = (rest : List Sent) × (front ++ rest ≡ all)

-- the writes of a producer's sections, as they are sent
abbrev pub own_sent : ℕ → List Section → List Sent
own_sent producer sections = sent_by producer 0 (sections_by producer sections)

-- what was sent over each pass is the writes of its producer's sections, each once and in order, and what was received and is queued of
-- it is what was sent; the restarts made are those of the sections. Where a refusal is kept, it may be fewer, and a front
pub record ActorsRan (intake : IntakeId) (sections : List Section) (passes : List Sender) (taker : Receiver) (kept : Kept) (made : ℕ) : Type 0 where
  pub all : AreAllPasses intake passes
  pub met : IsMet taker passes
  pub fronts : (p : ℕ) → HasFront (own_sent p sections) (sent_over p passes)
  pub whole : kept ≡ Nothing → (p : ℕ) → sent_over p passes ≡ own_sent p sections
  pub few : made ≤ restarts_in sections
  pub restarts : kept ≡ Nothing → made ≡ restarts_in sections

-- what a core took and restarted in a round: of each producer a front of the writes of its sections, and at most the restarts of the
-- sections; where no refusal is kept all restarts, and all writes but those that are queued
pub record CoreRan (sections : List Section) (kept : Kept) (before after : List Sent) (restarts_before restarts_after : ℕ) : Type 0 where
  pub new : List Sent
  pub taken : after ≡ before ++ new
  pub fronts : (p : ℕ) → HasFront (own_sent p sections) (sent_of p new)
  pub whole : kept ≡ Nothing → (p : ℕ) → IsFront (sent_of p new) (own_sent p sections)
  pub few : restarts_after ≤ restarts_before + restarts_in sections
  pub restarts : kept ≡ Nothing → restarts_after ≡ restarts_before + restarts_in sections
