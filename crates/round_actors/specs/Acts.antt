-- What a producer makes of the acts of its sections. Own.
use Rattle.std.specs.Prelude.{◌≡◌, ℕ, ◌+◌, ◌<◌, ◌≤◌, ◌^◌, ◌==◌, List, [], ◌∷◌, ◌++◌, length, if◌then◌else◌}
use Rattle.intake_queue.specs.ReadWrites.{AreReadWrites}
use Rattle.swss_script.specs.Sections.{acts_of, restarts_of}
use Rattle.swss_script.specs.Sent.{sent_by}
use Rattle.swss_script.specs.declared.parts.Act.{Act}
use Rattle.swss_script.specs.declared.parts.Section.{Section}
use Rattle.intake_queue.specs.Values.{IntakeId}
use Rattle.round_actors.specs.declared.actor.Producer.{Producer}

-- the acts of a section, where it is the producer's
abbrev pub section_acts : ℕ → Section → List Act
section_acts producer section = if section.producer == producer then section.acts else []

-- the acts of a producer's sections, in order
abbrev pub own_acts : ℕ → List Section → List Act
own_acts producer [] = []
own_acts producer (section ∷ sections) = section_acts producer section ++ own_acts producer sections

-- the producer may make these acts: its pass and its shares are there, and their writes were read
pub record CanAct {J : Type 0} (intake : IntakeId) (acts : List Act) (p : Producer J) : Type 0 where
  pub queue : p.pass.queue ≡ intake.queue
  pub few : length p.pass.sent + length acts < 2 ^ 62
  pub read : AreReadWrites (acts_of acts)
  pub parts : (0 < p.restarts.parts) × (0 < p.stops.parts)
  pub number : p.number ≤ 4

-- these acts were made: their writes were sent, each once and in order, and their restarts were made
pub record HasActed {J : Type 0} (acts : List Act) (old new : Producer J) : Type 0 where
  pub queue : new.pass.queue ≡ old.pass.queue
  pub from : new.pass.from ≡ old.pass.from
  pub number : new.number ≡ old.number
  pub parts : new.restarts.parts ≡ old.restarts.parts
  pub stop_parts : new.stops.parts ≡ old.stops.parts
  pub sent : new.pass.sent ≡ old.pass.sent ++ sent_by old.pass.from (length old.pass.sent) (acts_of acts)
  pub restarts : new.restarts.amount ≡ old.restarts.amount + restarts_of acts

-- of these acts, those before the ones that are left were made
pub record IsOnWay {J : Type 0} (acts left : List Act) (old new : Producer J) : Type 0 where
  pub done : List Act
  pub whole : done ++ left ≡ acts
  pub made : HasActed done old new

-- a front of these acts was made
abbrev pub HasActedSome : {J : Type 0} → List Act → Producer J → Producer J → Type 0
HasActedSome acts old new = (left : List Act) × IsOnWay acts left old new

-- a front of these acts was made, and there is a stop
abbrev pub HasStopped : {J : Type 0} → List Act → Producer J → Producer J → Type 0
HasStopped acts old new = HasActedSome acts old new × (0 < new.stops.amount)

-- a producer at the start of a round
pub record IsReadyProducer {J : Type 0} (intake : IntakeId) (sections : List Section) (p : Producer J) : Type 0 where
  pub may : CanAct intake (own_acts p.number sections) p
  pub from : p.pass.from ≡ p.number
  pub unsent : p.pass.sent ≡ []
  pub none : p.restarts.amount ≡ 0
  pub part : p.restarts.parts ≡ 1

-- a front of the acts of its sections was made, and all of them where it has no stop
pub record HasProduced {J : Type 0} (sections : List Section) (old new : Producer J) : Type 0 where
  pub some : HasActedSome (own_acts old.number sections) old new
  pub whole : new.stops.amount ≡ 0 → HasActed (own_acts old.number sections) old new
