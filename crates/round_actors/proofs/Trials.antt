-- The sections of trials.
use Rattle.std.proofs.Common.{◌≡◌, ℕ, ◌+◌, ◌*◌, ◌<◌, ◌≤◌, List, [], ◌∷◌, ◌++◌, length, subst, sym, arith, length-append, All}
use Rattle.std.proofs.lemmas.List.Elements.{All-append}
use Rattle.swss_types.specs.declared.interface.TheConstants.{MOST_PORT}
use Rattle.intake_queue.specs.ReadWrites.{AreReadWrites, IsReadWrite}
use Rattle.table_schema.specs.declared.key.Key.TheVariants as key
use Rattle.table_schema.specs.declared.write.Write.TheVariants as write
use Rattle.intake_queue.proofs.PortDeletions.{port_deletion-read}
use Rattle.swss_script.specs.Sections.{acts_of, restarts_of}
use Rattle.swss_script.specs.Sent.{restarts_in}
use Rattle.swss_script.specs.declared.parts.Act.{Act}
use Rattle.swss_script.specs.declared.parts.Act.TheVariants as act
use Rattle.swss_script.specs.declared.parts.Section.{Section}
use Rattle.round_actors.specs.Round.{AreSectionsOf, number_of_acts}
use Rattle.round_actors.proofs.Acting.{acts_of-append, all-both, restarts_of-append}
use Rattle.round_actors.proofs.ByProducer.{AreOwn, number_of_acts-last}
use Rattle.round_actors.proofs.Lines.{all-one}

-- ---- acts

-- so many acts whose writes were read, with so many restarts
abbrev pub AreTrialActs : ℕ → ℕ → List Act → Type 0
AreTrialActs count restarts acts = AreReadWrites (acts_of acts) × (length acts ≡ count) × (restarts_of acts ≡ restarts)

act-more : (count restarts restarts' : ℕ) (acts : List Act) (a : Act) → AreReadWrites (acts_of (a ∷ [])) → restarts_of (a ∷ []) + restarts ≡ restarts' → AreTrialActs count restarts acts → AreTrialActs (count + 1) restarts' (acts ++ a ∷ [])
act-more count restarts restarts' acts a read one h = (
  subst AreReadWrites (sym (acts_of-append acts (a ∷ []))) (all-both IsReadWrite (acts_of acts) (acts_of (a ∷ [])) h.0 read),
  (let long = length-append acts (a ∷ []) in let n = h.1 in omega arith),
  (let both = restarts_of-append acts (a ∷ []) in let n = h.2 in omega arith),
)

pub deletion-more : (count port : ℕ) (acts acts' : List Act) → port ≤ MOST_PORT → acts' ≡ acts ++ act.Write (write.Del (key.Port port)) ∷ [] → AreTrialActs count 0 acts → AreTrialActs (count + 1) 0 acts'
deletion-more count port acts acts' few is h = subst (AreTrialActs (count + 1) 0) (sym is) (act-more count 0 0 acts (act.Write (write.Del (key.Port port))) (port_deletion-read port few, tt) (omega arith) h)

pub restart-more : (count : ℕ) (acts acts' : List Act) → acts' ≡ acts ++ act.Restart ∷ [] → AreTrialActs count 0 acts → AreTrialActs (count + 1) 1 acts'
restart-more count acts acts' is h = subst (AreTrialActs (count + 1) 1) (sym is) (act-more count 0 1 acts act.Restart tt (omega arith) h)

-- ---- sections

restarts_in-last : (sections : List Section) (s : Section) → restarts_in (sections ++ s ∷ []) ≡ restarts_in sections + restarts_of s.acts
restarts_in-last [] s = omega arith
restarts_in-last (x ∷ sections) s = let e = restarts_in-last sections s in omega arith

-- so many sections with a restart in each
pub record AreTrials (producers count : ℕ) (sections : List Section) : Type 0 where
  pub own : AreOwn producers sections
  pub read : All (λ s. AreReadWrites (acts_of s.acts)) sections
  pub few : number_of_acts sections ≤ count * 4294967296
  pub restarts : restarts_in sections ≡ count

pub trials-begin : (producers : ℕ) (sections : List Section) → sections ≡ [] → AreTrials producers 0 sections
trials-begin producers sections none = subst (AreTrials producers 0) (sym none) (record { own = λ i d l. absurd (omega arith); read = λ i d l. absurd (omega arith); few = omega arith; restarts = omega arith })

pub section-more : (producers count acts : ℕ) (sections sections' : List Section) (s : Section) → (0 < s.producer) × (s.producer ≤ producers) → acts ≤ 4294967296 → AreTrialActs acts 1 s.acts
    → sections' ≡ sections ++ s ∷ [] → AreTrials producers count sections → AreTrials producers (count + 1) sections'
section-more producers count acts sections sections' s own few made is h = subst (AreTrials producers (count + 1)) (sym is) (record {
  own = All-append (λ s. (0 < s.producer) × (s.producer ≤ producers)) sections (s ∷ []) h.own (all-one (λ s. (0 < s.producer) × (s.producer ≤ producers)) s own);
  read = All-append (λ s. AreReadWrites (acts_of s.acts)) sections (s ∷ []) h.read (all-one (λ s. AreReadWrites (acts_of s.acts)) s made.0);
  few = (let last = number_of_acts-last sections s in let before = h.few in let long = made.1 in omega arith);
  restarts = (let last = restarts_in-last sections s in let before = h.restarts in let one = made.2 in omega arith);
})

pub trials-fit : (producers count : ℕ) (sections : List Section) → count ≤ 8 → AreTrials producers count sections → AreSectionsOf producers sections
trials-fit producers count sections few h = record { own = h.own; few = (let acts = h.few in omega arith); read = h.read }
