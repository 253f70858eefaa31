-- What the producers of a round sent and restarted, all together.
use Rattle.std.proofs.Common.{◌≡◌, ◌≢◌, ℕ, ◌+◌, ◌≤◌, List, [], ◌∷◌, ◌++◌, length, get_or, refl, sym, ap, subst, ◌∙◌, arith}
use Rattle.swss_script.specs.Sections.{acts_of, restarts_of}
use Rattle.swss_script.specs.Sent.{sent_by, restarts_in}
use Rattle.swss_script.specs.declared.parts.Section.{Section}
use Rattle.intake_queue.specs.Values.{IntakeId, Sender, Receiver, AreAllPasses, AreNew, IsMet}
use Rattle.intake_queue.specs.Writes.{IsOther}
use Rattle.intake_queue.proofs.Passes.{every}
use Rattle.round_actors.specs.declared.actor.Producer.{Producer}
use Rattle.round_actors.specs.declared.actor.Actor.{Actor}
use Rattle.round_actors.specs.declared.actor.Actor.TheVariants as actor
use Rattle.round_actors.specs.declared.answers.Kept.{Kept}
use Rattle.round_actors.specs.declared.answers.Kept.TheVariants.{Nothing}
use Rattle.round_actors.specs.Acts.{HasActed, HasProduced, IsReadyProducer, own_acts}
use Rattle.round_actors.specs.Actors.{HaveRun, PairByPair, passes_of, parts_in, restarts_by_all, stops_by_all}
use Rattle.round_actors.specs.Round.{ActorsRan, AreSectionsOf, HasFront, own_sent}
use Rattle.round_actors.proofs.Acting.{sent_by-append, acts_of-append, restarts_of-append}
use Rattle.round_actors.proofs.ByProducer.{AreNumberedFrom, AreOwn, own_acts-writes, numbered_from, others-none, over-all, restarts_over}
use Rattle.round_actors.proofs.Actors.{AllMay, pair-at, pairs-length}

neither : (a b : ℕ) → a + b ≡ 0 → (a ≡ 0) × (b ≡ 0)
neither a b e = (omega arith, omega arith)

-- ---- one producer

-- the pass of a producer before and after, with a front of the writes of its sections
pub record IsPassed (sections : List Section) (s t : Sender) : Type 0 where
  pub queue : t.queue ≡ s.queue
  pub from : t.from ≡ s.from
  pub front : HasFront (own_sent s.from sections) t.sent

own_sent-acts : (p : ℕ) (sections : List Section) → sent_by p 0 (acts_of (own_acts p sections)) ≡ own_sent p sections
own_sent-acts p sections = ap (sent_by p 0) (own_acts-writes p sections)

-- what was sent by these acts, from nothing on
from_nothing : {J : Type 0} (intake : IntakeId) (sections : List Section) (p q : Producer J) (acts : _) → IsReadyProducer intake sections p → HasActed acts p q → q.pass.sent ≡ sent_by p.pass.from 0 (acts_of acts)
from_nothing intake sections p q acts m h = h.sent ∙ ap (λ l. l ++ sent_by p.pass.from (length l) (acts_of acts)) m.unsent

passed : {J : Type 0} (intake : IntakeId) (sections : List Section) (p q : Producer J) → IsReadyProducer intake sections p → HasProduced sections p q → IsPassed sections p.pass q.pass
passed intake sections p q m h =
    let left = h.some.0 in
    let way = h.some.1 in
    let f = p.pass.from in
    let A = acts_of way.done in
    let B = acts_of left in record {
      queue = way.made.queue;
      from = way.made.from;
      front = (
        sent_by f (0 + length A) B,
        ap (λ l. l ++ sent_by f (0 + length A) B) (from_nothing intake sections p q way.done m way.made)
            ∙ sym (sent_by-append f 0 A B)
            ∙ ap (sent_by f 0) (sym (acts_of-append way.done left) ∙ ap acts_of way.whole ∙ ap (λ n. acts_of (own_acts n sections)) (sym m.from))
            ∙ own_sent-acts f sections,
      );
    }

sent-whole : {J : Type 0} (intake : IntakeId) (sections : List Section) (p q : Producer J) → IsReadyProducer intake sections p → HasProduced sections p q → q.stops.amount ≡ 0 → q.pass.sent ≡ own_sent p.pass.from sections
sent-whole intake sections p q m h e = from_nothing intake sections p q (own_acts p.number sections) m (h.whole e) ∙ ap (λ n. sent_by p.pass.from 0 (acts_of (own_acts n sections))) (sym m.from) ∙ own_sent-acts p.pass.from sections

made-few : {J : Type 0} (intake : IntakeId) (sections : List Section) (p q : Producer J) → IsReadyProducer intake sections p → HasProduced sections p q → q.restarts.amount ≤ restarts_of (own_acts p.pass.from sections)
made-few intake sections p q m h =
    let way = h.some.1 in
    let made = way.made.restarts in
    let none = m.none in
    let all = restarts_of-append way.done h.some.0 in
    let whole = ap restarts_of way.whole in
    let from = ap (λ n. restarts_of (own_acts n sections)) m.from in omega arith

made-whole : {J : Type 0} (intake : IntakeId) (sections : List Section) (p q : Producer J) → IsReadyProducer intake sections p → HasProduced sections p q → q.stops.amount ≡ 0 → q.restarts.amount ≡ restarts_of (own_acts p.pass.from sections)
made-whole intake sections p q m h e =
    let made = (h.whole e).restarts in
    let none = m.none in
    let from = ap (λ n. restarts_of (own_acts n sections)) m.from in omega arith

-- ---- all of them

abbrev pub ArePassed : List Section → List Sender → List Sender → Type 0
ArePassed sections ss ts = PairByPair (IsPassed sections) ss ts

abbrev pub AreWhole : List Section → List Sender → List Sender → Type 0
AreWhole sections ss ts = PairByPair (λ s t. t.sent ≡ own_sent s.from sections) ss ts

-- actors that ran: their passes, their parts, and their restarts; and where there is no stop all that they were to send and restart
pub record HaveMade {J : Type 0} (sections : List Section) (xs ys : List (Actor J)) : Type 0 where
  pub passed : ArePassed sections (passes_of xs) (passes_of ys)
  pub parts : parts_in ys ≡ parts_in xs
  pub few : restarts_by_all ys ≤ restarts_over sections (passes_of xs)
  pub whole : stops_by_all ys ≡ 0 → AreWhole sections (passes_of xs) (passes_of ys) × (restarts_by_all ys ≡ restarts_over sections (passes_of xs))

pub have-made : {J : Type 0} (intake : IntakeId) (sections : List Section) (workers : ℕ) (xs ys : List (Actor J)) → AllMay intake sections workers xs → HaveRun sections xs ys → HaveMade sections xs ys
have-made intake sections workers [] [] m h = record { passed = tt; parts = refl; few = omega arith; whole = λ e. (tt, refl) }
have-made intake sections workers [] (b ∷ ys) m h = absurd h
have-made intake sections workers (a ∷ xs) [] m h = absurd h
have-made intake sections workers (actor.Producer p ∷ xs) (actor.Producer q ∷ ys) m h =
    let rest = have-made intake sections workers xs ys m.1 h.1 in record {
      passed = (passed intake sections p q m.0 h.0, rest.passed);
      parts = (let one = h.0.some.1.made.parts in let more = rest.parts in omega arith);
      few = (let one = made-few intake sections p q m.0 h.0 in let more = rest.few in omega arith);
      whole = λ e. let none = neither q.stops.amount (stops_by_all ys) e in let more = rest.whole none.1 in let one = made-whole intake sections p q m.0 h.0 none.0 in
          ((sent-whole intake sections p q m.0 h.0 none.0, more.0), (let sum = more.1 in omega arith));
    }
have-made intake sections workers (actor.Producer p ∷ xs) (actor.Worker v ∷ ys) m h = absurd h.0
have-made intake sections workers (actor.Worker w ∷ xs) (actor.Producer q ∷ ys) m h = absurd h.0
have-made intake sections workers (actor.Worker w ∷ xs) (actor.Worker v ∷ ys) m h =
    let rest = have-made intake sections workers xs ys m.1 h.1 in record {
      passed = rest.passed;
      parts = (let more = rest.parts in omega arith);
      few = (let more = rest.few in omega arith);
      whole = λ e. let more = rest.whole (let none : stops_by_all ys ≡ 0 = omega arith in none) in (more.0, (let sum = more.1 in omega arith));
    }

-- ---- the round

nothing_sent : (n p : ℕ) (sections : List Section) → AreOwn n sections → IsOther n p → own_sent p sections ≡ []
nothing_sent n p sections of other = ap (sent_by p 0) (others-none n p sections of other)

pub ran-passes : {J : Type 0} (intake : IntakeId) (sections : List Section) (passes : List Sender) (xs ys : List (Actor J)) → AreNew intake passes → passes_of xs ≡ passes → HaveMade sections xs ys → AreAllPasses intake (passes_of ys)
ran-passes intake sections passes xs ys new lined h =
    let P : ArePassed sections passes (passes_of ys) = subst (λ l. ArePassed sections l (passes_of ys)) lined h.passed in
    let long = pairs-length (IsPassed sections) passes (passes_of ys) P in
    record {
      count = long ∙ new.all.count;
      each = λ i d l. let before = new.all.each i d (omega arith) in let at = pair-at (IsPassed sections) passes (passes_of ys) P i d (omega arith) in (at.queue ∙ before.0, at.from ∙ before.1);
    }

pub ran : {J : Type 0} (intake : IntakeId) (sections : List Section) (passes : List Sender) (xs ys : List (Actor J)) (taker : Receiver) (kept : Kept) (made : ℕ)
    → AreNew intake passes → AreSectionsOf intake.producers sections → passes_of xs ≡ passes → HaveMade sections xs ys
    → (kept ≡ Nothing → stops_by_all ys ≡ 0) → IsMet taker (passes_of ys) → made ≡ restarts_by_all ys → ActorsRan intake sections (passes_of ys) taker kept made
ran intake sections passes xs ys taker kept made new of lined h stops met is =
    let P : ArePassed sections passes (passes_of ys) = subst (λ l. ArePassed sections l (passes_of ys)) lined h.passed in
    let long = pairs-length (IsPassed sections) passes (passes_of ys) P in
    let all = ran-passes intake sections passes xs ys new lined h in
    let numbered : AreNumberedFrom 1 passes = numbered_from 1 passes (λ i d l. let e = (new.all.each i d l).1 in omega arith) in
    let over : restarts_over sections passes ≡ restarts_in sections = over-all intake.producers sections passes of.own new.all.count numbered in
    let lines : restarts_over sections (passes_of xs) ≡ restarts_over sections passes = ap (restarts_over sections) lined in
    let count = new.all.count in
    record {
      all = all;
      met = met;
      fronts = every (λ p sent. HasFront (own_sent p sections) sent) (passes_of ys)
          (λ i d l. subst (λ p. HasFront (own_sent p sections) (get_or (passes_of ys) i d).sent) (new.all.each i d (omega arith)).1 (pair-at (IsPassed sections) passes (passes_of ys) P i d (omega arith)).front)
          (λ p other. (own_sent p sections, refl));
      whole = λ e.
          let W : AreWhole sections passes (passes_of ys) = subst (λ l. AreWhole sections l (passes_of ys)) lined (h.whole (stops e)).0 in
          every (λ p sent. sent ≡ own_sent p sections) (passes_of ys)
          (λ i d l. pair-at (λ s t. t.sent ≡ own_sent s.from sections) passes (passes_of ys) W i d (omega arith) ∙ ap (λ p. own_sent p sections) (new.all.each i d (omega arith)).1)
          (λ p other. sym (nothing_sent intake.producers p sections of.own (subst (λ n. IsOther n p) all.count other)));
      few = (let few = h.few in omega arith);
      restarts = λ e. (let whole = (h.whole (stops e)).1 in omega arith);
    }

-- where nothing was begun
pub ran-nothing : (intake : IntakeId) (sections : List Section) (passes : List Sender) (taker : Receiver) (kept : Kept) (made : ℕ)
    → AreNew intake passes → AreSectionsOf intake.producers sections → kept ≢ Nothing → IsMet taker passes → made ≡ 0 → ActorsRan intake sections passes taker kept made
ran-nothing intake sections passes taker kept made new of refused met is = record {
  all = new.all;
  met = met;
  fronts = every (λ p sent. HasFront (own_sent p sections) sent) passes (λ i d l. (own_sent (i + 1) sections, ap (λ l. l ++ own_sent (i + 1) sections) (new.unsent i d l))) (λ p other. (own_sent p sections, refl));
  whole = λ e. absurd (refused e);
  few = omega arith;
  restarts = λ e. absurd (refused e);
}
