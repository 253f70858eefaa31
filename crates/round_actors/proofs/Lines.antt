-- Actors that are being lined up.
use Rattle.std.proofs.Common.{◌≡◌, ℕ, zero, suc, ◌+◌, ◌<◌, ◌≤◌, List, [], ◌∷◌, ◌++◌, length, get_or, refl, sym, ap, subst, ◌∙◌, arith, append_assoc, length-append, All}
use Rattle.std.proofs.lemmas.List.{append-nil}
use Rattle.std.proofs.lemmas.List.Elements.{All-append}
use Rattle.std.proofs.Math.Seq.{get_or-append_seam}
use Rattle.swss_script.specs.declared.parts.Section.{Section}
use Rattle.intake_queue.specs.Values.{IntakeId, Sender, AreNew}
use Rattle.round_actors.specs.declared.actor.Producer.{Producer}
use Rattle.round_actors.specs.declared.actor.Actor.{Actor}
use Rattle.round_actors.specs.declared.actor.Actor.TheVariants as actor
use Rattle.round_actors.specs.Actors.{MayRun, passes_of, parts_in}
use Rattle.round_actors.specs.Round.{AreSectionsOf}
use Rattle.round_actors.proofs.Actors.{passes_of-append, parts_in-append}
use Rattle.round_actors.proofs.ByProducer.{own_acts-few, own_acts-read}

-- so many producers stand in the line, and these passes are left
pub record LinesUp {J : Type 0} (intake : IntakeId) (sections : List Section) (passes : List Sender) (parts workers : ℕ) (actors : List (Actor J)) (left : List Sender) (number now amount capacity : ℕ) : Type 0 where
  pub lined : passes_of actors ++ left ≡ passes
  pub may : All (λ a. MayRun intake sections workers a) actors
  pub count : length actors ≡ number
  pub many : length (passes_of actors) ≡ number
  pub own : parts_in actors ≡ number
  pub held : now + number ≡ parts
  pub none : amount ≡ 0
  pub room : length actors + length left + workers ≤ capacity

pub all-one : {X : Type 0} (P : X → Type 0) (x : X) → P x → All P (x ∷ [])
all-one P x h zero d l = h
all-one P x h (suc i) d l = absurd (omega arith)

pub lines-begin : {J : Type 0} (intake : IntakeId) (sections : List Section) (passes : List Sender) (parts workers : ℕ) (actors : List (Actor J)) (amount capacity : ℕ)
    → actors ≡ [] → amount ≡ 0 → length passes + workers ≤ capacity → LinesUp intake sections passes parts workers actors passes 0 parts amount capacity
lines-begin {J} intake sections passes parts workers actors amount capacity e z room = subst (λ xs. LinesUp intake sections passes parts workers xs passes 0 parts amount capacity) (sym e) empty
  where
    empty : LinesUp {J = J} intake sections passes parts workers [] passes 0 parts amount capacity
    empty = record { lined = refl; may = λ i d l. absurd (omega arith); count = refl; many = refl; own = refl; held = omega arith; none = z; room = omega arith }

lines-next : {J : Type 0} (intake : IntakeId) (sections : List Section) (passes : List Sender) (parts workers : ℕ) (actors : List (Actor J)) (p : Producer J) (left : List Sender) (number now now' amount amount' capacity : ℕ)
    → AreNew intake passes → intake.producers ≤ 4 → AreSectionsOf intake.producers sections
    → LinesUp intake sections passes parts workers actors (p.pass ∷ left) number now amount capacity
    → p.number ≡ number + 1 → p.restarts.parts ≡ 1 → p.restarts.amount ≡ 0 → p.stops.parts ≡ 1 → now' + 1 ≡ now → amount' ≡ amount
    → LinesUp intake sections passes parts workers (actors ++ actor.Producer p ∷ []) left (number + 1) now' amount' capacity
lines-next intake sections passes parts workers actors p left number now now' amount amount' capacity new four of h num part none stop less same =
    let line = passes_of-append actors (actor.Producer p ∷ []) in
    let here : get_or passes number p.pass ≡ p.pass = subst (λ l. get_or l number p.pass ≡ p.pass) h.lined (subst (λ n. get_or (passes_of actors ++ p.pass ∷ left) n p.pass ≡ p.pass) h.many (get_or-append_seam (passes_of actors) p.pass left p.pass)) in
    let total = ap length h.lined in
    let parted = length-append (passes_of actors) (p.pass ∷ left) in
    let many = h.many in
    let within : number < length passes = omega arith in
    let at = new.all.each number p.pass within in
    let nothing : p.pass.sent ≡ [] = ap (λ s. s.sent) (sym here) ∙ new.unsent number p.pass within in
    let few = of.few in
    let count = new.all.count in
    let acts = own_acts-few p.number sections in
    let before = h.count in
    let room = h.room in
    let grown = length-append actors (actor.Producer p ∷ []) in record {
      lined = ap (λ l. l ++ left) line ∙ append_assoc (passes_of actors) (p.pass ∷ []) left ∙ h.lined;
      may = All-append (λ a. MayRun intake sections workers a) actors (actor.Producer p ∷ []) h.may (all-one (λ a. MayRun intake sections workers a) (actor.Producer p) (record {
        may = record {
          queue = ap (λ s. s.queue) (sym here) ∙ at.0;
          few = (let none = ap length nothing in omega arith);
          read = own_acts-read p.number sections of.read;
          parts = (omega arith, omega arith);
          number = omega arith;
        };
        from = ap (λ s. s.from) (sym here) ∙ at.1 ∙ sym num;
        unsent = nothing;
        none = none;
        part = part;
      }));
      count = omega arith;
      many = (let l = ap length line in let m = length-append (passes_of actors) (p.pass ∷ []) in omega arith);
      own = (let l = parts_in-append actors (actor.Producer p ∷ []) in let o = h.own in omega arith);
      held = (let o = h.held in omega arith);
      none = (let z = h.none in omega arith);
      room = omega arith;
    }

lines-worker : {J : Type 0} (intake : IntakeId) (sections : List Section) (workers : ℕ) (passes : List Sender) (actors : List (Actor J)) (w : ℕ)
    → w < workers → passes_of actors ≡ passes → All (λ a. MayRun intake sections workers a) actors
    → (passes_of (actors ++ actor.Worker w ∷ []) ≡ passes) × All (λ a. MayRun intake sections workers a) (actors ++ actor.Worker w ∷ []) × (parts_in (actors ++ actor.Worker w ∷ []) ≡ parts_in actors)
lines-worker intake sections workers passes actors w l lined may = (
  passes_of-append actors (actor.Worker w ∷ []) ∙ append-nil (passes_of actors) ∙ lined,
  All-append (λ a. MayRun intake sections workers a) actors (actor.Worker w ∷ []) may (all-one (λ a. MayRun intake sections workers a) (actor.Worker w) l),
  (let p = parts_in-append actors (actor.Worker w ∷ []) in omega arith),
)

-- the same of a list and a capacity that are known by equations
pub lines-more : {J : Type 0} (intake : IntakeId) (sections : List Section) (passes : List Sender) (parts workers : ℕ) (actors actors' : List (Actor J)) (p : Producer J) (old left : List Sender) (number now now' amount amount' capacity capacity' : ℕ)
    → AreNew intake passes → intake.producers ≤ 4 → AreSectionsOf intake.producers sections
    → LinesUp intake sections passes parts workers actors old number now amount capacity
    → old ≡ p.pass ∷ left → actors' ≡ actors ++ actor.Producer p ∷ [] → capacity' ≡ capacity
    → p.number ≡ number + 1 → p.restarts.parts ≡ 1 → p.restarts.amount ≡ 0 → p.stops.parts ≡ 1 → now' + 1 ≡ now → amount' ≡ amount
    → LinesUp intake sections passes parts workers actors' left (number + 1) now' amount' capacity'
lines-more intake sections passes parts workers actors actors' p old left number now now' amount amount' capacity capacity' new four of h next grown same-room num part none stop less same =
    subst (λ xs. LinesUp intake sections passes parts workers xs left (number + 1) now' amount' capacity') (sym grown)
    (subst (λ room. LinesUp intake sections passes parts workers (actors ++ actor.Producer p ∷ []) left (number + 1) now' amount' room) (sym same-room)
    (lines-next intake sections passes parts workers actors p left number now now' amount amount' capacity new four of
    (subst (λ l. LinesUp intake sections passes parts workers actors l number now amount capacity) next h) num part none stop less same))

pub workers-more : {J : Type 0} (intake : IntakeId) (sections : List Section) (workers : ℕ) (passes : List Sender) (actors actors' : List (Actor J)) (w : ℕ)
    → w < workers → passes_of actors ≡ passes → All (λ a. MayRun intake sections workers a) actors → actors' ≡ actors ++ actor.Worker w ∷ []
    → (passes_of actors' ≡ passes) × All (λ a. MayRun intake sections workers a) actors' × (parts_in actors' ≡ parts_in actors)
workers-more intake sections workers passes actors actors' w l lined may grown =
    subst (λ xs. (passes_of xs ≡ passes) × All (λ a. MayRun intake sections workers a) xs × (parts_in xs ≡ parts_in actors)) (sym grown) (lines-worker intake sections workers passes actors w l lined may)
