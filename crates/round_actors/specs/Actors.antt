-- The actors of a round. Own.
use Rattle.std.specs.Prelude.{ℕ, ◌+◌, ◌<◌, List, [], ◌∷◌, ◌++◌, ⊤}
use Rattle.swss_script.specs.declared.parts.Section.{Section}
use Rattle.intake_queue.specs.Values.{IntakeId, Sender}
use Rattle.round_actors.specs.declared.actor.Actor.{Actor}
use Rattle.round_actors.specs.declared.actor.Actor.TheVariants as actor
use Rattle.round_actors.specs.Acts.{IsReadyProducer, HasProduced}

-- an actor at the start of a round of so many workers, and what it did at its end
abbrev pub MayRun : {J : Type 0} → IntakeId → List Section → ℕ → Actor J → Type 0
MayRun intake sections workers (actor.Producer p) = IsReadyProducer intake sections p
MayRun intake sections workers (actor.Worker w) = w < workers

abbrev pub HasRun : {J : Type 0} → List Section → Actor J → Actor J → Type 0
HasRun sections (actor.Producer p) (actor.Producer q) = HasProduced sections p q
HasRun sections (actor.Worker w) (actor.Worker v) = ⊤
HasRun sections (actor.Producer p) (actor.Worker v) = ⊥
HasRun sections (actor.Worker w) (actor.Producer q) = ⊥

-- two lists are as long, and what stands at a place of the one is so to what stands there of the other
abbrev pub PairByPair : {X : Type 0} → (X → X → Type 0) → List X → List X → Type 0
PairByPair R [] [] = ⊤
PairByPair R [] (y ∷ ys) = ⊥
PairByPair R (x ∷ xs) [] = ⊥
PairByPair R (x ∷ xs) (y ∷ ys) = R x y × PairByPair R xs ys

-- each actor of one list ran to that of the other
abbrev pub HaveRun : {J : Type 0} → List Section → List (Actor J) → List (Actor J) → Type 0
HaveRun sections xs ys = PairByPair (HasRun sections) xs ys

-- ---- what actors hold: passes, parts of the ledger of restarts, restarts and stops

abbrev pub pass_of : {J : Type 0} → Actor J → List Sender
pass_of (actor.Producer p) = p.pass ∷ []
pass_of (actor.Worker w) = []

abbrev pub passes_of : {J : Type 0} → List (Actor J) → List Sender
passes_of [] = []
passes_of (a ∷ xs) = pass_of a ++ passes_of xs

abbrev pub parts_of : {J : Type 0} → Actor J → ℕ
parts_of (actor.Producer p) = p.restarts.parts
parts_of (actor.Worker w) = 0

abbrev pub parts_in : {J : Type 0} → List (Actor J) → ℕ
parts_in [] = 0
parts_in (a ∷ xs) = parts_of a + parts_in xs

abbrev pub restarts_by : {J : Type 0} → Actor J → ℕ
restarts_by (actor.Producer p) = p.restarts.amount
restarts_by (actor.Worker w) = 0

abbrev pub restarts_by_all : {J : Type 0} → List (Actor J) → ℕ
restarts_by_all [] = 0
restarts_by_all (a ∷ xs) = restarts_by a + restarts_by_all xs

abbrev pub stops_by : {J : Type 0} → Actor J → ℕ
stops_by (actor.Producer p) = p.stops.amount
stops_by (actor.Worker w) = 0

abbrev pub stops_by_all : {J : Type 0} → List (Actor J) → ℕ
stops_by_all [] = 0
stops_by_all (a ∷ xs) = stops_by a + stops_by_all xs
