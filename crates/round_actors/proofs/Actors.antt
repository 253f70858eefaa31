-- Lists of actors, one after the other.
use Rattle.std.specs.List.{AllByRecursion}
use Rattle.std.proofs.Common.{◌≡◌, ℕ, zero, suc, ◌+◌, ◌<◌, ◌≤◌, List, [], ◌∷◌, ◌++◌, length, take, get_or, refl, sym, ap, subst, ◌∙◌, arith, append_assoc, All}
use Rattle.swss_script.specs.declared.parts.Section.{Section}
use Rattle.intake_queue.specs.Values.{IntakeId}
use Rattle.round_actors.specs.declared.actor.Actor.{Actor}
use Rattle.round_actors.specs.declared.actor.Actor.TheVariants as actor
use Rattle.round_actors.specs.Actors.{MayRun, PairByPair, pass_of, passes_of, parts_in}

pub passes_of-append : {J : Type 0} (xs ys : List (Actor J)) → passes_of (xs ++ ys) ≡ passes_of xs ++ passes_of ys
passes_of-append [] ys = refl
passes_of-append (a ∷ xs) ys = ap (λ l. pass_of a ++ l) (passes_of-append xs ys) ∙ sym (append_assoc (pass_of a) (passes_of xs) (passes_of ys))

pub parts_in-append : {J : Type 0} (xs ys : List (Actor J)) → parts_in (xs ++ ys) ≡ parts_in xs + parts_in ys
parts_in-append [] ys = omega arith
parts_in-append (a ∷ xs) ys = let rest = parts_in-append xs ys in omega arith

-- ---- pair by pair, and place by place

pub by_pair : {X : Type 0} (R : X → X → Type 0) (xs ys : List X) → length ys ≡ length xs → ((i : ℕ) (d : X) → i < length xs → R (get_or xs i d) (get_or ys i d)) → PairByPair R xs ys
by_pair R [] [] n h = tt
by_pair R [] (y ∷ ys) n h = absurd (omega arith)
by_pair R (x ∷ xs) [] n h = absurd (omega arith)
by_pair R (x ∷ xs) (y ∷ ys) n h = (h 0 x (omega arith), by_pair R xs ys (omega arith) (λ i d l. h (suc i) d (omega arith)))

pub pairs-length : {X : Type 0} (R : X → X → Type 0) (xs ys : List X) → PairByPair R xs ys → length ys ≡ length xs
pairs-length R [] [] h = refl
pairs-length R [] (y ∷ ys) h = absurd h
pairs-length R (x ∷ xs) [] h = absurd h
pairs-length R (x ∷ xs) (y ∷ ys) h = ap suc (pairs-length R xs ys h.1)

pub pair-at : {X : Type 0} (R : X → X → Type 0) (xs ys : List X) → PairByPair R xs ys → (i : ℕ) (d : X) → i < length xs → R (get_or xs i d) (get_or ys i d)
pair-at R [] ys h i d l = absurd (omega arith)
pair-at R (x ∷ xs) [] h i d l = absurd h
pair-at R (x ∷ xs) (y ∷ ys) h zero d l = h.0
pair-at R (x ∷ xs) (y ∷ ys) h (suc i) d l = pair-at R xs ys h.1 i d (omega arith)

-- ---- each actor

abbrev pub AllMay : {J : Type 0} → IntakeId → List Section → ℕ → List (Actor J) → Type 0
AllMay intake sections workers xs = AllByRecursion (MayRun intake sections workers) xs

pub all_may : {J : Type 0} (intake : IntakeId) (sections : List Section) (workers : ℕ) (xs : List (Actor J)) → ((i : ℕ) (d : Actor J) → i < length xs → MayRun intake sections workers (get_or xs i d)) → AllMay intake sections workers xs
all_may intake sections workers [] h = tt
all_may intake sections workers (a ∷ xs) h = (h 0 a (omega arith), all_may intake sections workers xs (λ i d l. h (suc i) d (omega arith)))

-- who may run in a round of few workers may in one of more
may_more : {J : Type 0} (intake : IntakeId) (sections : List Section) (workers most : ℕ) (a : Actor J) → workers ≤ most → MayRun intake sections workers a → MayRun intake sections most a
may_more intake sections workers most (actor.Producer p) within may = may
may_more intake sections workers most (actor.Worker w) within may = omega (arith, within, may)

pub all_may_more : {J : Type 0} (intake : IntakeId) (sections : List Section) (workers most : ℕ) (xs : List (Actor J)) → workers ≤ most → All (λ a. MayRun intake sections workers a) xs → All (λ a. MayRun intake sections most a) xs
all_may_more intake sections workers most xs within may i d l = may_more intake sections workers most (get_or xs i d) within (may i d l)

pub back : {X : Type 0} (n : ℕ) (new old : List X) → n ≡ length new → take n (new ++ old) ≡ new
back n [] old e = subst (λ m. take m old ≡ []) (sym e) refl
back zero (s ∷ new) old e = absurd (omega arith)
back (suc n) (s ∷ new) old e = ap (λ l. s ∷ l) (back n new old (omega arith))
