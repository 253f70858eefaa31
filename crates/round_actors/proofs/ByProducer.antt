-- The acts of sections, by their producers.
use Rattle.std.proofs.Common.{◌≡◌, ◌≢◌, ℕ, suc, ◌+◌, ◌<◌, ◌≤◌, ◌==◌, Bool, true, false, ⊎_elim, inl, inr, List, [], ◌∷◌, ◌++◌, length, get_or, refl, ◌∙◌, arith, cond, length-append, true≢false, All, subst, sym}
use Rattle.std.specs.Bool.{⊤}
use Rattle.std.proofs.lemmas.Bool.{cases_eq}
use Rattle.std.proofs.lemmas.Bool.Decides.{nat_tests}
use Rattle.intake_queue.specs.ReadWrites.{AreReadWrites, IsReadWrite}
use Rattle.swss_script.specs.Sections.{acts_of, restarts_of, sections_by}
use Rattle.swss_script.specs.Sent.{restarts_in}
use Rattle.swss_script.specs.declared.parts.Section.{Section}
use Rattle.intake_queue.specs.Values.{Sender}
use Rattle.intake_queue.specs.Writes.{IsOther}
use Rattle.round_actors.specs.Acts.{own_acts}
use Rattle.round_actors.specs.Round.{number_of_acts}
use Rattle.round_actors.proofs.Acting.{acts_of-append, all-both, restarts_of-append}

-- the writes of these acts are those of the producer's sections
pub own_acts-writes : (p : ℕ) (sections : List Section) → acts_of (own_acts p sections) ≡ sections_by p sections
own_acts-writes p [] = refl
own_acts-writes p (s ∷ ss) = acts_of-append (cond (s.producer == p) s.acts []) (own_acts p ss) ∙ (λ i. either (s.producer == p) i ++ own_acts-writes p ss i)
  where
    either : (b : Bool) → acts_of (cond b s.acts []) ≡ cond b (acts_of s.acts) []
    either true = refl
    either false = refl

pub own_acts-few : (p : ℕ) (sections : List Section) → length (own_acts p sections) ≤ number_of_acts sections
own_acts-few p [] = omega arith
own_acts-few p (s ∷ ss) =
    let rest = own_acts-few p ss in
    let both = length-append (cond (s.producer == p) s.acts []) (own_acts p ss) in
    let mine : length (cond (s.producer == p) s.acts []) ≤ length s.acts = either (s.producer == p) in omega arith
  where
    either : (b : Bool) → length (cond b s.acts []) ≤ length s.acts
    either true = omega arith
    either false = omega arith

pub number_of_acts-last : (sections : List Section) (s : Section) → number_of_acts (sections ++ s ∷ []) ≡ number_of_acts sections + length s.acts
number_of_acts-last [] s = omega arith
number_of_acts-last (x ∷ sections) s = let e = number_of_acts-last sections s in omega arith

-- where the writes of sections were read, so were those of a producer
pub own_acts-read : (p : ℕ) (sections : List Section) → All (λ s. AreReadWrites (acts_of s.acts)) sections → AreReadWrites (acts_of (own_acts p sections))
own_acts-read p [] read = tt
own_acts-read p (s ∷ ss) read =
    subst AreReadWrites (sym (acts_of-append (cond (s.producer == p) s.acts []) (own_acts p ss)))
    (all-both IsReadWrite (acts_of (cond (s.producer == p) s.acts [])) (acts_of (own_acts p ss)) (either (s.producer == p)) (own_acts-read p ss (λ i d l. read (suc i) d (omega arith))))
  where
    either : (b : Bool) → AreReadWrites (acts_of (cond b s.acts []))
    either true = read 0 s (omega arith)
    either false = tt

-- each section is of one of so many producers
abbrev pub AreOwn : ℕ → List Section → Type 0
AreOwn producers sections = All (λ s. (0 < s.producer) × (s.producer ≤ producers)) sections

-- a producer that none of the sections is of has no writes in them
pub others-none : (n p : ℕ) (sections : List Section) → AreOwn n sections → IsOther n p → sections_by p sections ≡ []
others-none n p [] all other = refl
others-none n p (s ∷ ss) all other = none (s.producer == p) (apart (all 0 s (omega arith)) other) ∙ others-none n p ss (λ i d l. all (suc i) d (omega arith)) other
  where
    apart : (0 < s.producer) × (s.producer ≤ n) → IsOther n p → (s.producer == p) ≡ false
    apart h (inl z) = grind (arith, nat_tests)
    apart h (inr l) = grind (arith, nat_tests)

    none : (b : Bool) → b ≡ false → cond b (acts_of s.acts) [] ++ sections_by p ss ≡ sections_by p ss
    none true e = absurd (true≢false e)
    none false e = refl

-- ---- restarts

-- the passes are those of producers from k on
abbrev pub AreNumberedFrom : ℕ → List Sender → Type 0
AreNumberedFrom k [] = ⊤
AreNumberedFrom k (s ∷ ss) = (s.from ≡ k) × AreNumberedFrom (k + 1) ss

pub numbered_from : (k : ℕ) (passes : List Sender) → ((i : ℕ) (d : Sender) → i < length passes → (get_or passes i d).from ≡ k + i) → AreNumberedFrom k passes
numbered_from k [] h = tt
numbered_from k (s ∷ ss) h = ((let e = h 0 s (omega arith) in omega arith), numbered_from (k + 1) ss (λ i d l. let e = h (suc i) d (omega arith) in omega arith))

-- the restarts of all these producers in sections
abbrev pub restarts_over : List Section → List Sender → ℕ
restarts_over sections [] = 0
restarts_over sections (s ∷ ss) = restarts_of (own_acts s.from sections) + restarts_over sections ss

-- r for each pass of the producer q
only : ℕ → ℕ → List Sender → ℕ
only q r [] = 0
only q r (s ∷ ss) = cond (q == s.from) r 0 + only q r ss

only-none : (q r k : ℕ) (passes : List Sender) → q < k → AreNumberedFrom k passes → only q r passes ≡ 0
unfolding only
only-none q r k [] l h = refl
only-none q r k (s ∷ ss) l h = let rest = only-none q r (k + 1) ss (omega arith) h.1 in let e = h.0 in let c : cond (q == s.from) r 0 ≡ 0 = grind (arith, nat_tests) in omega arith

only-one : (q r k : ℕ) (passes : List Sender) → k ≤ q → q < k + length passes → AreNumberedFrom k passes → only q r passes ≡ r
unfolding only
only-one q r k [] l m h = absurd (omega arith)
only-one q r k (s ∷ ss) l m h = ⊎_elim
    (λ (same : q ≡ k). let rest = only-none q r (k + 1) ss (omega arith) h.1 in let e = h.0 in let c : cond (q == s.from) r 0 ≡ r = grind (arith, nat_tests) in omega arith)
    (λ (apart : q ≢ k). let rest = only-one q r (k + 1) ss (omega arith) (omega arith) h.1 in let e = h.0 in let c : cond (q == s.from) r 0 ≡ 0 = grind (arith, nat_tests) in omega arith) (cases_eq q k)

over-none : (passes : List Sender) → restarts_over [] passes ≡ 0
over-none [] = refl
over-none (s ∷ ss) = let e = over-none ss in omega arith

over-one : (s : Section) (sections : List Section) (passes : List Sender) → restarts_over (s ∷ sections) passes ≡ only s.producer (restarts_of s.acts) passes + restarts_over sections passes
unfolding only
over-one s sections [] = refl
over-one s sections (t ∷ ts) =
    let rest = over-one s sections ts in
    let both = restarts_of-append (cond (s.producer == t.from) s.acts []) (own_acts t.from sections) in
    let mine : restarts_of (cond (s.producer == t.from) s.acts []) ≡ cond (s.producer == t.from) (restarts_of s.acts) 0 = either (s.producer == t.from) in omega arith
  where
    either : (b : Bool) → restarts_of (cond b s.acts []) ≡ cond b (restarts_of s.acts) 0
    either true = refl
    either false = refl

-- of all producers together, the restarts are those of the sections
pub over-all : (n : ℕ) (sections : List Section) (passes : List Sender) → AreOwn n sections → length passes ≡ n → AreNumberedFrom 1 passes → restarts_over sections passes ≡ restarts_in sections
over-all n [] passes all long h = over-none passes
over-all n (s ∷ ss) passes all long h =
    let here = all 0 s (omega arith) in
    let mine = only-one s.producer (restarts_of s.acts) 1 passes here.0 (let l = here.1 in omega arith) h in
    let rest = over-all n ss passes (λ i d l. all (suc i) d (omega arith)) long h in
    let both = over-one s ss passes in omega arith
