-- making the acts of a round, part by part
use Rattle.std.proofs.Common.{◌≡◌, ℕ, List, [], ◌∷◌, ◌++◌, Option, refl, sym, ap, ◌∙◌, subst}
use Rattle.std.proofs.lemmas.List.{append_assoc, append-nil}
use Rattle.table_schema.specs.declared.write.Sent.{Sent}
use Rattle.session_laws.specs.Core.{CoreState, IsFullFor}
use Rattle.table_schema.specs.declared.write.Write.{Write}
use Rattle.swss_script.specs.Sent.{writes_in}
use Rattle.swss_script.specs.declared.parts.Act.{Act}
use Rattle.swss_script.specs.declared.parts.Act.TheVariants as act
use Rattle.swss_script.specs.declared.parts.Section.{Section}
use Rattle.swss_service.specs.Made.{with_made, writes_among}
use Rattle.swss_service.specs.Taking.{AreCounted, Counts, HaveReadKeys, IsMade, acts_made, writes_by}
use Rattle.round_actors.specs.declared.answers.Kept.{Kept}
use Rattle.round_actors.specs.declared.answers.Kept.TheVariants as keeps
use Rattle.swss_service.proofs.Acts.{made-append, sent_of-append, with_made-append}

-- the first of these acts were made, and these are left
pub record IsMakingActs (effects : ℕ) (before : List Sent) (all rest : List (ℕ × Act)) (old mid : CoreState) (counts : Counts) : Type 0 where
  pub done : List (ℕ × Act)
  pub all_are : all ≡ done ++ rest
  pub made : IsMade effects before done old keeps.Nothing mid counts

module _ (effects : ℕ) (before : List Sent) (old : CoreState) where
  pub making-none : (all : List (ℕ × Act)) (counts : Counts) → AreCounted counts before → IsMakingActs effects before all all old old counts
  making-none all counts counted = record { done = []; all_are = refl; made = (refl, subst (AreCounted counts) (sym (append-nil before)) counted) }

  module _ (all part rest : List (ℕ × Act)) (mid : CoreState) (counts : Counts) (making : IsMakingActs effects before all (part ++ rest) old mid counts) (new : CoreState) (counts' : Counts) where
    abbrev so_far : List (Option Sent)
    so_far = acts_made before making.done

    -- what was sent before the part
    abbrev pub sent_so_far : List Sent
    sent_so_far = before ++ writes_among so_far

    parts : (done : List (ℕ × Act)) → acts_made before (making.done ++ done) ≡ so_far ++ acts_made sent_so_far done
    parts done = made-append before making.done done

    -- a core that made so many of the part, and so all before them
    core-is : (done : List (ℕ × Act)) → new ≡ with_made effects mid (acts_made sent_so_far done) → new ≡ with_made effects old (acts_made before (making.done ++ done))
    core-is done is =
        is ∙ ap (λ c. with_made effects c (acts_made sent_so_far done)) making.made.0 ∙ sym (with_made-append effects old so_far (acts_made sent_so_far done)) ∙ ap (with_made effects old) (sym (parts done))

    pub making-part : IsMade effects sent_so_far part mid keeps.Nothing new counts' → IsMakingActs effects before all rest old new counts'
    making-part (is, counted) = record {
      done = making.done ++ part;
      all_are = making.all_are ∙ sym (append_assoc making.done part rest);
      made = (core-is part is, subst (AreCounted counts') counted-so counted);
    }
      where
        counted-so : sent_so_far ++ writes_among (acts_made sent_so_far part) ≡ before ++ writes_among (acts_made before (making.done ++ part))
        counted-so =
            append_assoc before (writes_among so_far) (writes_among (acts_made sent_so_far part))
            ∙ ap (λ l. before ++ l) (sym (sent_of-append so_far (acts_made sent_so_far part)))
            ∙ ap (λ l. before ++ writes_among l) (sym (parts part))

    all-parts : (done more : List (ℕ × Act)) → part ≡ done ++ more → all ≡ (making.done ++ done) ++ (more ++ rest)
    all-parts done more is = making.all_are ∙ ap (λ l. making.done ++ l) (ap (λ l. l ++ rest) is ∙ append_assoc done more rest) ∙ sym (append_assoc making.done done (more ++ rest))

    making-full : IsMade effects sent_so_far part mid keeps.LogFull new counts' → IsMade effects before all old keeps.LogFull new counts'
    making-full (done, next, later, split, is, full) = (making.done ++ done, next, later ++ rest, all-parts done (next ∷ later) split, core-is done is, full)

    making-wanting : IsMade effects sent_so_far part mid keeps.NoMemory new counts' → IsMade effects before all old keeps.NoMemory new counts'
    making-wanting (done, later, split, is) = (making.done ++ done, later ++ rest, all-parts done later split, core-is done is)

    -- a part after which no more is made
    pub making-ended : (r : Kept) → (r ≡ keeps.Nothing → ⊥) → IsMade effects sent_so_far part mid r new counts' → IsMade effects before all old r new counts'
    making-ended keeps.Nothing other made = absurd (other refl)
    making-ended keeps.LogFull other made = making-full made
    making-ended keeps.NoMemory other made = making-wanting made

  pub making-all : (all : List (ℕ × Act)) (mid : CoreState) (counts : Counts) → IsMakingActs effects before all [] old mid counts → IsMade effects before all old keeps.Nothing mid counts
  making-all all mid counts making = subst (λ l. IsMade effects before l old keeps.Nothing mid counts) (sym (making.all_are ∙ append-nil making.done)) making.made

-- ---- the keys of those that are left were read

read-front : (xs ys : List (ℕ × Write)) → HaveReadKeys (xs ++ ys) → HaveReadKeys xs
read-front [] ys h = tt
read-front (x ∷ xs) ys h = (h.0, read-front xs ys h.1)

read-back : (xs ys : List (ℕ × Write)) → HaveReadKeys (xs ++ ys) → HaveReadKeys ys
read-back [] ys h = h
read-back (x ∷ xs) ys h = read-back xs ys h.1

pub section-read : (s : Section) (left all : List Section) → all ≡ s ∷ left → HaveReadKeys (writes_in all) → HaveReadKeys (writes_by s.producer s.acts)
section-read s left all is h = read-front (writes_by s.producer s.acts) (writes_in left) (subst (λ l. HaveReadKeys (writes_in l)) is h)

pub sections-read : (s : Section) (left all : List Section) → all ≡ s ∷ left → HaveReadKeys (writes_in all) → HaveReadKeys (writes_in left)
sections-read s left all is h = read-back (writes_by s.producer s.acts) (writes_in left) (subst (λ l. HaveReadKeys (writes_in l)) is h)

pub act-read : (p : ℕ) (a : Act) (left all : List Act) → all ≡ a ∷ left → HaveReadKeys (writes_by p all) → HaveReadKeys (writes_by p (a ∷ [])) × HaveReadKeys (writes_by p left)
act-read p a left all is h = by a (subst (λ l. HaveReadKeys (writes_by p l)) is h)
  where
    by : (a : Act) → HaveReadKeys (writes_by p (a ∷ left)) → HaveReadKeys (writes_by p (a ∷ [])) × HaveReadKeys (writes_by p left)
    by (act.Write w) h = ((h.0, tt), h.1)
    by act.Restart h = (tt, h)

-- ---- an act that was refused

pub refused-act : (effects : ℕ) (before : List Sent) (producer : ℕ) (a : Act) (old new : CoreState) (counts : Counts) (r : Kept) → (r ≡ keeps.Nothing → ⊥) → new ≡ old → (r ≡ keeps.LogFull → IsFullFor new effects 1) → IsMade effects before ((producer, a) ∷ []) old r new counts
refused-act effects before producer a old new counts keeps.Nothing refused same full = absurd (refused refl)
refused-act effects before producer a old new counts keeps.LogFull refused same full = ([], (producer, a), [], refl, same, full refl)
refused-act effects before producer a old new counts keeps.NoMemory refused same full = ([], (producer, a) ∷ [], refl, same)

-- ---- beside the same chip

pub made-beside : (n m : ℕ) → n ≡ m → (before : List Sent) (acts : List (ℕ × Act)) (old : CoreState) (k : Kept) (new : CoreState) (counts : Counts) → IsMade n before acts old k new counts → IsMade m before acts old k new counts
made-beside n m same before acts old k new counts made = subst (λ e. IsMade e before acts old k new counts) same made
