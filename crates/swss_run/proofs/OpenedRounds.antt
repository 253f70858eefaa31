-- the first round of a script behind the rows of its image
use Rattle.std.proofs.Common.{◌≡◌, ◌⊎◌, inl, inr, ℕ, zero, suc, ◌<◌, ◌≤◌, ◌==◌, List, [], ◌∷◌, ◌++◌, length, map, slice_get, Some, refl, sym, ap, ◌∙◌, subst, arith}
use Rattle.std.proofs.lemmas.List.Elements.{filter-append}
use Rattle.std.specs.List.{AllByRecursion}
use Rattle.table_schema.specs.Fields.{Pairs}
use Rattle.table_schema.specs.Rows.{Rows}
use Rattle.table_schema.specs.SentBy.{sent_of}
use Rattle.table_schema.specs.declared.key.Key.{Key}
use Rattle.table_schema.specs.declared.write.Sent.{Sent}
use Rattle.swss_script.specs.Behind.{image_section, image_sent, row_act, rounds_behind}
use Rattle.swss_script.specs.Sections.{restarts_of}
use Rattle.swss_script.specs.Sent.{restarts_in, sent_in_round}
use Rattle.swss_script.specs.Stage.{AreOfProducers}
use Rattle.swss_script.specs.declared.parts.Round.{Round}
use Rattle.swss_script.proofs.SentFirst.{opened-first}
use Rattle.swss_script.proofs.SentOrder.{sent-by_sections}
use Rattle.round_actors.specs.Round.{own_sent}

-- a round that begins with these writes, and then is this one
pub record Opens (first : List Sent) (round opened : Round) : Type 0 where
  pub own : (p : ℕ) → own_sent p opened.sections ≡ sent_of p first ++ own_sent p round.sections
  pub restarts : restarts_in opened.sections ≡ restarts_in round.sections
  pub shows : opened.shows ≡ round.shows

pub sent_of-both : (p : ℕ) (a b : List Sent) → sent_of p (a ++ b) ≡ sent_of p a ++ sent_of p b
sent_of-both p a b = filter-append (λ (s : Sent). s.from == p) a b

opens-none : (round : Round) → Opens [] round round
opens-none round = record { own = λ p. refl; restarts = refl; shows = refl }

no-restarts : (image : Rows) → restarts_of (map row_act image) ≡ 0
no-restarts [] = refl
no-restarts (row ∷ rows) = no-restarts rows

abbrev opened_by : Rows → Round → Round
opened_by image round = record { sections = image_section image ∷ round.sections; shows = round.shows }

-- the rows of an image that has some
opens-rows : (row : Key × Pairs) (rows : Rows) (round : Round) (count : ℕ) → AreOfProducers count round.sections → Opens (image_sent (row ∷ rows)) round (opened_by (row ∷ rows) round)
opens-rows row rows round count numbers = record {
  own = λ p.
      sym (sent-by_sections (opened_by (row ∷ rows) round) p)
      ∙ ap (λ (r : Round). sent_of p (sent_in_round r)) same
      ∙ ap (sent_of p) x.2
      ∙ sent_of-both p (image_sent (row ∷ rows)) (sent_in_round round)
      ∙ ap (λ l. sent_of p (image_sent (row ∷ rows)) ++ l) (sent-by_sections round p);
  restarts = let none = no-restarts (row ∷ rows) in omega (arith, none);
  shows = refl;
}
  where
    x : (opened : Round) × (rounds_behind (row ∷ rows) (round ∷ []) ≡ opened ∷ []) × (sent_in_round opened ≡ image_sent (row ∷ rows) ++ sent_in_round round)
    x = opened-first (row ∷ rows) round [] count numbers

    same : opened_by (row ∷ rows) round ≡ x.0
    same = let is = x.1 in cc

-- the writes that were taken before the round behind so many: those of the image before the first, and none before another
abbrev pub IsAhead : List Sent → ℕ → List Sent → Type 0
IsAhead first done ahead = ((done ≡ 0) × (ahead ≡ first)) ⊎ ((1 ≤ done) × (ahead ≡ []))

-- the round at a place, and the one at the same place behind the image
pub record OpensAt (image : Rows) (rounds : List Round) (at : ℕ) (ahead : List Sent) (round : Round) : Type 0 where
  pub opened : Round
  pub there : slice_get (rounds_behind image rounds) at ≡ Some opened
  pub opens : Opens ahead round opened

opens-first : (image : Rows) (r : Round) (rounds : List Round) (count : ℕ) → AreOfProducers count r.sections → OpensAt image (r ∷ rounds) 0 (image_sent image) r
opens-first [] r rounds count numbers = record { opened = r; there = refl; opens = opens-none r }
opens-first (row ∷ rows) r rounds count numbers = record { opened = opened_by (row ∷ rows) r; there = refl; opens = opens-rows row rows r count numbers }

opens-later : (image : Rows) (r : Round) (rounds : List Round) (n : ℕ) (round : Round) → slice_get rounds n ≡ Some round → OpensAt image (r ∷ rounds) (suc n) [] round
opens-later [] r rounds n round is = record { opened = round; there = is; opens = opens-none round }
opens-later (row ∷ rows) r rounds n round is = record { opened = round; there = is; opens = opens-none round }

pub opens-at : (image : Rows) (rounds : List Round) (count at : ℕ) (ahead : List Sent) (round : Round) → AllByRecursion (λ (r : Round). AreOfProducers count r.sections) rounds → slice_get rounds at ≡ Some round → IsAhead (image_sent image) at ahead → OpensAt image rounds at ahead round
opens-at image [] count at ahead round numbers is which = absurd cc
opens-at image (r ∷ rounds) count zero ahead round numbers is (inl (none, first)) =
    let same : r ≡ round = cc in
    subst (λ l. OpensAt image (r ∷ rounds) 0 l round) (sym first) (subst (OpensAt image (r ∷ rounds) 0 (image_sent image)) same (opens-first image r rounds count numbers.0))
opens-at image (r ∷ rounds) count zero ahead round numbers is (inr (some, none)) = absurd (omega (arith, some))
opens-at image (r ∷ rounds) count (suc n) ahead round numbers is (inl (none, first)) = absurd (omega (arith, none))
opens-at image (r ∷ rounds) count (suc n) ahead round numbers is (inr (some, none)) = subst (λ l. OpensAt image (r ∷ rounds) (suc n) l round) (sym none) (opens-later image r rounds n round is)

-- there are as many behind the image
pub length-behind : (image : Rows) (rounds : List Round) → length (rounds_behind image rounds) ≡ length rounds
length-behind [] rounds = refl
length-behind (row ∷ rows) [] = refl
length-behind (row ∷ rows) (r ∷ rounds) = refl

-- there is a round at each place
pub some-round : (rounds : List Round) (at : ℕ) → at < length rounds → (round : Round) × (slice_get rounds at ≡ Some round)
some-round [] at less = absurd (omega (arith, less))
some-round (r ∷ rounds) zero less = (r, refl)
some-round (r ∷ rounds) (suc n) less = some-round rounds n (omega (arith, less))
