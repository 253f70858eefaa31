-- sections that producers may make: the keys of their writes were read
use Rattle.std.proofs.Common.{◌≡◌, ◌∙◌, ℕ, suc, List, [], ◌∷◌, ◌++◌, map, slice_get, Some, All, ap, sym, arith}
use Rattle.std.proofs.lemmas.Option.{slice_get-get_or}
use Rattle.table_schema.specs.declared.write.Write.{Write}
use Rattle.intake_queue.specs.ReadWrites.{AreReadWrites}
use Rattle.swss_script.specs.Sections.{acts_of}
use Rattle.swss_script.specs.Sent.{writes_in}
use Rattle.swss_script.specs.declared.parts.Round.{Round}
use Rattle.swss_script.specs.declared.parts.Section.{Section}
use Rattle.swss_script.specs.declared.parts.Show.{Show}
use Rattle.round_actors.specs.Round.{AreSectionsOf}
use Rattle.swss_service.specs.Taking.{HaveReadKeys}

read-mapped : (p : ℕ) (ws : List Write) (rest : List (ℕ × Write)) → AreReadWrites ws → HaveReadKeys rest → HaveReadKeys (map (λ w. (p, w)) ws ++ rest)
read-mapped p [] rest h more = more
read-mapped p (w ∷ ws) rest h more = (h.0.0, read-mapped p ws rest h.1 more)

pub writes-read : (ss : List Section) → All (λ s. AreReadWrites (acts_of s.acts)) ss → HaveReadKeys (writes_in ss)
writes-read [] all = tt
writes-read (s ∷ ss) all = read-mapped s.producer (acts_of s.acts) (writes_in ss) (all 0 s (omega arith)) (writes-read ss (λ i d l. all (suc i) d (omega arith)))

-- each round has such sections
pub all-can-run : (producers : ℕ) (rounds : List Round) → ((at : ℕ) (round : Round) → slice_get rounds at ≡ Some round → AreSectionsOf producers round.sections) → All (λ (r : Round). AreSectionsOf producers r.sections) rounds
all-can-run producers rounds each = λ i d l. each i _ (slice_get-get_or rounds i d l)

-- where no producer has sections, any may run
pub none-can-run : (producers : ℕ) → AreSectionsOf producers []
none-can-run producers = record { own = λ i d l. absurd (omega (arith, l)); few = omega arith; read = λ i d l. absurd (omega (arith, l)) }

-- the sections of the round that stands at a place
pub sections-at : (rounds items : List Round) (at : ℕ) (found round : Round) (sections : List Section) → items ≡ rounds → slice_get items at ≡ Some found → sections ≡ found.sections → slice_get rounds at ≡ Some round → sections ≡ round.sections
sections-at rounds items at found round sections same here is there =
    let both : Some found ≡ Some round = sym here ∙ ap (λ l. slice_get l at) same ∙ there in
    let alike : found ≡ round = cc in
    is ∙ ap (λ (r : Round). r.sections) alike

-- and what it shows
pub shows-at : (rounds items : List Round) (at : ℕ) (found round : Round) (shows : List Show) → items ≡ rounds → slice_get items at ≡ Some found → shows ≡ found.shows → slice_get rounds at ≡ Some round → shows ≡ round.shows
shows-at rounds items at found round shows same here is there =
    let both : Some found ≡ Some round = sym here ∙ ap (λ l. slice_get l at) same ∙ there in
    let alike : found ≡ round = cc in
    is ∙ ap (λ (r : Round). r.shows) alike
