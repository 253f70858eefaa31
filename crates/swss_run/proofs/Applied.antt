-- what the writes of a script leave, applied act by act
use Rattle.std.proofs.Common.{◌≡◌, ◌∙◌, ◌++◌, ◌+◌, ℕ, List, [], ◌∷◌, map, refl, sym, ap}
use Rattle.std.specs.List.{fold}
use Rattle.std.proofs.lemmas.List.{map-append}
use Rattle.table_schema.specs.Rows.{Rows, after_writes}
use Rattle.table_schema.specs.declared.write.Write.{Write}
use Rattle.producer_table.proofs.RowWrites.{after_writes-append}
use Rattle.swss_script.specs.Sections.{PlacedWrite, acts_of, acts_writes, producer_name, rounds_writes, sections_writes}
use Rattle.swss_script.specs.declared.parts.Act.{Act}
use Rattle.swss_script.specs.declared.parts.Act.TheVariants as act
use Rattle.swss_script.specs.declared.parts.Round.{Round}
use Rattle.swss_script.specs.declared.parts.Section.{Section}
use Rattle.swss_script.specs.declared.script.Script.{Script}
use Rattle.swss_run.specs.View.{rows_at_end}

pub acts-first : (rows : Rows) (a : Act) (acts : List Act) → after_writes rows (acts_of (a ∷ acts)) ≡ after_writes (after_writes rows (acts_of (a ∷ []))) (acts_of acts)
acts-first rows (act.Write write) acts = refl
acts-first rows act.Restart acts = refl

abbrev pub after_section : Rows → Section → Rows
after_section rows section = after_writes rows (acts_of section.acts)

abbrev pub after_round : Rows → Round → Rows
after_round rows round = fold after_section rows round.sections

abbrev writes_placed : List PlacedWrite → List Write
writes_placed placed = map (λ (p : PlacedWrite). p.write) placed

acts-placed : (round : ℕ) (name : List ℕ) (acts : List Act) → writes_placed (acts_writes round name acts) ≡ acts_of acts
acts-placed round name [] = refl
acts-placed round name (act.Write write ∷ acts) = ap (λ l. write ∷ l) (acts-placed round name acts)
acts-placed round name (act.Restart ∷ acts) = acts-placed round name acts

-- placed writes behind others
behind-placed : (rows : Rows) (first more : List PlacedWrite) → after_writes (after_writes rows (writes_placed first)) (writes_placed more) ≡ after_writes rows (writes_placed (first ++ more))
behind-placed rows first more = sym (after_writes-append rows (writes_placed first) (writes_placed more)) ∙ ap (after_writes rows) (sym (map-append (λ (p : PlacedWrite). p.write) first more))

sections-placed : (names : List (List ℕ)) (round : ℕ) (rows : Rows) (ss : List Section) → fold after_section rows ss ≡ after_writes rows (writes_placed (sections_writes names round ss))
sections-placed names round rows [] = refl
sections-placed names round rows (s ∷ ss) =
    let first = acts_writes round (producer_name names s.producer) s.acts in
    sections-placed names round (after_section rows s) ss
    ∙ ap (λ ws. after_writes (after_writes rows ws) (writes_placed (sections_writes names round ss))) (sym (acts-placed round (producer_name names s.producer) s.acts))
    ∙ behind-placed rows first (sections_writes names round ss)

rounds-placed : (names : List (List ℕ)) (number : ℕ) (rows : Rows) (rs : List Round) → fold after_round rows rs ≡ after_writes rows (writes_placed (rounds_writes names number rs))
rounds-placed names number rows [] = refl
rounds-placed names number rows (r ∷ rs) =
    rounds-placed names (number + 1) (after_round rows r) rs
    ∙ ap (λ rows. after_writes rows (writes_placed (rounds_writes names (number + 1) rs))) (sections-placed names number rows r.sections)
    ∙ behind-placed rows (sections_writes names number r.sections) (rounds_writes names (number + 1) rs)

pub rows-placed : (script : Script) → fold after_round script.image script.rounds ≡ rows_at_end script
rows-placed script = rounds-placed script.producers 1 script.image script.rounds
