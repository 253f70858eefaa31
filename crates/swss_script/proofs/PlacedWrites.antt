-- the writes of a script are those of its lines
use Rattle.std.proofs.Common.{◌≡◌, ℕ, suc, ◌+◌, ◌-◌, ◌<◌, nat_lt, Bool, true, false, cond, not, List, [], ◌∷◌, ◌++◌, length, get_or, map, Option, Some, None, option_and_then, Result, Ok, Err, refl, sym, ap, ap₂, ◌∙◌, subst, arith, ltb, length-append, append_assoc, bytes_eq}
use Rattle.std.proofs.Math.Seq.{get_or-append_seam}
use Rattle.std.proofs.lemmas.Bool.{ltb-true}
use Rattle.std.proofs.lemmas.List.{get_or_append_left}
use Rattle.std.proofs.lemmas.List.Sums.{passes_at_first}
use Rattle.std.proofs.lemmas.Slice.Eq.{bytes_eq-Decides}
use Rattle.std.specs.List.{position, position_or_len}
use Rattle.std.specs.Str.{is_utf8}
use Rattle.std.proofs.lemmas.Option.{cond_some}
use Rattle.table_schema.specs.Plan.{Ports, plan_step}
use Rattle.table_schema.specs.Rows.{Rows}
use Rattle.table_schema.specs.declared.plan.PlanWhy.{PlanWhy}
use Rattle.table_schema.specs.declared.write.Write.{Write}
use Rattle.swss_script.specs.Batch.{batch_of}
use Rattle.swss_script.specs.Line.{is_block, script_line_of}
use Rattle.swss_script.specs.Lines.{block_of, is_end, is_too_long, line_text, lines_in, text_of}
use Rattle.swss_image.specs.declared.fault.ImageFault.{ImageFault}
use Rattle.swss_script.specs.Script.{new_draft, ended_in, image_set, in_block, in_head, in_section, producer_named, draft_round_ended, script_at, script_from, script_of, section_begun, round_settled, shown_in, step, draft_step, with_block, with_head, draft_with_line, with_plan, with_text}
use Rattle.swss_script.specs.Sections.{PlacedWrite, placed, acts_writes, producer_name, sections_writes, rounds_writes, script_writes, whole_line, told, line_writes, round_behind, name_behind, lines_writes, text_writes}
use Rattle.swss_script.specs.declared.draft.Draft.{Draft}
use Rattle.swss_script.specs.declared.draft.Place.{Place}
use Rattle.swss_script.specs.declared.draft.Place.TheVariants as place
use Rattle.swss_script.specs.declared.line.HeadLine.{HeadLine}
use Rattle.swss_script.specs.declared.line.HeadLine.TheVariants as head
use Rattle.swss_script.specs.declared.line.Line.{Line}
use Rattle.swss_script.specs.declared.line.Line.TheVariants.{Blank, Head, Producer, Put, Batch, Block, Restart, Settle, Shown, Other}
use Rattle.swss_script.specs.declared.parts.Act.{Act}
use Rattle.swss_script.specs.declared.parts.Act.TheVariants as act
use Rattle.swss_script.specs.declared.parts.Round.{Round}
use Rattle.swss_script.specs.declared.parts.Section.{Section}
use Rattle.swss_script.specs.declared.parts.Show.{Show}
use Rattle.swss_script.specs.declared.refused.Refused.{Refused}
use Rattle.swss_script.specs.declared.refused.Why.{Why}
use Rattle.swss_script.specs.declared.refused.Why.TheVariants as why
use Rattle.swss_script.specs.declared.script.Script.{Script}
use Rattle.swss_script.proofs.Steps.{holds-step, same-ok, with_producer}

-- ---- lists of writes

nil : {X : Type 0} (xs : List X) → xs ++ [] ≡ xs
nil [] = refl
nil (x ∷ xs) = ap (λ ys. x ∷ ys) (nil xs)

acts-more : (n : ℕ) (name : List ℕ) (xs ys : List Act) → acts_writes n name (xs ++ ys) ≡ acts_writes n name xs ++ acts_writes n name ys
acts-more n name [] ys = refl
acts-more n name (act.Write w ∷ xs) ys = ap (λ ws. placed n name w ∷ ws) (acts-more n name xs ys)
acts-more n name (act.Restart ∷ xs) ys = acts-more n name xs ys

acts-all : (n : ℕ) (name : List ℕ) (ws : List Write) → acts_writes n name (map act.Write ws) ≡ map (placed n name) ws
acts-all n name [] = refl
acts-all n name (w ∷ ws) = ap (λ ps. placed n name w ∷ ps) (acts-all n name ws)

sections-more : (names : List (List ℕ)) (n : ℕ) (xs : List Section) (s : Section) → sections_writes names n (xs ++ s ∷ []) ≡ sections_writes names n xs ++ acts_writes n (producer_name names s.producer) s.acts
sections-more names n [] s = nil (acts_writes n (producer_name names s.producer) s.acts)
sections-more names n (x ∷ xs) s = ap (λ ws. acts_writes n (producer_name names x.producer) x.acts ++ ws) (sections-more names n xs s) ∙ sym (append_assoc (acts_writes n (producer_name names x.producer) x.acts) (sections_writes names n xs) _)

rounds-more : (names : List (List ℕ)) (n : ℕ) (xs : List Round) (r : Round) → rounds_writes names n (xs ++ r ∷ []) ≡ rounds_writes names n xs ++ sections_writes names (n + length xs) r.sections
rounds-more names n [] r =
    let same : n ≡ n + 0 = omega arith in
    nil (sections_writes names n r.sections) ∙ ap (λ k. sections_writes names k r.sections) same
rounds-more names n (x ∷ xs) r =
    let same : (n + 1) + length xs ≡ n + suc (length xs) = omega arith in
    ap (λ ws. sections_writes names n x.sections ++ ws) (rounds-more names (n + 1) xs r ∙ ap (λ k. rounds_writes names (n + 1) xs ++ sections_writes names k r.sections) same)
    ∙ sym (append_assoc (sections_writes names n x.sections) (rounds_writes names (n + 1) xs) _)

-- ---- the writes of a draft

-- the round that did not end yet
abbrev open_round : Draft → ℕ
open_round d = 1 + length d.script.rounds

-- the writes of a draft, those of its open section by the producer of this name
abbrev base : List (List ℕ) → Draft → List ℕ → List PlacedWrite
base names d name = rounds_writes names 1 d.script.rounds ++ (sections_writes names (open_round d) d.sections ++ acts_writes (open_round d) name d.acts)

-- the name of the producer whose section is open
abbrev current : List (List ℕ) → Place → List ℕ
current names place.Head = []
current names (place.Section producer) = producer_name names producer
current names place.Settled = []

abbrev so_far : List (List ℕ) → Draft → List PlacedWrite
so_far names d = base names d (current names d.place)

abbrev round_in : Place → ℕ → ℕ
round_in place.Head n = n
round_in (place.Section producer) n = n
round_in place.Settled n = n + 1

-- the round of the next line
abbrev next_round : Draft → ℕ
next_round d = round_in d.place (open_round d)

-- no act is open where no section is
abbrev IsTidy : Place → List Act → Type 0
IsTidy place.Head acts = acts ≡ []
IsTidy (place.Section producer) acts = Unit {0}
IsTidy place.Settled acts = acts ≡ []

-- ---- what ends

no-acts : (n : ℕ) (name : List ℕ) (acts : List Act) → acts ≡ [] → acts_writes n name acts ≡ []
no-acts n name acts none = ap (acts_writes n name) none

-- a draft without open acts
base-none : (names : List (List ℕ)) (d : Draft) (name : List ℕ) → d.acts ≡ [] → base names d name ≡ rounds_writes names 1 d.script.rounds ++ sections_writes names (open_round d) d.sections
base-none names d name none =
    ap (λ ws. rounds_writes names 1 d.script.rounds ++ (sections_writes names (open_round d) d.sections ++ ws)) (no-acts (open_round d) name d.acts none)
    ∙ ap (λ ws. rounds_writes names 1 d.script.rounds ++ ws) (nil (sections_writes names (open_round d) d.sections))

-- a round that ends
rounds-ended : (names : List (List ℕ)) (d : Draft) (name : List ℕ) → d.acts ≡ [] → rounds_writes names 1 (draft_round_ended d).script.rounds ≡ base names d name
rounds-ended names d name none = rounds-more names 1 d.script.rounds (record { sections = d.sections; shows = d.shows }) ∙ sym (base-none names d name none)

base-ended : (names : List (List ℕ)) (p : Place) (d : Draft) (name : List ℕ) → IsTidy p d.acts → base names (ended_in p d) name ≡ base names d (current names p)
base-ended names place.Head d name none = base-none names d name none ∙ sym (base-none names d [] none)
base-ended names (place.Section producer) d name tidy =
    ap (λ ws. rounds_writes names 1 d.script.rounds ++ ws) (nil _ ∙ sections-more names (open_round d) d.sections (record { producer = producer; acts = d.acts }))
base-ended names place.Settled d name none =
    base-none names (draft_round_ended d) name none
    ∙ nil (rounds_writes names 1 (draft_round_ended d).script.rounds)
    ∙ rounds-ended names d [] none

round-ended : (p : Place) (d : Draft) → open_round (ended_in p d) ≡ round_in p (open_round d)
round-ended place.Head d = refl
round-ended (place.Section producer) d = refl
round-ended place.Settled d = omega (arith, length-append d.script.rounds ((record { sections = d.sections; shows = d.shows }) ∷ []))

acts-ended : (p : Place) (d : Draft) → IsTidy p d.acts → (ended_in p d).acts ≡ []
acts-ended place.Head d none = none
acts-ended (place.Section producer) d tidy = refl
acts-ended place.Settled d none = none

block-ended : (p : Place) (d : Draft) → (ended_in p d).block ≡ d.block
block-ended place.Head d = refl
block-ended (place.Section producer) d = refl
block-ended place.Settled d = refl

-- ---- one line

-- a line more: its writes come last
record DraftMoves (names : List (List ℕ)) (d : Draft) (line : Line) (e : Draft) : Type 0 where
  tidy : IsTidy e.place e.acts
  block : e.block ≡ d.block
  round : next_round e ≡ round_behind (next_round d) line
  name : current names e.place ≡ name_behind (current names d.place) line
  writes : so_far names e ≡ so_far names d ++ line_writes (next_round d) (current names d.place) line

-- nothing that counts has changed
pub record IsStill (d e : Draft) : Type 0 where
  pub place : e.place ≡ d.place
  pub block : e.block ≡ d.block
  pub rounds : e.script.rounds ≡ d.script.rounds
  pub sections : e.sections ≡ d.sections
  pub acts : e.acts ≡ d.acts

still-to : (d middle e : Draft) → IsStill d middle → middle ≡ e → IsStill d e
still-to d middle e still is = subst (IsStill d) is still

abbrev base_of : List (List ℕ) → List Round → List Section → List Act → List ℕ → List PlacedWrite
base_of names rounds sections acts name = rounds_writes names 1 rounds ++ (sections_writes names (1 + length rounds) sections ++ acts_writes (1 + length rounds) name acts)

still-writes : (names : List (List ℕ)) (d e : Draft) → IsStill d e → so_far names e ≡ so_far names d ++ []
still-writes names d e still =
    let same : so_far names e ≡ so_far names d = (λ i. base_of names (still.rounds i) (still.sections i) (still.acts i) (current names (still.place i))) in
    same ∙ sym (nil (so_far names d))

still-tidy : (d e : Draft) → IsStill d e → IsTidy d.place d.acts → IsTidy e.place e.acts
still-tidy d e still tidy = subst (λ acts. IsTidy e.place acts) (sym still.acts) (subst (λ p. IsTidy p d.acts) (sym still.place) tidy)

still-round : (d e : Draft) → IsStill d e → next_round e ≡ next_round d
still-round d e still = λ i. round_in (still.place i) (1 + length (still.rounds i))

still-plan : (d e : Draft) (plan : Result Ports PlanWhy) → with_plan d plan ≡ Ok e → IsStill d e
still-plan d e (Ok plan) h = still-to d _ e (record { place = refl; block = refl; rounds = refl; sections = refl; acts = refl }) (same-ok _ _ h)
still-plan d e (Err fault) h = cc

still-if : (twice : Bool) (reason : Why) (d middle e : Draft) → IsStill d middle → cond twice (Err reason) (Ok middle) ≡ Ok e → IsStill d e
still-if true reason d middle e still h = cc
still-if false reason d middle e still h = still-to d middle e still (same-ok _ _ h)

still-image : (d e : Draft) (image : Result Rows ImageFault) (twice : Bool) → cond twice (Err why.HeadTwice) (image_set d image) ≡ Ok e → IsStill d e
still-image d e image true h = cc
still-image d e (Ok rows) false h = still-to d _ e (record { place = refl; block = refl; rounds = refl; sections = refl; acts = refl }) (same-ok _ _ h)
still-image d e (Err fault) false h = cc

still-head : (d e : Draft) (line : HeadLine) → with_head d line ≡ Ok e → IsStill d e
still-head d e (head.Port text) h = still-plan d e (plan_step d.script.plan text) h
still-head d e (head.Chip kind most) h = still-if _ _ d _ e (record { place = refl; block = refl; rounds = refl; sections = refl; acts = refl }) h
still-head d e (head.Fail fail) h = still-if _ _ d _ e (record { place = refl; block = refl; rounds = refl; sections = refl; acts = refl }) h
still-head d e (head.Image image) h = still-image d e image d.image h

pub still-in_head : (p : Place) (d e : Draft) (line : Option HeadLine) → in_head p d line ≡ Ok e → IsStill d e
still-in_head place.Head d e (Some line) h = still-head d e line h
still-in_head place.Head d e None h = cc
still-in_head (place.Section producer) d e line h = cc
still-in_head place.Settled d e line h = cc

pub still-shown : (p : Place) (d e : Draft) (what : Show) → shown_in p d what ≡ Ok e → IsStill d e
still-shown place.Settled d e what h = still-to d _ e (record { place = refl; block = refl; rounds = refl; sections = refl; acts = refl }) (same-ok _ _ h)
still-shown place.Head d e what h = cc
still-shown (place.Section producer) d e what h = cc

-- acts of a section
record Acted (names : List (List ℕ)) (d : Draft) (acts : List Act) (e : Draft) : Type 0 where
  tidy : IsTidy e.place e.acts
  block : e.block ≡ d.block
  round : next_round e ≡ next_round d
  name : current names e.place ≡ current names d.place
  writes : so_far names e ≡ so_far names d ++ acts_writes (next_round d) (current names d.place) acts

acted : (names : List (List ℕ)) (d : Draft) (producer : ℕ) (acts : List Act) → d.place ≡ place.Section producer → Acted names d acts (record d { acts = d.acts ++ acts })
acted names d producer acts is =
    let here : next_round d ≡ open_round d = ap (λ p. round_in p (open_round d)) is in
    let name = current names d.place in
    let rounds = rounds_writes names 1 d.script.rounds in
    let sections = sections_writes names (open_round d) d.sections in
    record {
      tidy = subst (λ p. IsTidy p (d.acts ++ acts)) (sym is) tt;
      block = refl;
      round = refl;
      name = refl;
      writes =
          ap (λ ws. rounds ++ (sections ++ ws)) (acts-more (open_round d) name d.acts acts)
          ∙ ap (λ ws. rounds ++ ws) (sym (append_assoc sections (acts_writes (open_round d) name d.acts) (acts_writes (open_round d) name acts)))
          ∙ sym (append_assoc rounds (sections ++ acts_writes (open_round d) name d.acts) (acts_writes (open_round d) name acts))
          ∙ ap (λ n. so_far names d ++ acts_writes n name acts) (sym here);
    }

acted-in : (names : List (List ℕ)) (p : Place) (d e : Draft) (acts : List Act) → d.place ≡ p → in_section p d acts ≡ Ok e → Acted names d acts e
acted-in names (place.Section producer) d e acts is h = subst (Acted names d acts) (same-ok _ _ h) (acted names d producer acts is)
acted-in names place.Head d e acts is h = cc
acted-in names place.Settled d e acts is h = cc

-- a section that begins
record Began (names : List (List ℕ)) (d : Draft) (producer : ℕ) (e : Draft) : Type 0 where
  tidy : IsTidy e.place e.acts
  block : e.block ≡ d.block
  round : next_round e ≡ next_round d
  name : current names e.place ≡ producer_name names producer
  writes : so_far names e ≡ so_far names d ++ []

began : (names : List (List ℕ)) (d : Draft) (producer : ℕ) → IsTidy d.place d.acts → Began names d producer (section_begun d producer)
began names d producer tidy = record {
  tidy = tt;
  block = block-ended d.place d;
  round = round-ended d.place d;
  name = refl;
  writes = base-ended names d.place d (producer_name names producer) tidy ∙ sym (nil (so_far names d));
}

-- the name at a place that was found
name-found : (names more : List (List ℕ)) (name : List ℕ) (at : ℕ) → position (bytes_eq name) names ≡ Some at → producer_name (names ++ more) (at + 1) ≡ name
name-found names more name at found =
    let here = cond_some (ltb (position_or_len (bytes_eq name) names) (length names)) (position_or_len (bytes_eq name) names) at found in
    let within : position_or_len (bytes_eq name) names < length names = ltb-true _ _ here.0 in
    let same : name ≡ get_or names (position_or_len (bytes_eq name) names) [] = (bytes_eq-Decides name _).0 (passes_at_first (bytes_eq name) names [] within) in
    let index : (at + 1) - 1 ≡ position_or_len (bytes_eq name) names = omega (arith, here.1) in
    ap (λ i. get_or (names ++ more) i []) index ∙ get_or_append_left names more [] (position_or_len (bytes_eq name) names) within ∙ sym same

-- the name that was put last
name-last : (names more : List (List ℕ)) (name : List ℕ) → producer_name ((names ++ name ∷ []) ++ more) (length names + 1) ≡ name
name-last names more name =
    let index : (length names + 1) - 1 ≡ length names = omega arith in
    ap₂ (λ ns i. get_or ns i []) (append_assoc names (name ∷ []) more) index ∙ get_or-append_seam names name more []

-- the names begin with those of a draft
abbrev BeginsWith : List (List ℕ) → Draft → Type 0
BeginsWith names d = (more : List (List ℕ)) × (names ≡ d.script.producers ++ more)

kept-names : (p : Place) (d : Draft) → (ended_in p d).script.producers ≡ d.script.producers
kept-names place.Head d = refl
kept-names (place.Section producer) d = refl
kept-names place.Settled d = refl

moves-begun : (names : List (List ℕ)) (d e : Draft) (name : List ℕ) (producer : ℕ) → producer_name names producer ≡ name → Began names d producer e → DraftMoves names d (Producer name) e
moves-begun names d e name producer is b = record { tidy = b.tidy; block = b.block; round = b.round; name = b.name ∙ is; writes = b.writes }

-- the same draft but for the names
began-new : (names : List (List ℕ)) (d : Draft) (name : List ℕ) (producer : ℕ) → IsTidy d.place d.acts → Began names d producer (section_begun (with_producer d name) producer)
began-new names d name producer tidy =
    let b = began names (with_producer d name) producer tidy in
    record { tidy = b.tidy; block = b.block; round = b.round; name = b.name; writes = b.writes }

moves-new : (names : List (List ℕ)) (d e : Draft) (name : List ℕ) (fits : Bool) → IsTidy d.place d.acts → BeginsWith names e → cond fits (Ok (section_begun (with_producer d name) (length d.script.producers + 1))) (Err why.TooManyProducers) ≡ Ok e → DraftMoves names d (Producer name) e
moves-new names d e name true tidy script_begins_with h =
    let is : section_begun (with_producer d name) (length d.script.producers + 1) ≡ e = same-ok _ _ h in
    let all : names ≡ (d.script.producers ++ name ∷ []) ++ script_begins_with.0 = script_begins_with.1 ∙ ap (λ f. f.script.producers ++ script_begins_with.0) (sym is) ∙ ap (λ ns. ns ++ script_begins_with.0) (kept-names d.place (with_producer d name)) in
    let last : producer_name names (length d.script.producers + 1) ≡ name = ap (λ ns. producer_name ns (length d.script.producers + 1)) all ∙ name-last d.script.producers script_begins_with.0 name in
    moves-begun names d e name (length d.script.producers + 1) last (subst (Began names d (length d.script.producers + 1)) is (began-new names d name (length d.script.producers + 1) tidy))
moves-new names d e name false tidy script_begins_with h = cc

moves-named : (names : List (List ℕ)) (d e : Draft) (name : List ℕ) (at : Option ℕ) → position (bytes_eq name) d.script.producers ≡ at → IsTidy d.place d.acts → BeginsWith names e → producer_named d name at ≡ Ok e → DraftMoves names d (Producer name) e
moves-named names d e name (Some at) found tidy script_begins_with h =
    let is : section_begun d (at + 1) ≡ e = same-ok _ _ h in
    let all : names ≡ d.script.producers ++ script_begins_with.0 = script_begins_with.1 ∙ ap (λ f. f.script.producers ++ script_begins_with.0) (sym is) ∙ ap (λ ns. ns ++ script_begins_with.0) (kept-names d.place d) in
    let here : producer_name names (at + 1) ≡ name = ap (λ ns. producer_name ns (at + 1)) all ∙ name-found d.script.producers script_begins_with.0 name at found in
    moves-begun names d e name (at + 1) here (subst (Began names d (at + 1)) is (began names d (at + 1) tidy))
moves-named names d e name None found tidy script_begins_with h = moves-new names d e name (nat_lt (length d.script.producers) 4) tidy script_begins_with h

moves-settle : (names : List (List ℕ)) (d : Draft) → IsTidy d.place d.acts → DraftMoves names d Settle (round_settled d)
moves-settle names d tidy = record {
  tidy = acts-ended d.place d tidy;
  block = block-ended d.place d;
  round = ap (λ n. n + 1) (round-ended d.place d);
  name = refl;
  writes = base-ended names d.place d [] tidy ∙ sym (nil (so_far names d));
}

moves-line : (names : List (List ℕ)) (d e : Draft) (line : Line) → IsTidy d.place d.acts → BeginsWith names e → draft_with_line d line ≡ Ok e → DraftMoves names d line e
moves-line names d e Blank tidy script_begins_with h =
    let s = still-to d d e (record { place = refl; block = refl; rounds = refl; sections = refl; acts = refl }) (same-ok _ _ h) in
    record { tidy = still-tidy d e s tidy; block = s.block; round = still-round d e s; name = ap (current names) s.place; writes = still-writes names d e s }
moves-line names d e (Head line) tidy script_begins_with h =
    let s = still-in_head d.place d e line h in
    record { tidy = still-tidy d e s tidy; block = s.block; round = still-round d e s; name = ap (current names) s.place; writes = still-writes names d e s }
moves-line names d e (Producer name) tidy script_begins_with h = moves-named names d e name (position (bytes_eq name) d.script.producers) refl tidy script_begins_with h
moves-line names d e (Put write) tidy script_begins_with h =
    let a = acted-in names d.place d e (act.Write write ∷ []) refl h in
    record { tidy = a.tidy; block = a.block; round = a.round; name = a.name; writes = a.writes }
moves-line names d e (Batch (Some writes)) tidy script_begins_with h =
    let a = acted-in names d.place d e (map act.Write writes) refl h in
    record { tidy = a.tidy; block = a.block; round = a.round; name = a.name; writes = a.writes ∙ ap (λ ws. so_far names d ++ ws) (acts-all (next_round d) (current names d.place) writes) }
moves-line names d e (Batch None) tidy script_begins_with h = cc
moves-line names d e Block tidy script_begins_with h = cc
moves-line names d e Restart tidy script_begins_with h =
    let a = acted-in names d.place d e (act.Restart ∷ []) refl h in
    record { tidy = a.tidy; block = a.block; round = a.round; name = a.name; writes = a.writes }
moves-line names d e Settle tidy script_begins_with h = subst (DraftMoves names d Settle) (same-ok _ _ h) (moves-settle names d tidy)
moves-line names d e (Shown what) tidy script_begins_with h =
    let s = still-shown d.place d e what h in
    record { tidy = still-tidy d e s tidy; block = s.block; round = still-round d e s; name = ap (current names) s.place; writes = still-writes names d e s }
moves-line names d e Other tidy script_begins_with h = cc

-- ---- lines one after the other

-- the writes so far, with those of lines
abbrev with_lines : List (List ℕ) → Draft → List Line → List PlacedWrite
with_lines names d lines = so_far names d ++ lines_writes (next_round d) (current names d.place) lines

-- a step leaves what the lines come to
record Steps (names : List (List ℕ)) (d : Draft) (lines : List Line) (e : Draft) (rest : List Line) : Type 0 where
  tidy : IsTidy e.place e.acts
  same : with_lines names e rest ≡ with_lines names d lines

steps-line : (names : List (List ℕ)) (d e : Draft) (line : Line) (rest : List Line) → DraftMoves names d line e → with_lines names e rest ≡ with_lines names d (line ∷ rest)
steps-line names d e line rest moves =
    (λ i. moves.writes i ++ lines_writes (moves.round i) (moves.name i) rest)
    ∙ append_assoc (so_far names d) (line_writes (next_round d) (current names d.place) line) (lines_writes (round_behind (next_round d) line) (name_behind (current names d.place) line) rest)

steps-block : (names : List (List ℕ)) (d e : Draft) (line : Line) (rest : List (List ℕ)) (answer : Result Draft Why) → BeginsWith names e → ((f : Draft) → BeginsWith names f → answer ≡ Ok f → DraftMoves names d line f) → in_block answer ≡ Ok e → Steps names d (line ∷ told true rest) e (told e.block rest)
steps-block names d e line rest (Ok f) script_begins_with moves h =
    let is : record f { block = true } ≡ e = same-ok _ _ h in
    let names_of : BeginsWith names f = subst (BeginsWith names) (sym is) script_begins_with in
    let m = moves f names_of refl in
    let here : Steps names d (line ∷ told true rest) (record f { block = true }) (told true rest) = record { tidy = m.tidy; same = steps-line names d f line (told true rest) m } in
    subst (λ g. Steps names d (line ∷ told true rest) g (told g.block rest)) is here
steps-block names d e line rest (Err reason) script_begins_with moves h = cc

steps-by : (names : List (List ℕ)) (d e : Draft) (line : Line) (rest : List (List ℕ)) (block : Bool) → IsTidy d.place d.acts → BeginsWith names e → d.block ≡ false
    → cond block (with_block d rest) (draft_with_line d line) ≡ Ok e
    → Steps names d (cond block (Batch (option_and_then batch_of (block_of rest))) line ∷ told block rest) e (told e.block rest)
steps-by names d e line rest true tidy script_begins_with out h = steps-block names d e (Batch (option_and_then batch_of (block_of rest))) rest (draft_with_line d (Batch (option_and_then batch_of (block_of rest)))) script_begins_with (λ f begins_f is. moves-line names d f (Batch (option_and_then batch_of (block_of rest))) tidy begins_f is) h
steps-by names d e line rest false tidy script_begins_with out h =
    let m = moves-line names d e line tidy script_begins_with h in
    record { tidy = m.tidy; same = ap (λ b. with_lines names e (told b rest)) (m.block ∙ out) ∙ steps-line names d e line (told false rest) m }

steps-text : (names : List (List ℕ)) (d e : Draft) (bytes : List ℕ) (rest : List (List ℕ)) (utf8 : Bool) → IsTidy d.place d.acts → BeginsWith names e → d.block ≡ false
    → with_text d (cond utf8 (Some bytes) None) rest ≡ Ok e
    → Steps names d (whole_line (script_line_of bytes) rest ∷ told (is_block (script_line_of bytes)) rest) e (told e.block rest)
steps-text names d e bytes rest true tidy script_begins_with out h = steps-by names d e (script_line_of bytes) rest (is_block (script_line_of bytes)) tidy script_begins_with out h
steps-text names d e bytes rest false tidy script_begins_with out h = cc

steps-in : (names : List (List ℕ)) (d e : Draft) (bytes : List ℕ) (rest : List (List ℕ)) (block : Bool) → d.block ≡ block → IsTidy d.place d.acts → BeginsWith names e
    → cond block (Ok (record d { block = not (is_end bytes) })) (with_text d (text_of bytes) rest) ≡ Ok e
    → Steps names d (cond block (told (not (is_end bytes)) rest) (whole_line (script_line_of bytes) rest ∷ told (is_block (script_line_of bytes)) rest)) e (told e.block rest)
steps-in names d e bytes rest true is tidy script_begins_with h =
    let inside : Steps names d (told (not (is_end bytes)) rest) (record d { block = not (is_end bytes) }) (told (not (is_end bytes)) rest) = record { tidy = tidy; same = refl } in
    subst (λ g. Steps names d (told (not (is_end bytes)) rest) g (told g.block rest)) (same-ok _ _ h) inside
steps-in names d e bytes rest false is tidy script_begins_with h = steps-text names d e bytes rest (is_utf8 bytes) tidy script_begins_with is h

pub steps-if : (wrong : Bool) (reason : Why) (answer : Result Draft Why) (e : Draft) → cond wrong (Err reason) answer ≡ Ok e → answer ≡ Ok e
steps-if true reason answer e h = cc
steps-if false reason answer e h = h

-- a step, with the lines behind it
steps : (names : List (List ℕ)) (d e : Draft) (number : ℕ) (line : List ℕ) (rest : List (List ℕ)) → IsTidy d.place d.acts → BeginsWith names e → step d number line rest ≡ Ok e → Steps names d (told d.block (line ∷ rest)) e (told e.block rest)
steps names d e number line rest tidy script_begins_with h =
    let text = steps-if (nat_lt 1000000 number) _ (draft_step d (line_text line) rest) e h in
    let inside = steps-if (is_too_long (line_text line)) _ _ e text in
    steps-in names d e (line_text line) rest d.block refl tidy script_begins_with inside

-- ---- whole scripts

names-at : (p : Place) (d : Draft) → (script_at p d).producers ≡ d.script.producers
names-at place.Settled d = kept-names d.place d
names-at place.Head d = kept-names (round_settled d).place (round_settled d) ∙ kept-names d.place d
names-at (place.Section producer) d = kept-names (round_settled d).place (round_settled d) ∙ kept-names d.place d

-- the names of a script begin with those of the draft
begins-stay : (names : List (List ℕ)) (d e : Draft) → e.script.producers ≡ d.script.producers → ((more : List (List ℕ)) × (d.script.producers ≡ names ++ more)) → (more : List (List ℕ)) × (e.script.producers ≡ names ++ more)
begins-stay names d e same script_begins_with = (script_begins_with.0, same ∙ script_begins_with.1)

begins-more : (names : List (List ℕ)) (d : Draft) (name : List ℕ) → length d.script.producers < 4 → ((more : List (List ℕ)) × (d.script.producers ≡ names ++ more)) → (more : List (List ℕ)) × ((with_producer d name).script.producers ≡ names ++ more)
begins-more names d name fits script_begins_with = (script_begins_with.0 ++ name ∷ [], ap (λ ns. ns ++ name ∷ []) script_begins_with.1 ∙ append_assoc names script_begins_with.0 (name ∷ []))

begins-step : (d e : Draft) (number : ℕ) (line : List ℕ) (rest : List (List ℕ)) → step d number line rest ≡ Ok e → (more : List (List ℕ)) × (e.script.producers ≡ d.script.producers ++ more)
begins-step d e number line rest h =
    holds-step (λ f. (more : List (List ℕ)) × (f.script.producers ≡ d.script.producers ++ more)) (begins-stay d.script.producers) (begins-more d.script.producers) d e number line rest ([], sym (nil d.script.producers)) h

begins-by : (d : Draft) (number : ℕ) (line : List ℕ) (rest : List (List ℕ)) (script : Script) (answer : Result Draft Why) → step d number line rest ≡ answer
    → ((e : Draft) → script_from (Ok e) number rest ≡ Ok script → BeginsWith script.producers e)
    → script_from answer number rest ≡ Ok script → BeginsWith script.producers d
begins-by d number line rest script (Err reason) is more h = cc
begins-by d number line rest script (Ok e) is more h =
    let behind = more e h in
    let here = begins-step d e number line rest is in
    (here.0 ++ behind.0, behind.1 ∙ ap (λ ns. ns ++ behind.0) here.1 ∙ append_assoc d.script.producers here.0 behind.0)

pub same-script : (x y : Script) (r : Result Script Refused) → r ≡ Ok x → r ≡ Ok y → x ≡ y
same-script x y r h k = cc

script_begins_with : (d : Draft) (number : ℕ) (lines : List (List ℕ)) (script : Script) → script_from (Ok d) number lines ≡ Ok script → BeginsWith script.producers d
script_begins_with d number [] script h =
    let is : script_at d.place d ≡ script = same-script _ _ (script_from (Ok d) number []) refl h in
    ([], ap (λ s. s.producers) (sym is) ∙ names-at d.place d ∙ sym (nil d.script.producers))
script_begins_with d number (line ∷ lines) script h = begins-by d (number + 1) line lines script (step d (number + 1) line lines) refl (λ e k. script_begins_with e (number + 1) lines script k) h

-- the script at its end has the writes so far
writes-at : (names : List (List ℕ)) (p : Place) (d : Draft) → d.place ≡ p → IsTidy d.place d.acts → rounds_writes names 1 (script_at p d).rounds ≡ so_far names d
writes-at names place.Settled d is tidy =
    ap (λ q. rounds_writes names 1 (ended_in q d).script.rounds) is ∙ rounds-ended names d (current names d.place) (subst (λ q. IsTidy q d.acts) is tidy)
writes-at names place.Head d is tidy = rounds-ended names (round_settled d) [] (acts-ended d.place d tidy) ∙ base-ended names d.place d [] tidy
writes-at names (place.Section producer) d is tidy = rounds-ended names (round_settled d) [] (acts-ended d.place d tidy) ∙ base-ended names d.place d [] tidy

writes-by : (d : Draft) (number : ℕ) (line : List ℕ) (rest : List (List ℕ)) (script : Script) (answer : Result Draft Why) → step d number line rest ≡ answer → IsTidy d.place d.acts
    → ((e : Draft) → IsTidy e.place e.acts → script_from (Ok e) number rest ≡ Ok script → script_writes script ≡ with_lines script.producers e (told e.block rest))
    → script_from answer number rest ≡ Ok script → script_writes script ≡ with_lines script.producers d (told d.block (line ∷ rest))
writes-by d number line rest script (Err reason) is tidy more h = cc
writes-by d number line rest script (Ok e) is tidy more h =
    let s = steps script.producers d e number line rest tidy (script_begins_with e number rest script h) is in
    more e s.tidy h ∙ s.same

writes-from : (d : Draft) (number : ℕ) (lines : List (List ℕ)) (script : Script) → IsTidy d.place d.acts → script_from (Ok d) number lines ≡ Ok script → script_writes script ≡ with_lines script.producers d (told d.block lines)
writes-from d number [] script tidy h =
    let is : script_at d.place d ≡ script = same-script _ _ (script_from (Ok d) number []) refl h in
    ap (λ s. rounds_writes script.producers 1 s.rounds) (sym is) ∙ writes-at script.producers d.place d refl tidy ∙ sym (nil (so_far script.producers d))
writes-from d number (line ∷ lines) script tidy h = writes-by d (number + 1) line lines script (step d (number + 1) line lines) refl tidy (λ e tidy_e k. writes-from e (number + 1) lines script tidy_e k) h

pub accepted : (long : Bool) (refused : Refused) (answer : Result Script Refused) (script : Script) → cond long (Err refused) answer ≡ Ok script → answer ≡ Ok script
accepted true refused answer script h = cc
accepted false refused answer script h = h

-- an accepted script has the writes of its lines
pub writes-by_lines : (bytes : List ℕ) (script : Script) → script_of bytes ≡ Ok script → script_writes script ≡ text_writes bytes
writes-by_lines bytes script h = writes-from new_draft 0 (lines_in bytes) script refl (accepted (nat_lt 67108864 (length bytes)) _ _ script h)
