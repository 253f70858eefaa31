-- producers by their numbers
use Rattle.std.proofs.Common.{◌≡◌, ℕ, ◌+◌, ◌-◌, ◌<◌, ◌≤◌, ◌==◌, nat_lt, Bool, true, false, cond, ◌&&◌, List, [], ◌∷◌, ◌++◌, length, get_or, map, filter, Option, Some, None, Ok, Err, refl, sym, ap, ap₂, ◌∙◌, subst, arith, ltb, length-append, bytes_eq, inl, inr}
use Rattle.std.proofs.Math.Seq.{get_or-append_seam}
use Rattle.std.proofs.lemmas.Bool.{cases_lt, eq-eqb, eqb-true, ltb-false, ltb-true}
use Rattle.std.proofs.lemmas.List.{get_or_append_left}
use Rattle.std.proofs.lemmas.List.Sums.{fails_before_first}
use Rattle.std.proofs.lemmas.Slice.Eq.{bytes_eq-Decides}
use Rattle.std.specs.Bool.{one_answer}
use Rattle.std.specs.List.{AllByRecursion, position, position_or_len}
use Rattle.std.proofs.lemmas.Option.{cond_some}
use Rattle.table_schema.specs.declared.write.Write.{Write}
use Rattle.swss_types.proofs.AllElements.{all-push}
use Rattle.swss_types.proofs.Choices.{chosen_none}
use Rattle.swss_script.specs.Script.{ended_in, in_section, producer_named, script_at, script_of, section_begun, round_settled, draft_with_line}
use Rattle.swss_script.specs.Sections.{PlacedWrite, placed, acts_of, acts_writes, producer_name, rounds_writes, sections_by, sections_from, sections_of, sections_writes, text_writes, writes_of}
use Rattle.swss_script.specs.Stage.{AreOfProducers, IsProducerNumber}
use Rattle.swss_script.specs.declared.draft.Draft.{Draft}
use Rattle.swss_script.specs.declared.draft.Place.{Place}
use Rattle.swss_script.specs.declared.draft.Place.TheVariants as place
use Rattle.swss_script.specs.declared.line.Line.{Line}
use Rattle.swss_script.specs.declared.line.Line.TheVariants.{Blank, Head, Producer, Put, Batch, Block, Restart, Settle, Shown, Other}
use Rattle.swss_script.specs.declared.parts.Act.{Act}
use Rattle.swss_script.specs.declared.parts.Act.TheVariants as act
use Rattle.swss_script.specs.declared.parts.Round.{Round}
use Rattle.swss_script.specs.declared.parts.Section.{Section}
use Rattle.swss_script.specs.declared.refused.Why.TheVariants as why
use Rattle.swss_script.specs.declared.script.Script.{Script}
use Rattle.swss_script.proofs.Kept.{kept-script}
use Rattle.swss_script.proofs.PlacedWrites.{IsStill, still-in_head, still-shown, writes-by_lines}
use Rattle.swss_script.proofs.Steps.{AreKept, kept-in_head, kept-shown, same-ok, with_producer}

-- ---- numbers and names

pub AreDistinct : List (List ℕ) → Type 0
AreDistinct names = (i j : ℕ) → i < length names → j < length names → get_or names i [] ≡ get_or names j [] → i ≡ j

same_number : (names : List (List ℕ)) (q p : ℕ) → AreDistinct names → IsProducerNumber (length names) q → IsProducerNumber (length names) p → bytes_eq (producer_name names q) (producer_name names p) ≡ (q == p)
unfolding AreDistinct
same_number names q p distinct q_in p_in = one_answer _ _ (bytes_eq-Decides (producer_name names q) (producer_name names p)) (to, from)
  where
    to : (q == p) ≡ true → producer_name names q ≡ producer_name names p
    to h = ap (producer_name names) (eqb-true q p h)

    from : producer_name names q ≡ producer_name names p → (q == p) ≡ true
    from h =
        let places : q - 1 ≡ p - 1 = distinct (q - 1) (p - 1) (omega (arith, q_in.0, q_in.1)) (omega (arith, p_in.0, p_in.1)) h in
        let same : q ≡ p = omega (arith, places, q_in.0, p_in.0) in
        eq-eqb q p same

-- a name that is not there
absent : (names : List (List ℕ)) (name : List ℕ) (i : ℕ) → position (bytes_eq name) names ≡ None → i < length names → name ≡ get_or names i [] → ⊥
absent names name i none within same =
    let past : length names ≤ position_or_len (bytes_eq name) names = ltb-false _ _ (chosen_none (ltb (position_or_len (bytes_eq name) names) (length names)) (position_or_len (bytes_eq name) names) none) in
    let differs : bytes_eq name (get_or names i []) ≡ false = fails_before_first (bytes_eq name) names i [] (omega (arith, past, within)) in
    let agrees : bytes_eq name (get_or names i []) ≡ true = (bytes_eq-Decides name (get_or names i [])).1 same in
    let wrong : true ≡ false = sym agrees ∙ differs in
    cc

distinct-more : (names : List (List ℕ)) (name : List ℕ) → AreDistinct names → position (bytes_eq name) names ≡ None → AreDistinct (names ++ name ∷ [])
unfolding AreDistinct
distinct-more names name distinct none i j i_in j_in same =
    let count : length (names ++ name ∷ []) ≡ length names + 1 = length-append names (name ∷ []) in
    let last : get_or (names ++ name ∷ []) (length names) [] ≡ name = get_or-append_seam names name [] [] in
    elim (cases_lt i (length names)) [
      | inl i_less ↦ elim (cases_lt j (length names)) [
        | inl j_less ↦ distinct i j i_less j_less (sym (get_or_append_left names (name ∷ []) [] i i_less) ∙ same ∙ get_or_append_left names (name ∷ []) [] j j_less)
        | inr j_from ↦
            let at : j ≡ length names = omega (arith, j_from, j_in, count) in
            absurd (absent names name i none i_less (sym last ∙ ap (λ k. get_or (names ++ name ∷ []) k []) (sym at) ∙ sym same ∙ get_or_append_left names (name ∷ []) [] i i_less))
      ]
      | inr i_from ↦
          let i_at : i ≡ length names = omega (arith, i_from, i_in, count) in
          elim (cases_lt j (length names)) [
            | inl j_less ↦ absurd (absent names name j none j_less (sym last ∙ ap (λ k. get_or (names ++ name ∷ []) k []) (sym i_at) ∙ same ∙ get_or_append_left names (name ∷ []) [] j j_less))
            | inr j_from ↦ omega (arith, i_at, j_from, j_in, count)
          ]
    ]

-- ---- drafts whose sections are of named producers

abbrev PlaceIn : ℕ → Place → Type 0
PlaceIn count place.Head = Unit {0}
PlaceIn count (place.Section producer) = IsProducerNumber count producer
PlaceIn count place.Settled = Unit {0}

record IsNumbered (d : Draft) : Type 0 where
  names : AreDistinct d.script.producers
  place : PlaceIn (length d.script.producers) d.place
  sections : AreOfProducers (length d.script.producers) d.sections
  rounds : AllByRecursion (λ r. AreOfProducers (length d.script.producers) r.sections) d.script.rounds

all-map : {X : Type 0} (P Q : X → Type 0) (more : (x : X) → P x → Q x) (xs : List X) → AllByRecursion P xs → AllByRecursion Q xs
all-map P Q more [] h = tt
all-map P Q more (x ∷ xs) h = (more x h.0, all-map P Q more xs h.1)

numbered-still : (d e : Draft) → IsStill d e → AreKept d e → IsNumbered d → IsNumbered e
numbered-still d e still kept h =
    let count : length d.script.producers ≡ length e.script.producers = ap length (sym kept) in
    record {
      names = subst AreDistinct (sym kept) h.names;
      place = subst (λ p. PlaceIn (length e.script.producers) p) (sym still.place) (subst (λ n. PlaceIn n d.place) count h.place);
      sections = subst (AreOfProducers (length e.script.producers)) (sym still.sections) (subst (λ n. AreOfProducers n d.sections) count h.sections);
      rounds = subst (AllByRecursion (λ r. AreOfProducers (length e.script.producers) r.sections)) (sym still.rounds) (subst (λ n. AllByRecursion (λ r. AreOfProducers n r.sections) d.script.rounds) count h.rounds);
    }

numbered-acts : (p : Place) (d e : Draft) (acts : List Act) → in_section p d acts ≡ Ok e → IsNumbered d → IsNumbered e
numbered-acts (place.Section producer) d e acts is h = subst IsNumbered (same-ok (record d { acts = d.acts ++ acts }) e is) (record { names = h.names; place = h.place; sections = h.sections; rounds = h.rounds })
numbered-acts place.Head d e acts is h = cc
numbered-acts place.Settled d e acts is h = cc

-- what is open ends, and another place is next
numbered-ended : (p next : Place) (d : Draft) → d.place ≡ p → IsNumbered d → PlaceIn (length d.script.producers) next → IsNumbered (record (ended_in p d) { place = next })
numbered-ended place.Head next d is h here = record { names = h.names; place = here; sections = h.sections; rounds = h.rounds }
numbered-ended (place.Section producer) next d is h here =
    let open_is : IsProducerNumber (length d.script.producers) producer = subst (PlaceIn (length d.script.producers)) is h.place in
    record { names = h.names; place = here; sections = all-push (λ s. IsProducerNumber (length d.script.producers) s.producer) d.sections (record { producer = producer; acts = d.acts }) h.sections open_is; rounds = h.rounds }
numbered-ended place.Settled next d is h here =
    record { names = h.names; place = here; sections = tt; rounds = all-push (λ r. AreOfProducers (length d.script.producers) r.sections) d.script.rounds (record { sections = d.sections; shows = d.shows }) h.rounds h.sections }

numbered-new : (d : Draft) (name : List ℕ) → position (bytes_eq name) d.script.producers ≡ None → IsNumbered d → IsNumbered (with_producer d name)
numbered-new d name none h =
    let count : length (d.script.producers ++ name ∷ []) ≡ length d.script.producers + 1 = length-append d.script.producers (name ∷ []) in
    let more : (n : ℕ) → IsProducerNumber (length d.script.producers) n → IsProducerNumber (length (d.script.producers ++ name ∷ [])) n = λ n i. (i.0, omega (arith, i.1, count)) in
    record {
      names = distinct-more d.script.producers name h.names none;
      place = place-more d.place more h.place;
      sections = all-map _ _ (λ s. more s.producer) d.sections h.sections;
      rounds = all-map _ _ (λ r. all-map _ _ (λ s. more s.producer) r.sections) d.script.rounds h.rounds;
    }
  where
    place-more : (p : Place) → ((n : ℕ) → IsProducerNumber (length d.script.producers) n → IsProducerNumber (length (d.script.producers ++ name ∷ [])) n) → PlaceIn (length d.script.producers) p → PlaceIn (length (d.script.producers ++ name ∷ [])) p
    place-more place.Head more h = tt
    place-more (place.Section producer) more h = more producer h
    place-more place.Settled more h = tt

numbered-named-new : (d e : Draft) (name : List ℕ) (fits : Bool) → position (bytes_eq name) d.script.producers ≡ None → IsNumbered d → cond fits (Ok (section_begun (with_producer d name) (length d.script.producers + 1))) (Err why.TooManyProducers) ≡ Ok e → IsNumbered e
numbered-named-new d e name true none h is =
    let count : length (d.script.producers ++ name ∷ []) ≡ length d.script.producers + 1 = length-append d.script.producers (name ∷ []) in
    let here : IsProducerNumber (length (d.script.producers ++ name ∷ [])) (length d.script.producers + 1) = (omega arith, omega (arith, count)) in
    subst IsNumbered (same-ok _ _ is) (numbered-ended d.place (place.Section (length d.script.producers + 1)) (with_producer d name) refl (numbered-new d name none h) here)
numbered-named-new d e name false none h is = cc

numbered-named : (d e : Draft) (name : List ℕ) (at : Option ℕ) → position (bytes_eq name) d.script.producers ≡ at → IsNumbered d → producer_named d name at ≡ Ok e → IsNumbered e
numbered-named d e name (Some at) found h is =
    let there = cond_some (ltb (position_or_len (bytes_eq name) d.script.producers) (length d.script.producers)) (position_or_len (bytes_eq name) d.script.producers) at found in
    let within : position_or_len (bytes_eq name) d.script.producers < length d.script.producers = ltb-true _ _ there.0 in
    let here : IsProducerNumber (length d.script.producers) (at + 1) = (omega arith, omega (arith, within, there.1)) in
    subst IsNumbered (same-ok _ _ is) (numbered-ended d.place (place.Section (at + 1)) d refl h here)
numbered-named d e name None found h is = numbered-named-new d e name (nat_lt (length d.script.producers) 4) found h is

numbered-line : (d e : Draft) (line : Line) → draft_with_line d line ≡ Ok e → IsNumbered d → IsNumbered e
numbered-line d e Blank is h = subst IsNumbered (same-ok _ _ is) h
numbered-line d e (Head line) is h = numbered-still d e (still-in_head d.place d e line is) (kept-in_head d.place d e line is) h
numbered-line d e (Producer name) is h = numbered-named d e name (position (bytes_eq name) d.script.producers) refl h is
numbered-line d e (Put write) is h = numbered-acts d.place d e (act.Write write ∷ []) is h
numbered-line d e (Batch (Some writes)) is h = numbered-acts d.place d e (map act.Write writes) is h
numbered-line d e (Batch None) is h = cc
numbered-line d e Block is h = cc
numbered-line d e Restart is h = numbered-acts d.place d e (act.Restart ∷ []) is h
numbered-line d e Settle is h = subst IsNumbered (same-ok _ _ is) (numbered-ended d.place place.Settled d refl h tt)
numbered-line d e (Shown what) is h = numbered-still d e (still-shown d.place d e what is) (kept-shown d.place d e what is) h
numbered-line d e Other is h = cc

-- ---- scripts

pub record IsNumberedScript (script : Script) : Type 0 where
  pub names : AreDistinct script.producers
  pub rounds : AllByRecursion (λ r. AreOfProducers (length script.producers) r.sections) script.rounds

numbered-close : (p : Place) (d : Draft) → d.place ≡ p → IsNumbered d → IsNumberedScript (ended_in p d).script
numbered-close p d is h =
    let n = numbered-ended p place.Settled d is h tt in
    record { names = n.names; rounds = n.rounds }

numbered-at : (p : Place) (d : Draft) → d.place ≡ p → IsNumbered d → IsNumberedScript (script_at p d)
numbered-at place.Settled d is h = numbered-close d.place d refl h
numbered-at place.Head d is h = numbered-close place.Settled (round_settled d) refl (numbered-ended d.place place.Settled d refl h tt)
numbered-at (place.Section producer) d is h = numbered-close place.Settled (round_settled d) refl (numbered-ended d.place place.Settled d refl h tt)

none-distinct : AreDistinct []
unfolding AreDistinct
none-distinct i j i_in j_in same = absurd (omega (arith, i_in))

-- the producers of an accepted script have names of their own, and its sections are of these producers
pub numbered-script : (bytes : List ℕ) (script : Script) → script_of bytes ≡ Ok script → IsNumberedScript script
numbered-script bytes script h =
    kept-script IsNumbered (λ d e line read is n. numbered-line d e line is n) (λ d block n. record { names = n.names; place = n.place; sections = n.sections; rounds = n.rounds }) IsNumberedScript (λ d n. numbered-at d.place d refl n) bytes script (record { names = none-distinct; place = tt; sections = tt; rounds = tt }) h

-- ---- the writes of a producer in a round

writes-append : (round : ℕ) (name : List ℕ) (xs ys : List PlacedWrite) → writes_of round name (xs ++ ys) ≡ writes_of round name xs ++ writes_of round name ys
writes-append round name [] ys = refl
writes-append round name (x ∷ xs) ys = by (x.round == round && bytes_eq x.producer name) x (filter (λ p. p.round == round && bytes_eq p.producer name) (xs ++ ys)) (filter (λ p. p.round == round && bytes_eq p.producer name) xs) (writes_of round name ys) (writes-append round name xs ys)
  where
    by : (b : Bool) (x : PlacedWrite) (all first : List PlacedWrite) (last : List Write) → map (λ p. p.write) all ≡ map (λ p. p.write) first ++ last → map (λ p. p.write) (cond b (x ∷ all) all) ≡ map (λ p. p.write) (cond b (x ∷ first) first) ++ last
    by true x all first last h = ap (λ ws. x.write ∷ ws) h
    by false x all first last h = h

writes-acts : (round : ℕ) (name : List ℕ) (n : ℕ) (other : List ℕ) (acts : List Act) → writes_of round name (acts_writes n other acts) ≡ cond (n == round && bytes_eq other name) (acts_of acts) []
writes-acts round name n other [] = none (n == round && bytes_eq other name)
  where
    none : (b : Bool) → [] ≡ cond b (acts_of []) []
    none true = refl
    none false = refl
writes-acts round name n other (act.Write w ∷ acts) = by (n == round && bytes_eq other name) w (filter (λ p. p.round == round && bytes_eq p.producer name) (acts_writes n other acts)) (acts_of acts) (writes-acts round name n other acts)
  where
    by : (b : Bool) (w : Write) (all : List PlacedWrite) (rest : List Write) → map (λ p. p.write) all ≡ cond b rest [] → map (λ p. p.write) (cond b (placed n other w ∷ all) all) ≡ cond b (w ∷ rest) []
    by true w all rest h = ap (λ ws. w ∷ ws) h
    by false w all rest h = h
writes-acts round name n other (act.Restart ∷ acts) = writes-acts round name n other acts

both : (a b : Bool) (xs ys : List Write) → cond (a && b) xs [] ++ cond a ys [] ≡ cond a (cond b xs [] ++ ys) []
both true b xs ys = refl
both false b xs ys = refl

writes-sections : (names : List (List ℕ)) (round producer n : ℕ) (sections : List Section) → AreDistinct names → IsProducerNumber (length names) producer → AreOfProducers (length names) sections
    → writes_of round (producer_name names producer) (sections_writes names n sections) ≡ cond (n == round) (sections_by producer sections) []
writes-sections names round producer n [] distinct here all = none (n == round)
  where
    none : (b : Bool) → [] ≡ cond b (sections_by producer []) []
    none true = refl
    none false = refl
writes-sections names round producer n (s ∷ ss) distinct here all =
    writes-append round (producer_name names producer) (acts_writes n (producer_name names s.producer) s.acts) (sections_writes names n ss)
    ∙ ap₂ (λ xs ys. xs ++ ys)
    (writes-acts round (producer_name names producer) n (producer_name names s.producer) s.acts ∙ ap (λ b. cond (n == round && b) (acts_of s.acts) []) (same_number names s.producer producer distinct all.0 here))
    (writes-sections names round producer n ss distinct here all.1)
    ∙ both (n == round) (s.producer == producer) (acts_of s.acts) (sections_by producer ss)

writes-rounds : (names : List (List ℕ)) (round producer n : ℕ) (rounds : List Round) → AreDistinct names → IsProducerNumber (length names) producer → AllByRecursion (λ r. AreOfProducers (length names) r.sections) rounds
    → writes_of round (producer_name names producer) (rounds_writes names n rounds) ≡ sections_from n round producer rounds
writes-rounds names round producer n [] distinct here all = refl
writes-rounds names round producer n (r ∷ rounds) distinct here all =
    writes-append round (producer_name names producer) (sections_writes names n r.sections) (rounds_writes names (n + 1) rounds)
    ∙ ap₂ (λ xs ys. xs ++ ys) (writes-sections names round producer n r.sections distinct here all.0) (writes-rounds names round producer (n + 1) rounds distinct here all.1)

-- the writes of a producer's sections are those of their lines
pub sections-by_lines : (bytes : List ℕ) (script : Script) (round producer : ℕ) → script_of bytes ≡ Ok script → 0 < producer → producer ≤ length script.producers
    → sections_of script round producer ≡ writes_of round (producer_name script.producers producer) (text_writes bytes)
sections-by_lines bytes script round producer h some within =
    let n = numbered-script bytes script h in
    sym (writes-rounds script.producers round producer 1 script.rounds n.names (some, within) n.rounds) ∙ ap (writes_of round (producer_name script.producers producer)) (writes-by_lines bytes script h)
