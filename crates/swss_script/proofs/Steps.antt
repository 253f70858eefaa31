-- what a line leaves as it was
use Rattle.std.proofs.Common.{◌≡◌, ℕ, ◌+◌, ◌<◌, ◌≤◌, nat_lt, Bool, true, false, cond, not, List, [], ◌∷◌, ◌++◌, length, Option, Some, None, option_and_then, Result, Ok, Err, refl, sym, ap, ◌∙◌, subst, arith, length-append, bytes_eq}
use Rattle.std.proofs.lemmas.Bool.{ltb-true, ltb-false}
use Rattle.std.specs.List.{position}
use Rattle.table_schema.specs.Plan.{Ports, plan_step}
use Rattle.table_schema.specs.Rows.{Rows}
use Rattle.table_schema.specs.declared.plan.PlanWhy.{PlanWhy}
use Rattle.swss_script.specs.Batch.{batch_of}
use Rattle.swss_script.specs.Line.{is_block, script_line_of}
use Rattle.swss_script.specs.Lines.{block_of, is_end, is_too_long, line_text, text_of}
use Rattle.swss_image.specs.declared.fault.ImageFault.{ImageFault}
use Rattle.swss_script.specs.Script.{ended_in, image_set, in_block, in_head, in_section, producer_named, section_begun, round_settled, shown_in, step, draft_step, with_block, with_head, draft_with_line, with_plan, with_text}
use Rattle.swss_script.specs.declared.draft.Draft.{Draft}
use Rattle.swss_script.specs.declared.draft.Place.{Place}
use Rattle.swss_script.specs.declared.draft.Place.TheVariants as place
use Rattle.swss_script.specs.declared.line.HeadLine.{HeadLine}
use Rattle.swss_script.specs.declared.line.HeadLine.TheVariants as head
use Rattle.swss_script.specs.declared.line.Line.{Line}
use Rattle.swss_script.specs.declared.line.Line.TheVariants.{Blank, Head, Producer, Put, Batch, Block, Restart, Settle, Shown, Other}
use Rattle.swss_script.specs.declared.parts.Act.{Act}
use Rattle.swss_script.specs.declared.parts.Show.{Show}
use Rattle.swss_script.specs.declared.refused.Why.{Why}
use Rattle.swss_script.specs.declared.refused.Why.TheVariants as why

-- there are at most 4 producers
abbrev pub HasFew : Draft → Type 0
HasFew d = length d.script.producers ≤ 4

-- the same producers
abbrev pub AreKept : Draft → Draft → Type 0
AreKept d d' = d'.script.producers ≡ d.script.producers

kept-to : (d middle d' : Draft) → AreKept d middle → middle ≡ d' → AreKept d d'
kept-to d middle d' same is = ap (λ e. e.script.producers) (sym is) ∙ same

abbrev pub done : Draft → Result Draft Why
done d = Ok d

pub same-ok : (x y : Draft) → done x ≡ done y → x ≡ y
same-ok x y h = cc

kept-ended : (p : Place) (d : Draft) → AreKept d (ended_in p d)
kept-ended place.Head d = refl
kept-ended (place.Section producer) d = refl
kept-ended place.Settled d = refl

kept-plan : (d d' : Draft) (plan : Result Ports PlanWhy) → with_plan d plan ≡ Ok d' → AreKept d d'
kept-plan d d' (Ok plan) h = kept-to d _ d' refl (same-ok _ _ h)
kept-plan d d' (Err fault) h = cc

kept-if : (twice : Bool) (reason : Why) (d middle d' : Draft) → AreKept d middle → cond twice (Err reason) (Ok middle) ≡ Ok d' → AreKept d d'
kept-if true reason d middle d' same h = cc
kept-if false reason d middle d' same h = kept-to d middle d' same cc

kept-image : (d d' : Draft) (image : Result Rows ImageFault) (twice : Bool) → cond twice (Err why.HeadTwice) (image_set d image) ≡ Ok d' → AreKept d d'
kept-image d d' image true h = cc
kept-image d d' (Ok rows) false h = kept-to d _ d' refl (same-ok _ _ h)
kept-image d d' (Err fault) false h = cc

kept-head : (d d' : Draft) (line : HeadLine) → with_head d line ≡ Ok d' → AreKept d d'
kept-head d d' (head.Port text) h = kept-plan d d' (plan_step d.script.plan text) h
kept-head d d' (head.Chip kind most) h = kept-if _ _ d _ d' refl h
kept-head d d' (head.Fail fail) h = kept-if _ _ d _ d' refl h
kept-head d d' (head.Image image) h = kept-image d d' image d.image h

pub kept-in_head : (p : Place) (d d' : Draft) (line : Option HeadLine) → in_head p d line ≡ Ok d' → AreKept d d'
kept-in_head place.Head d d' (Some line) h = kept-head d d' line h
kept-in_head place.Head d d' None h = cc
kept-in_head (place.Section producer) d d' line h = cc
kept-in_head place.Settled d d' line h = cc

kept-in_section : (p : Place) (d d' : Draft) (acts : List Act) → in_section p d acts ≡ Ok d' → AreKept d d'
kept-in_section (place.Section producer) d d' acts h = kept-to d _ d' refl (same-ok _ _ h)
kept-in_section place.Head d d' acts h = cc
kept-in_section place.Settled d d' acts h = cc

pub kept-shown : (p : Place) (d d' : Draft) (what : Show) → shown_in p d what ≡ Ok d' → AreKept d d'
kept-shown place.Settled d d' what h = kept-to d _ d' refl (same-ok _ _ h)
kept-shown place.Head d d' what h = cc
kept-shown (place.Section producer) d d' what h = cc

-- a draft with one producer more
abbrev pub with_producer : Draft → List ℕ → Draft
with_producer d name = record d { script = record d.script { producers = d.script.producers ++ name ∷ [] } }

-- a fact of the producers that holds where they stay, and where one more comes
module _ (P : Draft → Type 0) (stays : (d d' : Draft) → AreKept d d' → P d → P d') (adds : (d : Draft) (name : List ℕ) → length d.script.producers < 4 → P d → P (with_producer d name)) where
  holds-new : (d d' : Draft) (name : List ℕ) (fits : Bool) → nat_lt (length d.script.producers) 4 ≡ fits → P d → cond fits (Ok (section_begun (with_producer d name) (length d.script.producers + 1))) (Err why.TooManyProducers) ≡ Ok d' → P d'
  holds-new d d' name true is holds h =
      let more = with_producer d name in
      stays more d' (kept-to more (section_begun more (length d.script.producers + 1)) d' (kept-ended d.place more) (same-ok _ _ h)) (adds d name (ltb-true _ _ is) holds)
  holds-new d d' name false is holds h = cc

  holds-named : (d d' : Draft) (name : List ℕ) (at : Option ℕ) → P d → producer_named d name at ≡ Ok d' → P d'
  holds-named d d' name (Some at) holds h = stays d d' (kept-to d (section_begun d (at + 1)) d' (kept-ended d.place d) (same-ok _ _ h)) holds
  holds-named d d' name None holds h = holds-new d d' name (nat_lt (length d.script.producers) 4) refl holds h

  holds-line : (d d' : Draft) (line : Line) → P d → draft_with_line d line ≡ Ok d' → P d'
  holds-line d d' Blank holds h = stays d d' (kept-to d d d' refl (same-ok _ _ h)) holds
  holds-line d d' (Head line) holds h = stays d d' (kept-in_head d.place d d' line h) holds
  holds-line d d' (Producer name) holds h = holds-named d d' name (position (bytes_eq name) d.script.producers) holds h
  holds-line d d' (Put write) holds h = stays d d' (kept-in_section d.place d d' _ h) holds
  holds-line d d' (Batch (Some writes)) holds h = stays d d' (kept-in_section d.place d d' _ h) holds
  holds-line d d' (Batch None) holds h = cc
  holds-line d d' Block holds h = cc
  holds-line d d' Restart holds h = stays d d' (kept-in_section d.place d d' _ h) holds
  holds-line d d' Settle holds h = stays d d' (kept-to d (round_settled d) d' (kept-ended d.place d) (same-ok _ _ h)) holds
  holds-line d d' (Shown what) holds h = stays d d' (kept-shown d.place d d' what h) holds
  holds-line d d' Other holds h = cc

  holds-block : (d' : Draft) (answer : Result Draft Why) → ((e : Draft) → answer ≡ Ok e → P e) → in_block answer ≡ Ok d' → P d'
  holds-block d' (Ok e) holds h = stays e d' (kept-to e (record e { block = true }) d' refl (same-ok _ _ h)) (holds e refl)
  holds-block d' (Err reason) holds h = cc

  holds-with : (d d' : Draft) (line : Line) (lines : List (List ℕ)) (block : Bool) → P d → cond block (with_block d lines) (draft_with_line d line) ≡ Ok d' → P d'
  holds-with d d' line lines true holds h = holds-block d' (draft_with_line d (Batch (option_and_then batch_of (block_of lines)))) (λ e is. holds-line d e (Batch (option_and_then batch_of (block_of lines))) holds is) h
  holds-with d d' line lines false holds h = holds-line d d' line holds h

  holds-read : (d d' : Draft) (text : Option (List ℕ)) (lines : List (List ℕ)) → P d → with_text d text lines ≡ Ok d' → P d'
  holds-read d d' None lines holds h = cc
  holds-read d d' (Some text) lines holds h = holds-with d d' (script_line_of text) lines (is_block (script_line_of text)) holds h

  holds-if : (wrong : Bool) (reason : Why) (answer : Result Draft Why) (d' : Draft) → (answer ≡ Ok d' → P d') → cond wrong (Err reason) answer ≡ Ok d' → P d'
  holds-if true reason answer d' holds h = cc
  holds-if false reason answer d' holds h = holds h

  holds-text : (block : Bool) (d inside : Draft) (answer : Result Draft Why) (d' : Draft) → AreKept d inside → P d → (answer ≡ Ok d' → P d') → cond block (Ok inside) answer ≡ Ok d' → P d'
  holds-text true d inside answer d' same holds go h = stays d d' (kept-to d inside d' same (same-ok _ _ h)) holds
  holds-text false d inside answer d' same holds go h = go h

  -- it holds after a step
  pub holds-step : (d d' : Draft) (number : ℕ) (line : List ℕ) (lines : List (List ℕ)) → P d → step d number line lines ≡ Ok d' → P d'
  holds-step d d' number line lines holds h =
      let read = holds-read d d' (text_of (line_text line)) lines holds in
      let in_text = holds-text d.block d (record d { block = not (is_end (line_text line)) }) (with_text d (text_of (line_text line)) lines) d' refl holds read in
      holds-if (nat_lt 1000000 number) _ (draft_step d (line_text line) lines) d' (holds-if (is_too_long (line_text line)) _ _ d' in_text) h

-- a step keeps the producers few
pub few-step : (d d' : Draft) (number : ℕ) (line : List ℕ) (lines : List (List ℕ)) → HasFew d → step d number line lines ≡ Ok d' → HasFew d'
few-step d d' number line lines few h =
    let stays : (d d' : Draft) → AreKept d d' → HasFew d → HasFew d' = λ d d' same few. subst (λ names. length names ≤ 4) (sym same) few in
    let adds : (d : Draft) (name : List ℕ) → length d.script.producers < 4 → HasFew d → HasFew (with_producer d name) = λ d name fits few. omega (arith, fits, length-append d.script.producers (name ∷ [])) in
    holds-step HasFew stays adds d d' number line lines few h

line_within : (more : Bool) (number : ℕ) (reason : Why) (answer : Result Draft Why) (d' : Draft) → nat_lt 1000000 number ≡ more → cond more (Err reason) answer ≡ Ok d' → number ≤ 1000000
line_within true number reason answer d' is h = cc
line_within false number reason answer d' is h = ltb-false 1000000 number is

-- and is made for the lines of the limit alone
pub within-step : (d d' : Draft) (number : ℕ) (line : List ℕ) (lines : List (List ℕ)) → step d number line lines ≡ Ok d' → number ≤ 1000000
within-step d d' number line lines h = line_within (nat_lt 1000000 number) number _ _ d' refl h
