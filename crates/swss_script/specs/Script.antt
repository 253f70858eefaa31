-- What the bytes of a script mean: the lines one after the other, each in its place, or the first refusal. Own.
use Rattle.std.specs.Prelude.{◌≡◌, ℕ, ◌+◌, ◌==◌, nat_lt, true, false, not, List, [], ◌∷◌, ◌++◌, length, map, slice_index_or, slice_set, Option, Some, None, option_and_then, Result, Ok, Err, bytes_eq, if◌then◌else◌}
use Rattle.std.specs.List.{list_any, position}
use Rattle.sai_types.specs.Objects.{level}
use Rattle.sai_types.specs.declared.caps.Caps.{Caps}
use Rattle.sai_types.specs.declared.kind.Kind.{Kind}
use Rattle.table_schema.specs.Plan.{Ports, plan_step}
use Rattle.table_schema.specs.Rows.{Rows}
use Rattle.table_schema.specs.declared.plan.PlanWhy.{PlanWhy}
use Rattle.swss_image.specs.declared.fault.ImageFault.{ImageFault}
use Rattle.swss_script.specs.Batch.{batch_of}
use Rattle.swss_script.specs.Line.{is_block, script_line_of}
use Rattle.swss_script.specs.Lines.{block_of, is_end, is_too_long, line_text, lines_in, text_of}
use Rattle.swss_script.specs.declared.draft.Draft.{Draft}
use Rattle.swss_script.specs.declared.draft.Place.{Place}
use Rattle.swss_script.specs.declared.draft.Place.TheVariants as place
use Rattle.swss_script.specs.declared.line.HeadLine.{HeadLine}
use Rattle.swss_script.specs.declared.line.HeadLine.TheVariants as head
use Rattle.swss_script.specs.declared.line.Line.{Line}
use Rattle.swss_script.specs.declared.line.Line.TheVariants.{Blank, Head, Producer, Put, Batch, Block, Restart, Settle, Shown, Other}
use Rattle.swss_script.specs.declared.parts.Act.{Act}
use Rattle.swss_script.specs.declared.parts.Act.TheVariants as act
use Rattle.swss_script.specs.declared.parts.Fail2.{Fail2}
use Rattle.swss_script.specs.declared.parts.Show.{Show}
use Rattle.swss_script.specs.declared.refused.Refused.{Refused}
use Rattle.swss_script.specs.declared.refused.Why.{Why}
use Rattle.swss_script.specs.declared.refused.Why.TheVariants as why
use Rattle.swss_script.specs.declared.draft.TheConstants.{DEFAULT_CAPS, MOST_PRODUCERS}
use Rattle.swss_script.specs.declared.script.Script.{Script}
use Rattle.swss_script.specs.declared.script.TheConstants.{MOST_BYTES, MOST_LINES}

-- the capacities of a chip, where the head sets none
abbrev pub default_caps : Caps
default_caps = DEFAULT_CAPS

-- ---- sections and rounds

-- a section of a producer ends
abbrev pub section_ended : ℕ → Draft → Draft
section_ended producer d = record d { sections = d.sections ++ (record { producer = producer; acts = d.acts }) ∷ []; acts = [] }

-- a round ends, with its shows
abbrev pub draft_round_ended : Draft → Draft
draft_round_ended d = record d { script = record d.script { rounds = d.script.rounds ++ (record { sections = d.sections; shows = d.shows }) ∷ [] }; sections = []; shows = [] }

abbrev pub ended_in : Place → Draft → Draft
ended_in place.Head d = d
ended_in (place.Section producer) d = section_ended producer d
ended_in place.Settled d = draft_round_ended d

-- what is open ends: a section, or a round that was settled
abbrev pub ended : Draft → Draft
ended d = ended_in d.place d

-- a section of a producer begins
abbrev pub section_begun : Draft → ℕ → Draft
section_begun d producer = record (ended d) { place = place.Section producer }

-- a round is settled
abbrev pub round_settled : Draft → Draft
round_settled d = record (ended d) { place = place.Settled }

-- the script at its end: where the last round is not settled, a settle is added
abbrev pub script_at : Place → Draft → Script
script_at place.Settled d = (ended d).script
script_at _ d = (ended (round_settled d)).script

-- ---- what a line adds

abbrev pub with_plan : Draft → Result Ports PlanWhy → Result Draft Why
with_plan d (Ok plan) = Ok (record d { script = record d.script { plan = plan } })
with_plan d (Err fault) = Err (why.BadPlan fault)

abbrev pub with_capacity : Draft → Kind → ℕ → Result Draft Why
with_capacity d kind most =
    if slice_index_or d.kinds (level kind) false then Err why.HeadTwice
    else Ok (record d { script = record d.script { caps = record { 0 = slice_set d.script.caps.0 (level kind) most } }; kinds = slice_set d.kinds (level kind) true })

abbrev pub with_fail : Draft → Fail2 → Result Draft Why
with_fail d fail =
    if list_any (λ other. other.at == fail.at) d.script.fails then Err why.HeadTwice
    else Ok (record d { script = record d.script { fails = d.script.fails ++ fail ∷ [] } })

-- the rows that the service begins with
abbrev pub image_set : Draft → Result Rows ImageFault → Result Draft Why
image_set d (Ok rows) = Ok (record d { script = record d.script { image = rows }; image = true })
image_set d (Err fault) = Err (why.BadImage fault)

-- a second image is one too many, whatever its JSON is
abbrev pub with_image : Draft → Result Rows ImageFault → Result Draft Why
with_image d image = if d.image then Err why.HeadTwice else image_set d image

-- a line of the head
abbrev pub with_head : Draft → HeadLine → Result Draft Why
with_head d (head.Port text) = with_plan d (plan_step d.script.plan text)
with_head d (head.Chip kind most) = with_capacity d kind most
with_head d (head.Fail fail) = with_fail d fail
with_head d (head.Image image) = with_image d image

abbrev pub in_head : Place → Draft → Option HeadLine → Result Draft Why
in_head place.Head d (Some line) = with_head d line
in_head _ d line = Err why.BadHead

-- a producer that was named before keeps its number, and a new one has the next, while there are fewer than a script may have
abbrev pub producer_named : Draft → List ℕ → Option ℕ → Result Draft Why
producer_named d name (Some at) = Ok (section_begun d (at + 1))
producer_named d name None =
    if nat_lt (length d.script.producers) MOST_PRODUCERS then Ok (section_begun (record d { script = record d.script { producers = d.script.producers ++ name ∷ [] } }) (length d.script.producers + 1))
    else Err why.TooManyProducers

abbrev pub in_section : Place → Draft → List Act → Result Draft Why
in_section (place.Section producer) d acts = Ok (record d { acts = d.acts ++ acts })
in_section _ d acts = Err why.BadWord

abbrev pub shown_in : Place → Draft → Show → Result Draft Why
shown_in place.Settled d what = Ok (record d { shows = d.shows ++ what ∷ [] })
shown_in _ d what = Err why.BadWord

-- a line in its place
abbrev pub draft_with_line : Draft → Line → Result Draft Why
draft_with_line d Blank = Ok d
draft_with_line d (Head line) = in_head d.place d line
draft_with_line d (Producer name) = producer_named d name (position (bytes_eq name) d.script.producers)
draft_with_line d (Put write) = in_section d.place d (act.Write write ∷ [])
draft_with_line d (Batch (Some writes)) = in_section d.place d (map act.Write writes)
draft_with_line d (Batch None) = Err why.BadJson
draft_with_line d Block = Err why.BadJson
draft_with_line d Restart = in_section d.place d (act.Restart ∷ [])
draft_with_line d Settle = Ok (round_settled d)
draft_with_line d (Shown what) = shown_in d.place d what
draft_with_line d Other = Err why.BadWord

-- ---- lines one after the other

abbrev pub in_block : Result Draft Why → Result Draft Why
in_block (Ok d) = Ok (record d { block = true })
in_block (Err reason) = Err reason

-- a block: the lines up to its end are the JSON of a batch
abbrev pub with_block : Draft → List (List ℕ) → Result Draft Why
with_block d lines = in_block (draft_with_line d (Batch (option_and_then batch_of (block_of lines))))

-- a line with those behind it
abbrev pub add_with : Draft → Line → List (List ℕ) → Result Draft Why
add_with d line lines = if is_block line then with_block d lines else draft_with_line d line

abbrev pub with_text : Draft → Option (List ℕ) → List (List ℕ) → Result Draft Why
with_text d None lines = Err why.NotUtf8
with_text d (Some text) lines = add_with d (script_line_of text) lines

abbrev pub draft_step : Draft → List ℕ → List (List ℕ) → Result Draft Why
draft_step d text lines =
    if is_too_long text then Err why.LineTooLong
    else if d.block then Ok (record d { block = not (is_end text) })
    else with_text d (text_of text) lines

-- a numbered line with those behind it
abbrev pub step : Draft → ℕ → List ℕ → List (List ℕ) → Result Draft Why
step d number line lines = if nat_lt MOST_LINES number then Err why.TooManyLines else draft_step d (line_text line) lines

-- the script, or the line and reason of the first refusal, where so many lines were read and these follow
abbrev pub script_from : Result Draft Why → ℕ → List (List ℕ) → Result Script Refused
script_from (Err reason) number lines = Err (record { line = number; why = reason })
script_from (Ok d) number [] = Ok (script_at d.place d)
script_from (Ok d) number (line ∷ lines) = script_from (step d (number + 1) line lines) (number + 1) lines

-- before the first line
abbrev pub new_draft : Draft
new_draft = record {
  script = record { plan = []; caps = default_caps; fails = []; image = []; producers = []; rounds = [] };
  kinds = false ∷ false ∷ false ∷ false ∷ false ∷ false ∷ false ∷ false ∷ false ∷ false ∷ false ∷ false ∷ [];
  image = false;
  place = place.Head;
  sections = [];
  acts = [];
  shows = [];
  block = false;
}

-- the script that the bytes are, or their refusal
abbrev pub script_of : List ℕ → Result Script Refused
script_of bytes = if nat_lt MOST_BYTES (length bytes) then Err (record { line = 0; why = why.TooLong }) else script_from (Ok new_draft) 0 (lines_in bytes)

-- a draft that was to come to a value, or to be refused
abbrev pub Becomes : Result Draft Why → Result (Unit {0}) Why → Draft → Type 0
Becomes meant (Ok done) d = meant ≡ Ok d
Becomes meant (Err reason) d = meant ≡ Err reason
