-- The calls of a round that took effect, as the report lists them. Own.
use Rattle.std.specs.Prelude.{ℕ, zero, suc, ◌+◌, ◌-◌, List, [], ◌∷◌, ◌++◌, length, codes, Option, Some, None}
use Rattle.std.specs.Fmt.{decimal}
use Rattle.table_schema.specs.Plan.{Ports}
use Rattle.sai_types.specs.declared.body.Call.{Call}
use Rattle.sai_types.specs.declared.body.Call.TheVariants as call
use Rattle.sai_types.specs.declared.ids.Rid.{Rid}
use Rattle.sai_types.specs.declared.thing.Thing.{Thing}
use Rattle.sai_chip.specs.Replay.{effect_thing}
use Rattle.sai_chip.specs.SimChip.{effect_at}
use Rattle.swss_report.specs.ChipLine.{thing_text}
use Rattle.swss_report.specs.Counted.{count_line}

abbrev pub verb_text : Option (Call Rid) → List ℕ
verb_text None = []
verb_text (Some (call.Create body)) = codes " create "
verb_text (Some (call.Set entry attr)) = codes " set "
verb_text (Some (call.Remove entry)) = codes " remove "

-- the words of the thing that an effect was about; a legal call is always about one
abbrev pub about_text : Ports → Option Thing → List ℕ
about_text plan None = []
about_text plan (Some thing) = thing_text plan thing

-- the line of effect k, counted from 1
abbrev pub call_text : Ports → List (Call Rid) → ℕ → List ℕ
call_text plan effects k = decimal k ++ verb_text (effect_at effects k) ++ about_text plan (effect_thing effects k) ++ 10 ∷ []

-- the lines of so many effects behind the first `before`
abbrev pub call_lines : Ports → List (Call Rid) → ℕ → ℕ → List ℕ
call_lines plan effects before zero = []
call_lines plan effects before (suc n) = call_text plan effects (before + 1) ++ call_lines plan effects (before + 1) n

-- how many effects there are behind the first `before`, and their lines
abbrev pub calls_text : Ports → ℕ → List (Call Rid) → List ℕ
calls_text plan before effects = count_line (codes "calls ") (length effects - before) ++ call_lines plan effects before (length effects - before)
