-- a fact of drafts that each line keeps holds to the end of the script
use Rattle.std.proofs.Common.{◌≡◌, ℕ, ◌+◌, nat_lt, Bool, true, false, cond, not, List, [], ◌∷◌, length, Option, Some, None, option_and_then, Result, Ok, Err, refl, subst}
use Rattle.swss_script.specs.Batch.{batch_of}
use Rattle.swss_script.specs.Line.{is_block, script_line_of}
use Rattle.swss_script.specs.Lines.{block_of, is_end, is_too_long, line_text, lines_in, text_of}
use Rattle.swss_script.specs.Script.{new_draft, in_block, script_at, script_from, script_of, step, draft_step, with_block, draft_with_line, with_text}
use Rattle.swss_script.specs.declared.draft.Draft.{Draft}
use Rattle.swss_script.specs.declared.line.Line.{Line}
use Rattle.swss_script.specs.declared.line.Line.TheVariants.{Batch}
use Rattle.swss_script.specs.declared.refused.Why.{Why}
use Rattle.swss_script.specs.declared.script.Script.{Script}
use Rattle.swss_script.proofs.ImageRows.{HasReadImage, line-read}
use Rattle.swss_script.proofs.PlacedWrites.{accepted, same-script, steps-if}
use Rattle.swss_script.proofs.Steps.{same-ok}

module _ (P : Draft → Type 0) (by_line : (d e : Draft) (line : Line) → HasReadImage line → draft_with_line d line ≡ Ok e → P d → P e) (in_lines : (d : Draft) (block : Bool) → P d → P (record d { block = block })) where
  kept-block : (e : Draft) (answer : Result Draft Why) → ((f : Draft) → answer ≡ Ok f → P f) → in_block answer ≡ Ok e → P e
  kept-block e (Ok f) holds h = subst P (same-ok (record f { block = true }) e h) (in_lines f true (holds f refl))
  kept-block e (Err reason) holds h = cc

  kept-with : (d e : Draft) (line : Line) (rest : List (List ℕ)) (block : Bool) → HasReadImage line → cond block (with_block d rest) (draft_with_line d line) ≡ Ok e → P d → P e
  kept-with d e line rest true read h holds = kept-block e (draft_with_line d (Batch (option_and_then batch_of (block_of rest)))) (λ f is. by_line d f (Batch (option_and_then batch_of (block_of rest))) tt is holds) h
  kept-with d e line rest false read h holds = by_line d e line read h holds

  kept-text : (d e : Draft) (text : Option (List ℕ)) (rest : List (List ℕ)) → with_text d text rest ≡ Ok e → P d → P e
  kept-text d e None rest h holds = cc
  kept-text d e (Some text) rest h holds = kept-with d e (script_line_of text) rest (is_block (script_line_of text)) (line-read text) h holds

  kept-inside : (d e : Draft) (bytes : List ℕ) (rest : List (List ℕ)) (block : Bool) → cond block (Ok (record d { block = not (is_end bytes) })) (with_text d (text_of bytes) rest) ≡ Ok e → P d → P e
  kept-inside d e bytes rest true h holds = subst P (same-ok (record d { block = not (is_end bytes) }) e h) (in_lines d (not (is_end bytes)) holds)
  kept-inside d e bytes rest false h holds = kept-text d e (text_of bytes) rest h holds

  kept-step : (d e : Draft) (number : ℕ) (line : List ℕ) (rest : List (List ℕ)) → step d number line rest ≡ Ok e → P d → P e
  kept-step d e number line rest h holds =
      let text = steps-if (nat_lt 1000000 number) _ (draft_step d (line_text line) rest) e h in
      let inside = steps-if (is_too_long (line_text line)) _ _ e text in
      kept-inside d e (line_text line) rest d.block inside holds

  module _ (Q : Script → Type 0) (at_end : (d : Draft) → P d → Q (script_at d.place d)) where
    kept-by : (d : Draft) (number : ℕ) (line : List ℕ) (rest : List (List ℕ)) (script : Script) (answer : Result Draft Why) → step d number line rest ≡ answer → P d
        → ((e : Draft) → P e → script_from (Ok e) number rest ≡ Ok script → Q script)
        → script_from answer number rest ≡ Ok script → Q script
    kept-by d number line rest script (Err reason) is holds more h = cc
    kept-by d number line rest script (Ok e) is holds more h = more e (kept-step d e number line rest is holds) h

    kept-from : (d : Draft) (number : ℕ) (lines : List (List ℕ)) (script : Script) → P d → script_from (Ok d) number lines ≡ Ok script → Q script
    kept-from d number [] script holds h = subst Q (same-script _ _ (script_from (Ok d) number []) refl h) (at_end d holds)
    kept-from d number (line ∷ lines) script holds h = kept-by d (number + 1) line lines script (step d (number + 1) line lines) refl holds (λ e more k. kept-from e (number + 1) lines script more k) h

    -- what holds of an accepted script
    pub kept-script : (bytes : List ℕ) (script : Script) → P new_draft → script_of bytes ≡ Ok script → Q script
    kept-script bytes script holds h = kept-from new_draft 0 (lines_in bytes) script holds (accepted (nat_lt 67108864 (length bytes)) _ _ script h)
