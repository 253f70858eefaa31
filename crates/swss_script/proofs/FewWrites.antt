-- a script without batches has no more writes than lines
use Rattle.std.proofs.Common.{◌≡◌, ℕ, suc, ◌+◌, ◌≤◌, Bool, true, false, not, zero, List, [], ◌∷◌, ◌++◌, length, map, slice_get, Some, Result, Ok, Err, refl, ap, arith, nat_lt, length-append}
use Rattle.std.specs.List.{list_any}
use Rattle.std.proofs.lemmas.Bool.{or_parts}
use Rattle.table_schema.specs.declared.write.Sent.{Sent}
use Rattle.table_schema.specs.declared.write.Write.{Write}
use Rattle.swss_script.specs.Line.{is_block, script_line_of}
use Rattle.swss_script.specs.Lines.{is_end, line_text, lines_in}
use Rattle.swss_script.specs.Plain.{has_batch, is_batch}
use Rattle.swss_script.specs.Script.{new_draft, script_from, script_of, step}
use Rattle.swss_script.specs.Sections.{acts_of, acts_writes, line_writes, lines_writes, name_behind, producer_name, round_behind, rounds_writes, sections_writes, told}
use Rattle.swss_script.specs.Sent.{next_sent, sent_after, sent_in_round, writes_in}
use Rattle.swss_script.specs.declared.draft.Draft.{Draft}
use Rattle.swss_script.specs.declared.line.Line.{Line}
use Rattle.swss_script.specs.declared.line.Line.TheVariants.{Blank, Head, Producer, Put, Batch, Block, Restart, Settle, Shown, Other}
use Rattle.swss_script.specs.declared.parts.Act.{Act}
use Rattle.swss_script.specs.declared.parts.Act.TheVariants as act
use Rattle.swss_script.specs.declared.parts.Round.{Round}
use Rattle.swss_script.specs.declared.parts.Section.{Section}
use Rattle.swss_script.specs.declared.refused.Why.{Why}
use Rattle.swss_script.specs.declared.script.Script.{Script}
use Rattle.swss_script.proofs.PlacedWrites.{accepted, writes-by_lines}
use Rattle.swss_script.proofs.Steps.{within-step}

-- ---- lines

-- an accepted script has no more lines than the limit
lines-from : (r : Result Draft Why) (number : ℕ) (lines : List (List ℕ)) (script : Script) → number ≤ 1000000 → script_from r number lines ≡ Ok script → number + length lines ≤ 1000000
lines-from (Err reason) number lines script few is = cc
lines-from (Ok d) number [] script few is = omega (arith, few)
lines-from (Ok d) number (line ∷ lines) script few is = by (step d (number + 1) line lines) refl is (λ e fits more. lines-from (Ok e) (number + 1) lines script fits more)
  where
    by : (r : Result Draft Why) → step d (number + 1) line lines ≡ r → script_from r (number + 1) lines ≡ Ok script → ((e : Draft) → number + 1 ≤ 1000000 → script_from (Ok e) (number + 1) lines ≡ Ok script → (number + 1) + length lines ≤ 1000000) → number + suc (length lines) ≤ 1000000
    by (Err reason) at is ih = cc
    by (Ok e) at is ih =
        let more = ih e (within-step d e (number + 1) line lines at) is in
        omega (arith, more)

pub few-lines : (bytes : List ℕ) (script : Script) → script_of bytes ≡ Ok script → length (lines_in bytes) ≤ 1000000
few-lines bytes script is =
    let few = lines-from (Ok new_draft) 0 (lines_in bytes) script (omega arith) (accepted (nat_lt 67108864 (length bytes)) _ (script_from (Ok new_draft) 0 (lines_in bytes)) script is) in
    omega (arith, few)

-- the lines of a block are a part of one
few-told : (block : Bool) (lines : List (List ℕ)) → length (told block lines) ≤ length lines
few-told true [] = omega arith
few-told false [] = omega arith
few-told true (line ∷ lines) =
    let more = few-told (not (is_end (line_text line))) lines in
    omega (arith, more)
few-told false (line ∷ lines) =
    let more = few-told (is_block (script_line_of (line_text line))) lines in
    omega (arith, more)

-- ---- the writes of lines

one-write : (round : ℕ) (name : List ℕ) (line : Line) → is_batch line ≡ false → length (line_writes round name line) ≤ 1
one-write round name Blank plain = omega arith
one-write round name (Head line) plain = omega arith
one-write round name (Producer other) plain = omega arith
one-write round name (Put write) plain = omega arith
one-write round name (Batch writes) plain = cc
one-write round name Block plain = omega arith
one-write round name Restart plain = omega arith
one-write round name Settle plain = omega arith
one-write round name (Shown what) plain = omega arith
one-write round name Other plain = omega arith

few-by_lines : (round : ℕ) (name : List ℕ) (lines : List Line) → list_any is_batch lines ≡ false → length (lines_writes round name lines) ≤ length lines
few-by_lines round name [] plain = omega arith
few-by_lines round name (line ∷ lines) plain =
    let both = or_parts (is_batch line) (list_any is_batch lines) plain in
    let one = one-write round name line both.0 in
    let more = few-by_lines (round_behind round line) (name_behind name line) lines both.1 in
    omega (arith, one, more, length-append (line_writes round name line) (lines_writes (round_behind round line) (name_behind name line) lines))

-- ---- the writes of a round

length-sent : (sent : List Sent) (writes : List (ℕ × Write)) → length (sent_after sent writes) ≡ length sent + length writes
length-sent sent [] = omega arith
length-sent sent (next ∷ more) =
    let rest = length-sent (sent ++ next_sent sent next ∷ []) more in
    omega (arith, rest, length-append sent (next_sent sent next ∷ []))

length-acts : (n p : ℕ) (name : List ℕ) (acts : List Act) → length {A = ℕ × Write} (map (λ (w : Write). (p, w)) (acts_of acts)) ≡ length (acts_writes n name acts)
length-acts n p name [] = refl
length-acts n p name (act.Write write ∷ acts) = ap (λ k. suc k) (length-acts n p name acts)
length-acts n p name (act.Restart ∷ acts) = length-acts n p name acts

length-sections : (names : List (List ℕ)) (n : ℕ) (sections : List Section) → length (writes_in sections) ≡ length (sections_writes names n sections)
length-sections names n [] = refl
length-sections names n (s ∷ sections) =
    omega (
      arith,
      length-acts n s.producer (producer_name names s.producer) s.acts,
      length-sections names n sections,
      length-append {A = ℕ × Write} (map (λ (w : Write). (s.producer, w)) (acts_of s.acts)) (writes_in sections),
      length-append (acts_writes n (producer_name names s.producer) s.acts) (sections_writes names n sections),
    )

few-in_round : (names : List (List ℕ)) (n : ℕ) (rounds : List Round) (at : ℕ) (round : Round) → slice_get rounds at ≡ Some round → length (writes_in round.sections) ≤ length (rounds_writes names n rounds)
few-in_round names n [] at round is = cc
few-in_round names n (r ∷ rounds) zero round is =
    let same : round ≡ r = cc in
    omega (
      arith,
      ap (λ (x : Round). length (writes_in x.sections)) same,
      length-sections names n r.sections,
      length-append (sections_writes names n r.sections) (rounds_writes names (n + 1) rounds),
    )
few-in_round names n (r ∷ rounds) (suc at) round is =
    let more = few-in_round names (n + 1) rounds at round is in
    omega (arith, more, length-append (sections_writes names n r.sections) (rounds_writes names (n + 1) rounds))

-- a round of an accepted script without batches has no more writes than the script has lines
pub few-writes : (bytes : List ℕ) (script : Script) (at : ℕ) (round : Round) → script_of bytes ≡ Ok script → has_batch bytes ≡ false → slice_get script.rounds at ≡ Some round → length (sent_in_round round) ≤ length (lines_in bytes)
few-writes bytes script at round is plain there =
    let sent = length-sent [] (writes_in round.sections) in
    let within = few-in_round script.producers 1 script.rounds at round there in
    let all = ap length (writes-by_lines bytes script is) in
    let lines = few-by_lines 1 [] (told false (lines_in bytes)) plain in
    omega (arith, sent, within, all, lines, few-told false (lines_in bytes))
