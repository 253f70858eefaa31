-- calls read line by line
use Rattle.std.proofs.Common.{◌≡◌, ◌≢◌, inr, ℕ, ◌+◌, ◌<◌, ◌≤◌, List, [], ◌∷◌, ◌++◌, flat_map, length, length-append, Ok, Err, sym, ap, ◌∙◌, append_assoc, arith}
use Rattle.std.specs.List.{AllByRecursion}
use Rattle.std.proofs.lemmas.List.{append-nil}
use Rattle.sai_types.specs.declared.caps.Caps.{Caps}
use Rattle.sai_record.specs.Line.{call_line, closed, closed_call, head_line}
use Rattle.sai_record.specs.Lines.{AreReadFrom}
use Rattle.sai_record.specs.Ranges.{AreCaps, IsRecorded}
use Rattle.sai_record.specs.Reading.{BeginsWithNoCall, IsReadAs}
use Rattle.sai_record.specs.declared.reading.BadRecord.{BadRecord}
use Rattle.sai_record.specs.declared.recording.Recorded.{Recorded}

-- ---- one call more

lines_more : (calls : List Recorded) (r : Recorded) → flat_map closed_call (calls ++ r ∷ []) ≡ flat_map closed_call calls ++ closed_call r
lines_more [] r = append-nil (closed_call r)
lines_more (c ∷ cs) r = ap (λ text. closed_call c ++ text) (lines_more cs r) ∙ sym (append_assoc (closed_call c) (flat_map closed_call cs) (closed_call r))

each_more : (calls : List Recorded) (r : Recorded) → AllByRecursion IsRecorded calls → IsRecorded r → AllByRecursion IsRecorded (calls ++ r ∷ [])
each_more [] r h good = (good, tt)
each_more (c ∷ cs) r h good = (h.0, each_more cs r h.1 good)

closed_len : (r : Recorded) (rest : List ℕ) → length rest < length (closed_call r ++ rest)
closed_len r rest =
    let whole : length (closed_call r ++ rest) ≡ length (closed_call r) + length rest = length-append (closed_call r) rest in
    let line : length (closed_call r) ≡ length (call_line r) + 1 = length-append (call_line r) (10 ∷ []) in
    omega (arith, whole, line)

calls_len : (calls : List Recorded) (r : Recorded) → length (calls ++ r ∷ []) ≡ length calls + 1
calls_len calls r = length-append calls (r ∷ [])

-- the lines so far are those of the calls so far
abbrev pub AreLines : List ℕ → List Recorded → List ℕ → ℕ → Type 0
AreLines text calls left line = (text ≡ flat_map closed_call calls ++ left) × AllByRecursion IsRecorded calls × (line ≡ length calls + 1) × (length calls + length left ≤ length text)

pub line-shorter : (left rest : List ℕ) (r : Recorded) → left ≡ closed_call r ++ rest → length rest < length left
line-shorter left rest r is =
    let same : length left ≡ length (closed_call r ++ rest) = ap length is in
    let less : length rest < length (closed_call r ++ rest) = closed_len r rest in
    omega (arith, same, less)

pub line-more : (text : List ℕ) (calls : List Recorded) (left rest : List ℕ) (line : ℕ) (r : Recorded) → AreLines text calls left line → IsRecorded r × (left ≡ closed_call r ++ rest) → AreLines text (calls ++ r ∷ []) rest (line + 1)
line-more text calls left rest line r x h = (
  x.0 ∙ ap (λ l. flat_map closed_call calls ++ l) h.1 ∙ sym (append_assoc (flat_map closed_call calls) (closed_call r) rest) ∙ ap (λ front. front ++ rest) (sym (lines_more calls r)),
  each_more calls r x.1 h.0,
  omega (arith, x.2, calls_len calls r),
  omega (arith, x.3, calls_len calls r, line-shorter left rest r h.1),
)

pub line-bad : (text : List ℕ) (calls : List Recorded) (left : List ℕ) (line : ℕ) → AreLines text calls left line → left ≢ [] → BeginsWithNoCall left → AreReadFrom text (Err (record { line = line + 1 }))
line-bad text calls left line x some bad = (calls, record { each = x.1; rest = left; is = x.0; some = some; bad = bad }, ap (λ n. n + 1) x.2 ∙ two (length calls))
  where
    two : (n : ℕ) → n + 1 + 1 ≡ n + 2
    two n = omega arith

pub lines-end : (text : List ℕ) (calls : List Recorded) (left : List ℕ) (line : ℕ) → AreLines text calls left line → left ≡ [] → AllByRecursion IsRecorded calls × (text ≡ flat_map closed_call calls)
lines-end text calls left line x empty = (x.1, x.0 ∙ ap (λ l. flat_map closed_call calls ++ l) empty ∙ append-nil (flat_map closed_call calls))

-- ---- the whole text

module _ (bytes : List ℕ) (caps : Caps) (rest : List ℕ) (head : AreCaps caps × (bytes ≡ closed (head_line caps) ++ rest)) where
  pub read-text : (calls : List Recorded) → AllByRecursion IsRecorded calls × (rest ≡ flat_map closed_call calls) → IsReadAs bytes (Ok (record { caps = caps; calls = calls }))
  read-text calls x = record { recording = record { caps = head.0; calls = x.0 }; is = head.1 ∙ ap (λ text. closed (head_line caps) ++ text) x.1 }

  pub read-bad : (bad : BadRecord) → AreReadFrom rest (Err bad) → IsReadAs bytes (Err bad)
  read-bad bad x = inr (record { caps = caps; are = head.0; behind = rest; is = head.1; calls = x.0; breaks = x.1; number = x.2 })
