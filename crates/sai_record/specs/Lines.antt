-- The lines of a text, one after the other, and what the private functions say that read them.
use Rattle.std.specs.Prelude.{◌≡◌, ℕ, suc, zero, ◌+◌, ◌==◌, false, List, [], ◌∷◌, ◌++◌, codes, flat_map, length, Option, None, Some, Result, Ok, Err, option_and_then}
use Rattle.std.specs.List.{All, AllByRecursion}
use Rattle.swss_types.specs.Interface.{behind}
use Rattle.sai_types.specs.declared.caps.Caps.{Caps}
use Rattle.sai_types.specs.declared.kind.TheConstants.{KINDS}
use Rattle.sai_record.specs.Line.{closed, closed_call, head_line}
use Rattle.sai_record.specs.Ranges.{AreCaps, IsRecorded}
use Rattle.sai_record.specs.Reading.{BeginsWithNoCall, BeginsWithNoHead, BreaksBehind}
use Rattle.sai_record.specs.Words.{◌>>=◌, long_of, value_at}
use Rattle.sai_record.specs.declared.reading.BadRecord.{BadRecord}
use Rattle.sai_record.specs.declared.recording.Recorded.{Recorded}
use denote.Ref.{Bor}

-- no byte is a newline
abbrev pub IsOneLine : List ℕ → Type 0
IsOneLine text = All (λ b. (b == 10) ≡ false) text

-- the first line of a text and the text behind it, where a newline ends one
abbrev pub IsFirstLine : List ℕ → Option (Bor (List ℕ) × Bor (List ℕ)) → Type 0
IsFirstLine text None = IsOneLine text
IsFirstLine text (Some p) = IsOneLine p.0.now × (text ≡ closed p.0.now ++ p.1.now)

-- so many numbers, each behind a space
unfoldable pub longs_at : ℕ → List ℕ → Option (List ℕ)
longs_at zero text = Some []
longs_at (suc n) text = do
  v ← value_at long_of text
  vs ← longs_at n v.1
  Some (v.0 ∷ vs)

-- the capacities of a first line
unfoldable pub caps_of : List ℕ → Option (List ℕ)
caps_of line = option_and_then (longs_at KINDS) (behind (codes "recording 1") line)

-- the first line of a text, and the text behind it
abbrev pub BeginsWithHead : List ℕ → Option (Caps × Bor (List ℕ)) → Type 0
BeginsWithHead text None = BeginsWithNoHead text
BeginsWithHead text (Some p) = AreCaps p.0 × (text ≡ closed (head_line p.0) ++ p.1.now)

-- the call of a text's first line, and the text behind it
abbrev pub BeginsWithCall : List ℕ → Option (Recorded × Bor (List ℕ)) → Type 0
BeginsWithCall text None = BeginsWithNoCall text
BeginsWithCall text (Some p) = IsRecorded p.0 × (text ≡ closed_call p.0 ++ p.1.now)

-- the calls of a text's lines, or the number of the first line that is none
abbrev pub AreReadFrom : List ℕ → Result (List Recorded) BadRecord → Type 0
AreReadFrom text (Ok calls) = AllByRecursion IsRecorded calls × (text ≡ flat_map closed_call calls)
AreReadFrom text (Err bad) = (calls : List Recorded) × BreaksBehind calls text × (bad.line ≡ length calls + 2)
