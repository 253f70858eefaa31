-- What a text reads as, and which line of it is the first that is not in the grammar. Own.
use Rattle.std.specs.Prelude.{◌≡◌, ◌≢◌, ◌⊎◌, ℕ, ◌+◌, List, [], ◌++◌, length, flat_map, Result, Ok, Err}
use Rattle.std.specs.List.{AllByRecursion}
use Rattle.sai_types.specs.declared.caps.Caps.{Caps}
use Rattle.sai_record.specs.Line.{closed, closed_call, head_line, recording_text}
use Rattle.sai_record.specs.Ranges.{AreCaps, IsRecorded, IsRecording}
use Rattle.sai_record.specs.declared.recording.Recorded.{Recorded}
use Rattle.sai_record.specs.declared.recording.Recording.{Recording}
use Rattle.sai_record.specs.declared.reading.BadRecord.{BadRecord}

-- a text reads as a recording exactly where it is the recording's text
pub record IsTextOf (text : List ℕ) (r : Recording) : Type 0 where
  pub recording : IsRecording r
  pub is : text ≡ recording_text r

-- a text does not begin with a first line
abbrev pub BeginsWithNoHead : List ℕ → Type 0
BeginsWithNoHead text = (caps : Caps) (rest : List ℕ) → AreCaps caps → text ≢ closed (head_line caps) ++ rest

-- nor this one with the line of a call
abbrev pub BeginsWithNoCall : List ℕ → Type 0
BeginsWithNoCall text = (r : Recorded) (rest : List ℕ) → IsRecorded r → text ≢ closed_call r ++ rest

-- a text begins with the lines of these calls, and something is behind them, which does not begin with the line of a call
pub record BreaksBehind (calls : List Recorded) (text : List ℕ) : Type 0 where
  pub each : AllByRecursion IsRecorded calls
  pub rest : List ℕ
  pub is : text ≡ flat_map closed_call calls ++ rest
  pub some : rest ≢ []
  pub bad : BeginsWithNoCall rest

-- behind the first line and so many lines of calls comes this one, which is not that of a call
pub record IsBadCall (text : List ℕ) (line : ℕ) : Type 0 where
  pub caps : Caps
  pub are : AreCaps caps
  pub behind : List ℕ
  pub is : text ≡ closed (head_line caps) ++ behind
  pub calls : List Recorded
  pub breaks : BreaksBehind calls behind
  pub number : line ≡ length calls + 2

-- the first line that is not in the grammar, counted from 1; a first line that is missing is line 1, and a line without its end is in no grammar
abbrev pub IsFirstBad : List ℕ → ℕ → Type 0
IsFirstBad text line = ((line ≡ 1) × BeginsWithNoHead text) ⊎ IsBadCall text line

-- what is said of a text as a recording
abbrev pub IsReadAs : List ℕ → Result Recording BadRecord → Type 0
IsReadAs text (Ok r) = IsTextOf text r
IsReadAs text (Err bad) = IsFirstBad text bad.line
