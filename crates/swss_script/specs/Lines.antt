-- Lines of a script, as bytes. Own.
use Rattle.std.specs.Prelude.{◌≡◌, ℕ, ◌<◌, ◌-◌, ◌==◌, nat_lt, Bool, false, not, ◌&&◌, List, [], ◌∷◌, ◌++◌, length, take, drop, Option, Some, None, option_map, option_and_then, codes, bytes_eq, if◌then◌else◌}
use Rattle.std.specs.List.{starts_with}
use Rattle.std.specs.Str.{is_utf8}
use Rattle.swss_script.specs.Words.{the_word, words_in}
use Rattle.swss_script.specs.declared.lines.TheConstants.{MOST_LINE_BYTES}

-- lines with a byte more in front of the first
abbrev pub with_byte : ℕ → List (List ℕ) → List (List ℕ)
with_byte byte [] = (byte ∷ []) ∷ []
with_byte byte (line ∷ lines) = (byte ∷ line) ∷ lines

-- the lines of a text, each with the newline that ends it: the last may lack it
abbrev pub lines_in : List ℕ → List (List ℕ)
lines_in [] = []
lines_in (byte ∷ bytes) = if byte == 10 then (byte ∷ []) ∷ lines_in bytes else with_byte byte (lines_in bytes)

-- whether a byte stands at the end of a text
abbrev pub ends_in : ℕ → List ℕ → Bool
ends_in byte text = bytes_eq (drop (length text - 1) text) (byte ∷ [])

abbrev pub without_last : List ℕ → List ℕ
without_last text = take (length text - 1) text

abbrev pub without_return : List ℕ → List ℕ
without_return text = if ends_in 13 text then without_last text else text

-- a line without its end: the newline, and one carriage return before it
abbrev pub line_text : List ℕ → List ℕ
line_text line = if ends_in 10 line then without_return (without_last line) else line

-- more bytes than a line may have, and no line of JSON
abbrev pub is_too_long : List ℕ → Bool
is_too_long text = nat_lt MOST_LINE_BYTES (length text) && not (starts_with ◌==◌ text (codes "json ")) && not (starts_with ◌==◌ text (codes "image "))

-- the text of bytes that are UTF-8
abbrev pub text_of : List ℕ → Option (List ℕ)
text_of bytes = if is_utf8 bytes then Some bytes else None

abbrev pub is_end_word : Option (List ℕ) → Bool
is_end_word None = false
is_end_word (Some word) = bytes_eq word (codes "end")

-- a line that ends a block: it is the one word `end`
abbrev pub is_end : List ℕ → Bool
is_end bytes = is_end_word (option_and_then (λ text. the_word (words_in text)) (text_of bytes))

-- the text of a block: all lines up to one that ends it
abbrev pub block_of : List (List ℕ) → Option (List ℕ)
block_of [] = None
block_of (line ∷ lines) = if is_end (line_text line) then Some [] else option_map (λ text. line ++ text) (block_of lines)

-- the first line of a text and what stands behind it
abbrev pub IsNextLine : List ℕ → Option (List ℕ × List ℕ) → Type 0
IsNextLine text None = text ≡ []
IsNextLine text (Some (line, rest)) = (lines_in text ≡ line ∷ lines_in rest) × (text ≡ line ++ rest) × (length rest < length text)
