-- Words of a line. Own.
use Rattle.std.specs.Prelude.{◌≡◌, ℕ, ◌<◌, ◌==◌, nat_lt, Bool, not, ◌||◌, List, [], ◌∷◌, length, drop, filter, Option, Some, None}
use Rattle.std.specs.List.{position_or_len, slice_split}

-- spaces and tabs separate words
abbrev pub is_blank : ℕ → Bool
is_blank byte = byte == 32 || byte == 9

-- the parts of a line between blanks, without the empty ones
abbrev pub words_in : List ℕ → List (List ℕ)
words_in line = filter (λ word. nat_lt 0 (length word)) (slice_split is_blank line)

-- a text from its first word on
abbrev pub from_word : List ℕ → List ℕ
from_word text = drop (position_or_len (λ byte. not (is_blank byte)) text) text

-- a text from its first blank on
abbrev pub from_blank : List ℕ → List ℕ
from_blank text = drop (position_or_len is_blank text) text

-- what stands behind the first word of a text
abbrev pub behind_word : List ℕ → List ℕ
behind_word text = from_blank (from_word text)

-- the first word of a text, and the shorter text behind it with the others
abbrev pub IsNextWord : List ℕ → Option (List ℕ × List ℕ) → Type 0
IsNextWord text None = words_in text ≡ []
IsNextWord text (Some (word, rest)) = (words_in text ≡ word ∷ words_in rest) × (rest ≡ behind_word text) × (length rest < length text)

-- the one word of these words, or none where they are fewer or more
abbrev pub the_word : List (List ℕ) → Option (List ℕ)
the_word (word ∷ []) = Some word
the_word words = None

-- the two words of these words, or none where they are fewer or more
abbrev pub two_words : List (List ℕ) → Option (List ℕ × List ℕ)
two_words (first ∷ second ∷ []) = Some (first, second)
two_words words = None

-- the three words of these words, or none where they are fewer or more
abbrev pub three_words : List (List ℕ) → Option (List ℕ × List ℕ × List ℕ)
three_words (first ∷ second ∷ third ∷ []) = Some (first, second, third)
three_words words = None
