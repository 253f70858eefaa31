-- The words of a line, one after the other, and the values that they write.
use Rattle.std.specs.Prelude.{ℕ, Bool, true, false, ◌==◌, nat_le, List, [], ◌∷◌, take, drop, bytes_eq, codes, Option, None, Some, option_and_then, option_map, if◌then◌else◌}
use Rattle.std.specs.List.{position_or_len}
use Rattle.swss_types.specs.Number.{number_within}
use Rattle.sai_types.specs.declared.ids.Rid.{Rid}
use denote.Ref.{Bor}

infixl 10 ◌>>=◌
abbrev pub ◌>>=◌ : {A B : Type 0} → Option A → (A → Option B) → Option B
o >>= f = option_and_then f o

-- a value, where there is one, and the text that is left
abbrev pub value_and_rest : {A : Type 0} → Option A → List ℕ → Option (A × List ℕ)
value_and_rest None rest = None
value_and_rest (Some v) rest = Some (v, rest)

-- the bytes of a word
abbrev pub bytes_of_word : Option (Bor (List ℕ)) → Option (List ℕ)
bytes_of_word None = None
bytes_of_word (Some word) = Some word.now

-- how far it is to the first space, or to the end
abbrev pub word_len : List ℕ → ℕ
word_len text = position_or_len (λ b. b == 32) text

-- the word behind a space, and the text behind the word
unfoldable pub word_at : List ℕ → Option (List ℕ × List ℕ)
word_at [] = None
word_at (b ∷ bs) = if b == 32 then Some (take (word_len bs) bs, drop (word_len bs) bs) else None

-- the value that the word behind a space writes, and the text behind the word
unfoldable pub value_at : {A : Type 0} → (List ℕ → Option A) → List ℕ → Option (A × List ℕ)
value_at value_of text = do
  w ← word_at text
  v ← value_of w.0
  Some (v, w.1)

-- a number of 64 bits
abbrev pub long_of : List ℕ → Option ℕ
long_of word = number_within 18446744073709551615 word

-- a number that is at least so great
abbrev pub above_least : ℕ → ℕ → Option ℕ
above_least least n = if nat_le least n then Some n else None

abbrev pub number_from : ℕ → ℕ → List ℕ → Option ℕ
number_from least most word = option_and_then (above_least least) (number_within most word)

abbrev pub id_with : ℕ → Rid
id_with n = record { 0 = n }

abbrev pub id_of : List ℕ → Option Rid
id_of word = option_map id_with (number_from 1 18446744073709551615 word)

abbrev pub id_or_none_of : List ℕ → Option (Option Rid)
id_or_none_of word = if bytes_eq word (codes "-") then Some None else option_map Some (id_of word)

abbrev pub speed_of : List ℕ → Option ℕ
speed_of word = number_from 1 1600000 word

abbrev pub mtu_of : List ℕ → Option ℕ
mtu_of word = number_from 68 9216 word

abbrev pub vlan_number_of : List ℕ → Option ℕ
vlan_number_of word = number_from 1 4094 word

abbrev pub weight_number_of : List ℕ → Option ℕ
weight_number_of word = number_from 1 255 word

abbrev pub admin_of : List ℕ → Option Bool
admin_of word = if bytes_eq word (codes "up") then Some true else (if bytes_eq word (codes "down") then Some false else None)
