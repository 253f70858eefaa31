-- Keys and texts in JSON, as images and batches have them. Own.
use Rattle.std.specs.Prelude.{ℕ, ◌==◌, List, [], ◌∷◌, Option, Some, None, option_map, if◌then◌else◌}
use Rattle.std.specs.List.{list_any}
use Rattle.serde_json.specs.Data.{Members, no_members, member}
use Rattle.serde_json.specs.Find.{as_str}
use Rattle.table_schema.specs.Fields.{Pairs}
use Rattle.table_schema.specs.KeyText.{key_of}
use Rattle.table_schema.specs.declared.key.Key.{Key}

-- a key has a colon
abbrev pub key_in_word : List ℕ → Option Key
key_in_word word = if list_any (λ byte. byte == 58) word then Some (key_of word) else None

abbrev pub text_before : List ℕ → Option (List ℕ) → Option Pairs → Option Pairs
text_before name None texts = None
text_before name (Some text) texts = option_map (λ more. (name, text) ∷ more) texts

-- the names and values of an object whose values are all strings
abbrev pub texts_in : Members → Option Pairs
texts_in no_members = Some []
texts_in (member name value others) = text_before name (as_str value) (texts_in others)
