use Rattle.std.proofs.Common.{◌≡◌, ◌++◌, length, option_map}
use denote.Text.{Utf8}
use denote.Shadow.{shadow}
use Rattle.swss_script.specs.Fields.{fields_of}
use Rattle.swss_script.specs.Words.{words_in}
use Rattle.swss_script.proofs.fields.read_fields.Given as goal

-- the fields so far, with those of the words that are left, are those of all words
abbrev pub invariant-loop-word : goal.invariant-loop-word
invariant-loop-word l = shadow (Utf8 l.left) × (option_map (λ more. l.fields.items ++ more) (fields_of (words_in l.left)) ≡ fields_of (words_in l.fn.text))

abbrev pub decreases-loop-word : goal.decreases-loop-word
decreases-loop-word l = length l.left
