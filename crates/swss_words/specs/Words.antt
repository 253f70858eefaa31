-- The lists of words behind the program's name that are a command, and what each means. Own; every other list is none.
use Rattle.std.specs.Prelude.{ℕ, ◌-◌, ◌^◌, nat_le, List, [], ◌∷◌, codes, Option, Some, None, option_and_then, if◌then◌else◌}
use Rattle.std.specs.Option.{option_or}
use Rattle.std.specs.Str.{bytes_eq}
use Rattle.swss_types.specs.Interface.{behind}
use Rattle.swss_types.specs.Number.{number_within}
use Rattle.swss_words.specs.declared.command.Command.{Command}
use Rattle.swss_words.specs.declared.command.Command.TheVariants.{Run, View, Load}

abbrev pub Text : Type 0
Text = List ℕ

-- ---- the numbers

-- a number, where it is at least this great
abbrev pub not_below : ℕ → Option ℕ → Option ℕ
not_below low None = None
not_below low (Some n) = if nat_le low n then Some n else None

-- workers, 1 to 4
abbrev pub workers_of : Text → Option ℕ
workers_of text = not_below 1 (number_within 4 text)

-- the same behind the name of the option, in one word
abbrev pub option_workers_of : Text → Option ℕ
option_workers_of word = option_and_then workers_of (behind (codes "--workers=") word)

abbrev pub routes_of : Text → Option ℕ
routes_of = number_within 60000

abbrev pub seed_of : Text → Option ℕ
seed_of = number_within (2 ^ 64 - 1)

-- ---- the forms

-- a form of a list of words: what a list of this form means, and None for any other
abbrev pub Form : Type 0
Form = List Text → Option Command

-- the list ends here, and means this
abbrev pub end : Command → Form
end meaning [] = Some meaning
end meaning (word ∷ words) = None

-- this word, and then what follows
abbrev pub the : Text → Form → Form
the text form [] = None
the text form (word ∷ words) = if bytes_eq word text then form words else None

-- a word that writes a number, and then what follows
abbrev pub with : (Text → Option ℕ) → (ℕ → Form) → Form
with number_in form [] = None
with number_in form (word ∷ words) = option_and_then (λ n. form n words) (number_in word)

-- the forms of the commands
abbrev pub forms : List Form
forms =
    the (codes "run") (end (Run 1))
    ∷ the (codes "run") (the (codes "--workers") (with workers_of (λ n. end (Run n))))
    ∷ the (codes "run") (with option_workers_of (λ n. end (Run n)))
    ∷ the (codes "view") (end View)
    ∷ the (codes "load") (with routes_of (λ n. with seed_of (λ seed. end (Load n seed))))
    ∷ []

-- the meaning by the first form that the words have
abbrev pub first_meaning : List Form → Form
first_meaning [] words = None
first_meaning (form ∷ rest) words = option_or (form words) (first_meaning rest words)

-- the command that the words are
abbrev pub command : List Text → Option Command
command = first_meaning forms
