-- The command line for the crate clap, and what the subcommand that a parse entered means.
use Rattle.std.specs.Prelude.{ℕ, true, List, codes, Option, Some, None, option_and_then, option_map, if◌then◌else◌}
use Rattle.std.specs.Str.{bytes_eq}
use Rattle.clap.specs.Words.{App, Row, Rule, Shape, Text, first_of, new_app, new_rule, with_rule, with_subcommand}
use Rattle.clap.specs.Simple.{on_top}
use Rattle.swss_words.specs.Words.{workers_of, routes_of, seed_of}
use Rattle.swss_words.specs.declared.command.Command.{Command}
use Rattle.swss_words.specs.declared.command.Command.TheVariants.{Run, View, Load}

-- a command with the option of workers
abbrev pub workers_app : Text → App
workers_app name = with_rule (new_app name) (record (new_rule (codes "workers")) { long = Some (codes "workers") })

abbrev pub required_rule : Text → Rule
required_rule id = record (new_rule id) { required = true }

abbrev pub load_app : App
load_app = with_rule (with_rule (new_app (codes "load")) (required_rule (codes "count"))) (required_rule (codes "seed"))

-- all words are the program's, one names its command, and no help is asked for
abbrev pub settled_shape : Shape → Shape
settled_shape s = record s { no_binary_name = true; disable_help_flag = true; disable_help_subcommand = true; subcommand_required = true }

abbrev pub bare_app : App
bare_app = on_top settled_shape (new_app (codes "swss"))

abbrev pub swss_app : App
swss_app = with_subcommand (with_subcommand (with_subcommand bare_app (workers_app (codes "run")).top) (new_app (codes "view")).top) load_app.top

-- what the values of each command mean
abbrev pub workers_given : Option Text → Option ℕ
workers_given None = Some 1
workers_given (Some workers) = workers_of workers

abbrev pub load_given : Option Text → Option Text → Option Command
load_given count seed = option_and_then (λ n. option_map (Load n) (option_and_then seed_of seed)) (option_and_then routes_of count)

abbrev pub meaning_in : Text → List Row → Option Command
meaning_in name rows =
    if bytes_eq name (codes "run") then option_map Run (workers_given (first_of (codes "workers") rows))
    else (if bytes_eq name (codes "view") then Some View
    else (if bytes_eq name (codes "load") then load_given (first_of (codes "count") rows) (first_of (codes "seed") rows)
    else None))

-- what the subcommand with its values means
abbrev pub meaning_of : Option (Text × List Row) → Option Command
meaning_of = option_and_then (λ p. meaning_in p.0 p.1)
