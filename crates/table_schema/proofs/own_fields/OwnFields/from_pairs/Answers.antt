use Rattle.std.proofs.Common.{sym, ◌∙◌, rules}
use Rattle.table_schema.specs.Fields.{HasRisingNames}
use Rattle.table_schema.proofs.Merges.{merged-nil}
use Rattle.table_schema.proofs.own_fields.OwnFields.from_pairs.Goals as goal

pub returns-then-have_rising_names : goal.returns-then-have_rising_names
returns-then-have_rising_names c =
    let rising : HasRisingNames c.args.pairs.items = search rules in
    c.from_rising.ensures ∙ sym (merged-nil c.args.pairs.items rising)
