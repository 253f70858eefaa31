use Rattle.std.proofs.Common.{◌∙◌}
use Rattle.table_schema.proofs.Parts.{is_some-cut}
use Rattle.table_schema.proofs.route_rules.has_several.Goals as goal

pub returns-clause-many : goal.returns-clause-many
returns-clause-many c = c.is_some.ensures ∙ is_some-cut c.args.list.now c.cut_at.result.0.now c.cut_at.result.1 c.cut_at.ensures
