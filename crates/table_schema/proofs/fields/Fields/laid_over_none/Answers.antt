use Rattle.std.proofs.Common.{sym}
use Rattle.table_schema.proofs.Merges.{merged-nil}
use Rattle.table_schema.proofs.fields.Fields.laid_over_none.Goals as goal

pub returns : goal.returns
returns c = sym (merged-nil c.args.self c.items-rising.ensures.names)
