use Rattle.std.proofs.Common.{sym, ap, subst}
use Rattle.table_schema.specs.KeyText.{or_other}
use Rattle.table_schema.specs.ProperKey.{IsProperKey}
use Rattle.table_schema.proofs.ProperKeys.{IsProperKey-key_of}
use Rattle.table_schema.proofs.key_text.read_key.Goals as goal

pub returns-in-Some-clause-proper : goal.returns-in-Some-clause-proper
returns-in-Some-clause-proper c = subst IsProperKey (ap (or_other c.args.text.now) (sym c.in-Some.ensures)) (IsProperKey-key_of c.args.text.now c.requires.utf8 c.requires.colon)
