use Rattle.table_schema.proofs.ProperKeys.{IsProperKey-key_of, IsReadKey-key_of}
use Rattle.table_schema.proofs.laws.keys_read_back.Goals as goal

pub returns-clause-proper : goal.returns-clause-proper
returns-clause-proper c = IsProperKey-key_of

pub returns-clause-read : goal.returns-clause-read
returns-clause-read c = IsReadKey-key_of
