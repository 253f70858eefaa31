use Rattle.std.proofs.Common.{sym}
use Rattle.sai_record.proofs.OneReading.{read-one, read-written}
use Rattle.sai_record.proofs.laws.reads_what_is_written.Goals as goal

pub returns-clause-read : goal.returns-clause-read
returns-clause-read c = read-written

pub returns-clause-written : goal.returns-clause-written
returns-clause-written c = λ text r h. sym h.is

pub returns-clause-one : goal.returns-clause-one
returns-clause-one c = read-one
