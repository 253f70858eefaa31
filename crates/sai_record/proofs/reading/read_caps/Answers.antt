use Rattle.std.proofs.Common.{sym}
use Rattle.sai_record.proofs.Longs.{longs-proper}
use Rattle.sai_record.proofs.reading.read_caps.Goals as goal

pub returns-clause-proper : goal.returns-clause-proper
returns-clause-proper c = longs-proper 12 c.in_ok-text.text.now c.read_longs.new.longs (sym c.in_ok-read_longs.ensures)
