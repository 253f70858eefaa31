use Rattle.swss_script.proofs.FewWrites.{few-lines, few-writes}
use Rattle.swss_script.proofs.laws.plain_script_has_few_writes.Goals as goal

pub returns : goal.returns
returns c = record { lines = few-lines; writes = few-writes }
