use Rattle.swss_script.proofs.SetFields.{keys-were_read}
use Rattle.swss_script.proofs.laws.each_key_was_read.Goals as goal

pub returns : goal.returns
returns c = keys-were_read
