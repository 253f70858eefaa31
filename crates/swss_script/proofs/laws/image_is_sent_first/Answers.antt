use Rattle.swss_script.proofs.SentFirst.{opened-first}
use Rattle.swss_script.proofs.laws.image_is_sent_first.Goals as goal

pub returns : goal.returns
returns c = opened-first
