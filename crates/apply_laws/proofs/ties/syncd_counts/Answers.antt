use Rattle.apply_laws.proofs.Tying.Calls.{current-used}
use Rattle.apply_laws.proofs.ties.syncd_counts.Goals as goal

pub returns : goal.returns
returns c = current-used
