use Rattle.sync_tables.proofs.Again.{part-again}
use Rattle.sync_tables.proofs.laws.refused_pops_are_made_again.Goals as goal

pub returns : goal.returns
returns c = part-again
