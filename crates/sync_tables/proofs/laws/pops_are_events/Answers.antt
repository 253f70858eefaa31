use Rattle.sync_tables.proofs.Popped.{is_pop}
use Rattle.sync_tables.proofs.laws.pops_are_events.Goals as goal

pub returns : goal.returns
returns c = is_pop
