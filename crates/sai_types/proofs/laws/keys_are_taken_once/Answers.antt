use Rattle.sai_types.proofs.Things.{one-each}
use Rattle.sai_types.proofs.laws.keys_are_taken_once.Goals as goal

pub returns : goal.returns
returns c = one-each
