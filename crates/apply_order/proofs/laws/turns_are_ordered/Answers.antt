use Rattle.apply_order.proofs.Turns.{turns-by_parts}
use Rattle.apply_order.proofs.laws.turns_are_ordered.Goals as goal

pub returns : goal.returns
returns c = turns-by_parts
