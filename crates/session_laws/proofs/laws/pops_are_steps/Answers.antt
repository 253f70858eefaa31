use Rattle.session_laws.proofs.Popping.{pop_told}
use Rattle.session_laws.proofs.laws.pops_are_steps.Goals as goal

pub returns : goal.returns
returns c = pop_told
