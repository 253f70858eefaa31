use Rattle.sai_types.proofs.Decided.{decide-alike}
use Rattle.sai_types.proofs.laws.decided_by_what_stands.Goals as goal

pub returns : goal.returns
returns c = decide-alike
