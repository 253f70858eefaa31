use Rattle.apply_laws.proofs.Tying.Alike.{none-tied}
use Rattle.apply_laws.proofs.ties.nothing_is_tied.Goals as goal

pub returns : goal.returns
returns c = none-tied
