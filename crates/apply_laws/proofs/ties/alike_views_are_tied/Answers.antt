use Rattle.apply_laws.proofs.Tying.Alike.{alike-tied}
use Rattle.apply_laws.proofs.ties.alike_views_are_tied.Goals as goal

pub returns : goal.returns
returns c = alike-tied
