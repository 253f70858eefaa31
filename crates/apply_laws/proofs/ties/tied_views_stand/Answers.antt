use Rattle.apply_laws.proofs.Tying.Alike.{stand-for}
use Rattle.apply_laws.proofs.ties.tied_views_stand.Goals as goal

pub returns : goal.returns
returns c = stand-for
