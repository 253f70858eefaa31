use Rattle.ref_counts.proofs.Found.{found-released}
use Rattle.ref_counts.proofs.laws.releases_are_found.Goals as goal

pub returns : goal.returns
returns c = found-released
