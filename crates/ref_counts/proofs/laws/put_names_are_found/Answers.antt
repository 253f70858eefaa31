use Rattle.ref_counts.proofs.Found.{found-put}
use Rattle.ref_counts.proofs.laws.put_names_are_found.Goals as goal

pub returns : goal.returns
returns c = found-put
