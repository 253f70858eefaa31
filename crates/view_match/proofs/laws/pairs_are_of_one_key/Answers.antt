use Rattle.view_match.proofs.Paired.{paired-pairs, pairs-paired}
use Rattle.view_match.proofs.laws.pairs_are_of_one_key.Goals as goal

pub returns : goal.returns
returns c = λ old new i j. (pairs-paired old new i j, paired-pairs old new i j)
