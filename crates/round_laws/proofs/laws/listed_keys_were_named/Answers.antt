use Rattle.round_laws.proofs.Listed.{listed-few, listed-named}
use Rattle.round_laws.proofs.laws.listed_keys_were_named.Goals as goal

pub returns-clause-named : goal.returns-clause-named
returns-clause-named c = listed-named

pub returns-clause-few : goal.returns-clause-few
returns-clause-few c = listed-few
