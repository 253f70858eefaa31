use Rattle.ref_counts.proofs.Found.{gone-absent, gone-others}
use Rattle.ref_counts.proofs.laws.gone_names_are_absent.Goals as goal

pub returns-clause-it : goal.returns-clause-it
returns-clause-it c = gone-absent

pub returns-clause-others : goal.returns-clause-others
returns-clause-others c = gone-others
