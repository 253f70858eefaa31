use Rattle.chip_layout.proofs.Legality.{refusal-renamed}
use Rattle.chip_layout.proofs.Renaming.{renamed-laid}
use Rattle.chip_layout.proofs.laws.renamed_stands.Goals as goal

pub returns-clause-refused : goal.returns-clause-refused
returns-clause-refused c = λ f objects others capacities call are sorted sorted'. refusal-renamed f objects others are sorted sorted' capacities call

pub returns-clause-stands : goal.returns-clause-stands
returns-clause-stands c = renamed-laid
