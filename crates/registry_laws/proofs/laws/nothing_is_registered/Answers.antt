use Rattle.registry_laws.proofs.Between.{registers_nothing}
use Rattle.registry_laws.proofs.laws.nothing_is_registered.Goals as goal

pub returns : goal.returns
returns c = registers_nothing
