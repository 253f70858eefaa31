use Rattle.registry_laws.proofs.Grouped.{board_nothing}
use Rattle.registry_laws.proofs.flying.nothing_is_flown.Goals as goal

pub returns : goal.returns
returns c = board_nothing
