use Rattle.restart_laws.proofs.Ended.{suspect-silent}
use Rattle.restart_laws.proofs.laws.suspect_is_silent.Goals as goal

pub returns : goal.returns
returns c = λ plan workers capacities s t x at step. suspect-silent plan workers capacities s t x at step
