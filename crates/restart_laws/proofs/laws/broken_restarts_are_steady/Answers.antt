use Rattle.restart_laws.proofs.Broken.{broken-forwards}
use Rattle.restart_laws.proofs.laws.broken_restarts_are_steady.Goals as goal

pub returns : goal.returns
returns c = λ plan workers capacities s es run a f is h none old broken. broken-forwards plan is workers capacities a f s es h none old run broken
