use Rattle.std.proofs.lemmas.Bool.{false≢true}
use Rattle.flight_board.proofs.Places.{key-none, key-there}
use Rattle.flight_board.proofs.workers.Workers.has_key_at.Goals as goal

pub returns-in-Some : goal.returns-in-Some
returns-in-Some c = key-there c.args.self.now c.args.key.now c.args.worker c.in-Some.flight.now c.has_key.result c.in-Some.ensures c.has_key.ensures

pub returns-in-None : goal.returns-in-None
returns-in-None c = (λ t. absurd (false≢true t), λ h. absurd (key-none c.args.self.now c.args.key.now c.args.worker c.in-None.ensures h))
