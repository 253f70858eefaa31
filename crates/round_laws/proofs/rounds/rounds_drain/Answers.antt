use Rattle.round_laws.proofs.Drained.{round-drained, settling-drains}
use Rattle.round_laws.proofs.rounds.rounds_drain.Goals as goal

pub returns-clause-round : goal.returns-clause-round
returns-clause-round c = λ plan capacities from r x least. round-drained plan capacities r x from least

pub returns-clause-settling : goal.returns-clause-settling
returns-clause-settling c = λ workers core later chip chip' before from to x y at rows closed least most still room. settling-drains core later chip chip' x y at before from to rows closed least most still room
