use Rattle.std.proofs.Common.{◌∷◌, [], subst}
use Rattle.std.proofs.lemmas.List.{append-nil}
use Rattle.machine_laws.proofs.Alone.{DueCall, NoCall}
use Rattle.round_laws.specs.Between.{round_from}
use Rattle.round_laws.specs.Turns.{IsMadeSoFar}
use Rattle.round_laws.proofs.Between.{settled-between}
use Rattle.round_laws.proofs.Cut.{made-so-far}
use Rattle.round_laws.proofs.Ending.{round-ends}
use Rattle.round_laws.proofs.rounds.rounds_end.Goals as goal

pub returns-clause-settled : goal.returns-clause-settled
returns-clause-settled c = λ workers core later chip chip' x some y. settled-between core later chip chip' x y some

pub returns-clause-round : goal.returns-clause-round
returns-clause-round c = λ workers. round-ends {workers = workers}

pub returns-clause-so_far : goal.returns-clause-so_far
returns-clause-so_far c = λ workers since old core chip sent x t calls mark y. subst (λ l. IsMadeSoFar core.board.plan core.sync.capacities (round_from since old chip sent l mark)) (append-nil calls) (made-so-far since old core chip sent x t calls y [] NoCall mark)

pub returns-clause-failed : goal.returns-clause-failed
returns-clause-failed c = λ workers since old core chip sent x t calls call mark y due. made-so-far since old core chip sent x t calls y (call ∷ []) (DueCall call due) mark
