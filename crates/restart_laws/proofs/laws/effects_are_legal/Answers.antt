use Rattle.restart_laws.specs.Service.{new_service}
use Rattle.restart_laws.proofs.Effects.{effects-legal}
use Rattle.restart_laws.proofs.Holding.{due-legal, holds-new}
use Rattle.restart_laws.proofs.laws.effects_are_legal.Goals as goal

pub returns-clause-legal : goal.returns-clause-legal
returns-clause-legal c = λ plan workers capacities es is run. effects-legal plan is workers capacities new_service es (holds-new plan is workers capacities) run

pub returns-clause-due : goal.returns-clause-due
returns-clause-due c = λ plan workers capacities s call is h due. (due-legal plan is workers capacities s call h due).0
