use Rattle.restart_laws.specs.Logged.{new_session}
use Rattle.restart_laws.proofs.Logged.{told-first, told-session}
use Rattle.restart_laws.proofs.Routes.{effects-routed}
use Rattle.restart_laws.proofs.laws.logs_are_true.Goals as goal

pub returns-clause-marks : goal.returns-clause-marks
returns-clause-marks c = λ plan workers capacities ts is run. (told-session plan is workers capacities new_session ts (told-first plan is workers capacities) run).tells.marks

pub returns-clause-order : goal.returns-clause-order
returns-clause-order c = λ plan workers capacities ts is run. (told-session plan is workers capacities new_session ts (told-first plan is workers capacities) run).ordered

pub returns-clause-counts : goal.returns-clause-counts
returns-clause-counts c = λ plan workers capacities ts is run. (told-session plan is workers capacities new_session ts (told-first plan is workers capacities) run).tells.within

pub returns-clause-warm : goal.returns-clause-warm
returns-clause-warm c = λ plan workers capacities ts is run. (told-session plan is workers capacities new_session ts (told-first plan is workers capacities) run).warm

pub returns-clause-effects : goal.returns-clause-effects
returns-clause-effects c = λ plan workers capacities ts is run. effects-routed plan is workers capacities ts run

pub returns-clause-chip : goal.returns-clause-chip
returns-clause-chip c = λ plan workers capacities ts is run. (told-session plan is workers capacities new_session ts (told-first plan is workers capacities) run).tells.objects

pub returns-clause-holds : goal.returns-clause-holds
returns-clause-holds c = λ plan workers capacities ts is run. (told-session plan is workers capacities new_session ts (told-first plan is workers capacities) run).holds
