use Rattle.restart_laws.proofs.Identified.{cold-identified, hitless-identified}
use Rattle.restart_laws.proofs.laws.apply_ends_by_its_names.Goals as goal

pub returns-clause-hitless : goal.returns-clause-hitless
returns-clause-hitless c = λ plan workers capacities s t x p ids final calls es is h finals run left applying steps none. hitless-identified plan is workers capacities s t h x p ids final finals calls run left es applying steps none

pub returns-clause-cold : goal.returns-clause-cold
returns-clause-cold c = λ plan workers capacities s t x p ids calls es is h run left applying steps none. cold-identified plan is workers capacities s t h x p ids calls run left es applying steps none
