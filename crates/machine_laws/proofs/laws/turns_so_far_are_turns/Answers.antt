use Rattle.std.proofs.Common.{subst, []}
use Rattle.std.proofs.lemmas.List.{append-nil}
use Rattle.switch_machine.specs.Written.{good_of}
use Rattle.machine_laws.specs.Calls.{AreTurnsWithSoFar}
use Rattle.machine_laws.specs.Settling.{situation}
use Rattle.machine_laws.proofs.Alone.{DueCall, NoCall}
use Rattle.machine_laws.proofs.Settling.{settles-so-far}
use Rattle.machine_laws.proofs.Turning.{so-far-events, turns-cut}
use Rattle.machine_laws.proofs.laws.turns_so_far_are_turns.Goals as goal

pub returns-clause-events : goal.returns-clause-events
returns-clause-events c = λ plan workers capacities n s t keys calls h. so-far-events plan workers capacities n s t keys calls h

pub returns-clause-calls : goal.returns-clause-calls
returns-clause-calls c = λ plan workers capacities n s t keys calls is kept quiet h. subst (AreTurnsWithSoFar plan capacities (good_of plan s.written) n (situation s) keys) (append-nil calls) (settles-so-far plan is workers capacities n s t keys calls [] kept quiet h NoCall)

pub returns-clause-failed : goal.returns-clause-failed
returns-clause-failed c = λ plan workers capacities n s t keys calls call is kept quiet h due. settles-so-far plan is workers capacities n s t keys calls _ kept quiet h (DueCall call due)

pub returns-clause-whole : goal.returns-clause-whole
returns-clause-whole c = λ plan workers capacities n s t keys left calls h. turns-cut plan workers capacities n s t keys left calls h
