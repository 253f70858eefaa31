use Rattle.std.proofs.Common.{subst, []}
use Rattle.std.proofs.lemmas.List.{append-nil}
use Rattle.switch_machine.specs.Written.{good_of}
use Rattle.machine_laws.specs.Calls.{AreTurnsWithSoFar}
use Rattle.machine_laws.specs.Logged.{after_pops}
use Rattle.machine_laws.specs.Settling.{situation}
use Rattle.machine_laws.proofs.Alone.{DueCall, NoCall}
use Rattle.machine_laws.proofs.Logging.{pops-good, pops-keys, settling-cut, so-far-calls, so-far-logged, so-far-pops, so-far-safe}
use Rattle.machine_laws.proofs.laws.settlings_so_far_are_logged.Goals as goal

pub returns-clause-events : goal.returns-clause-events
returns-clause-events c = λ plan workers capacities s t x. so-far-logged plan workers capacities s t x

pub returns-clause-safe : goal.returns-clause-safe
returns-clause-safe c = λ plan workers capacities s t is kept x. so-far-safe plan workers capacities is s t x kept

pub returns-clause-pops : goal.returns-clause-pops
returns-clause-pops c = λ workers s t x quiet. so-far-pops [] workers [] s t x quiet

pub returns-clause-effects : goal.returns-clause-effects
returns-clause-effects c = λ plan workers capacities s t x is kept quiet. subst (AreTurnsWithSoFar plan capacities (good_of plan (after_pops s.switch x.pops).written) x.turns (situation s.switch) x.keys) (append-nil x.calls) (so-far-calls plan workers capacities is s t x [] kept quiet NoCall)

pub returns-clause-failed : goal.returns-clause-failed
returns-clause-failed c = λ plan workers capacities s t x call is kept quiet due. so-far-calls plan workers capacities is s t x _ kept quiet (DueCall call due)

pub returns-clause-good : goal.returns-clause-good
returns-clause-good c = λ plan workers capacities s t x k is kept. pops-good plan workers capacities s.switch x.pops x.are_pops x.popped kept k

pub returns-clause-keys : goal.returns-clause-keys
returns-clause-keys c = λ plan workers capacities s t x k. pops-keys plan workers capacities s.switch x.pops x.are_pops x.popped x.keys x.all x.only k

pub returns-clause-whole : goal.returns-clause-whole
returns-clause-whole c = λ plan workers capacities s t x. settling-cut plan workers capacities s t x
