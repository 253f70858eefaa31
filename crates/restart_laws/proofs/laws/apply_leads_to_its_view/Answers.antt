use Rattle.switch_machine.proofs.Runs.{good-quiet}
use Rattle.warm_state.specs.declared.warm.Warm.TheVariants.{Applying}
use Rattle.restart_laws.specs.Invariant.{with_chip}
use Rattle.restart_laws.proofs.Begun.{restored-begun}
use Rattle.restart_laws.proofs.Ended.{end-there, ended-begun, left-alike}
use Rattle.restart_laws.proofs.Holding.{in_state}
use Rattle.restart_laws.proofs.laws.apply_leads_to_its_view.Goals as goal

pub returns-clause-begun : goal.returns-clause-begun
returns-clause-begun c = λ plan workers capacities s t x taken mark is h same. restored-begun plan is workers capacities s.core.written x.view h.safe.told h.safe.dated x.restored taken mark same

pub returns-clause-leads : goal.returns-clause-leads
returns-clause-leads c = λ plan workers capacities s is h at. ((in_state plan is workers capacities s Applying h at).leads.legal, left-alike plan is workers capacities s h at)

pub returns-clause-synced : goal.returns-clause-synced
returns-clause-synced c = λ plan workers capacities s k is h at none. let a = in_state plan is workers capacities s Applying h at in good-quiet plan is workers capacities (with_chip s.core a.made a.objects) a.view a.quiet k none

pub returns-clause-ends : goal.returns-clause-ends
returns-clause-ends c = λ plan workers capacities s is h at none. end-there plan is workers capacities s h at none

pub returns-clause-ended : goal.returns-clause-ended
returns-clause-ended c = λ plan workers capacities s t u x es taken mark is h all run end same. ended-begun plan is workers capacities s t u x es taken mark h all run end same
