use Rattle.session_laws.proofs.Settling.Turning.{turn_begins, turn_drops, turn_runs, turn_waits}
use Rattle.session_laws.proofs.settlings.turns_go_on.Goals as goal

pub returns-clause-begins : goal.returns-clause-begins
returns-clause-begins c = turn_begins

pub returns-clause-waits : goal.returns-clause-waits
returns-clause-waits c = λ keys left rest k core core' core'' chip' s x r is plan capacities limit rests ops reason waiting. turn_waits keys left rest k core core' chip' s x r reason core'' is plan capacities limit rests ops waiting

pub returns-clause-drops : goal.returns-clause-drops
returns-clause-drops c = λ keys left rest k core core' core'' chip' s x y z at step rests ops. turn_drops keys left rest k core core' chip' s x core'' y z at step rests ops

pub returns-clause-runs : goal.returns-clause-runs
returns-clause-runs c = λ keys left rest k core core' core'' d chip' chip'' s x y z at own step r rests ops. turn_runs keys left rest k core core' chip' s x core'' d chip'' y z at own step r rests ops
