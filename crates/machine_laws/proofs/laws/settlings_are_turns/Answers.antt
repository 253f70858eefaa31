use Rattle.machine_laws.proofs.Existing.{turns-exist}
use Rattle.machine_laws.proofs.Settling.{settles}
use Rattle.machine_laws.proofs.Turning.{settling-events, turns-rows}
use Rattle.machine_laws.proofs.Waiting.{lists}
use Rattle.machine_laws.proofs.laws.settlings_are_turns.Goals as goal

pub returns-clause-events : goal.returns-clause-events
returns-clause-events c = λ plan workers capacities n s t keys left calls h. settling-events plan workers capacities n s t keys left calls h

pub returns-clause-calls : goal.returns-clause-calls
returns-clause-calls c = λ plan workers capacities n s t keys left calls is kept quiet h. let x = settles plan is workers capacities n s t keys left calls kept quiet h in (x.then, x.so, x.agrees, x.rest.kept, x.rest.quiet, x.rest.same)

pub returns-clause-turns : goal.returns-clause-turns
returns-clause-turns c = λ plan capacities good n s t keys left calls h. turns-rows plan capacities good n s t keys left calls h

pub returns-clause-lists : goal.returns-clause-lists
returns-clause-lists c = λ plan workers capacities n s t keys left calls f h. lists plan workers capacities n s t keys left calls f h

pub returns-clause-exist : goal.returns-clause-exist
returns-clause-exist c = λ plan workers capacities s keys is some kept quiet order there on. turns-exist plan is workers some capacities s keys kept quiet order there on
