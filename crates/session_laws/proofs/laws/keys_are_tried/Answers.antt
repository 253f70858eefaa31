use Rattle.session_laws.proofs.Beginnings.{begins, busy, ends_at_once, may, waits_on}
use Rattle.session_laws.proofs.Counting.{counts}
use Rattle.session_laws.proofs.laws.keys_are_tried.Goals as goal

pub returns-clause-may : goal.returns-clause-may
returns-clause-may c = λ core chip s w k is at i less none differs un. may core chip s is at k i w less none (λ _. differs) un

pub returns-clause-ends : goal.returns-clause-ends
returns-clause-ends c = λ core chip s w k used is at order i less none differs are un. ends_at_once core chip s is at k i w less none (λ _. differs) used are order un

pub returns-clause-begins : goal.returns-clause-begins
returns-clause-begins c = λ core chip s w k used x b is at order i less none differs are h. begins core chip s is at k i w less none differs used are order x b h

pub returns-clause-waits : goal.returns-clause-waits
returns-clause-waits c = λ core chip s w k used r b is at i less none differs are h. waits_on core chip s is at k i w less none differs used are r b h

pub returns-clause-counts : goal.returns-clause-counts
returns-clause-counts c = counts

pub returns-clause-busy : goal.returns-clause-busy
returns-clause-busy c = λ core chip s k v is at flown. busy core chip s is at k v flown
