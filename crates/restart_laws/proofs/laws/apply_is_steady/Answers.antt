use Rattle.plan_laws.proofs.Applied.{hitless-kept, hitless-steady}
use Rattle.restart_laws.proofs.Ended.{hitless-applies}
use Rattle.restart_laws.proofs.laws.apply_is_steady.Goals as goal

pub returns-clause-decided : goal.returns-clause-decided
returns-clause-decided c = λ plan workers capacities s t x front rest is h hitless part. (hitless-steady (hitless-applies plan is workers capacities s h t x hitless) front rest part).0

pub returns-clause-stays : goal.returns-clause-stays
returns-clause-stays c = λ plan workers capacities s t x front more rest is h hitless part. hitless-kept (hitless-applies plan is workers capacities s h t x hitless) front more rest part

pub returns-clause-forwarded : goal.returns-clause-forwarded
returns-clause-forwarded c = λ plan workers capacities s t x front rest is h hitless part. (hitless-steady (hitless-applies plan is workers capacities s h t x hitless) front rest part).1
