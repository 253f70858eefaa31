use Rattle.chip_names.specs.Naming.{entries_of}
use Rattle.plan_laws.specs.Old.{old_layout}
use Rattle.plan_laws.specs.Views.{made_names}
use Rattle.plan_laws.proofs.Counts.{run-makes}
use Rattle.plan_laws.proofs.Doubles.{lacking-shown}
use Rattle.plan_laws.proofs.Keeping.{hitless-removes}
use Rattle.plan_laws.proofs.Rooms.{makes-lacking}
use Rattle.apply_laws.specs.Apply.{calls_by}
use Rattle.apply_laws.specs.Viewed.{things_in}
use Rattle.apply_laws.proofs.Order.Applying.{applies-hitless, hitless_changes, is-hitless}
use Rattle.apply_laws.proofs.orders.hitless_applies_keep.Goals as goal

pub returns-clause-made : goal.returns-clause-made
returns-clause-made c = λ capacities made old new things plan ids kind x e. (
  made_names kind (hitless_changes x.of e),
  lacking-shown x.of.chip (things_in things) x.of.view.view kind (made_names kind (hitless_changes x.of e)) (makes-lacking (is-hitless x.of e).is_plan kind),
  run-makes kind made (old_layout (entries_of old) (things_in things)) (hitless_changes x.of e) (calls_by ids plan) (applies-hitless x.of e ids x.numbered).run,
)

pub returns-clause-kept : goal.returns-clause-kept
returns-clause-kept c = λ capacities made old new things plan ids e x h i. hitless-removes (applies-hitless x.of h ids x.numbered) e i
