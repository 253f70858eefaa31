use Rattle.std.proofs.Common.{sym, subst}
use Rattle.sai_types.specs.After.{after_calls}
use Rattle.sai_types.specs.Alike.{IsAlike, IsIn}
use Rattle.sai_types.specs.Made.{AreLegal}
use Rattle.chip_names.specs.Naming.{entries_of}
use Rattle.apply_laws.specs.Viewed.{things_in}
use Rattle.apply_laws.proofs.Order.Ends.{all-alike, all-legal}
use Rattle.apply_laws.proofs.Sync.Numbered.{apply-by_ties, tied-are}
use Rattle.apply_laws.proofs.syncs.ties_apply.Goals as goal

pub returns-clause-applies : goal.returns-clause-applies
returns-clause-applies c = λ capacities made old view things plan x. apply-by_ties view x.planned x.free

pub returns-clause-calls : goal.returns-clause-calls
returns-clause-calls c = λ capacities made old view things plan x. tied-are view x.planned x.free

pub returns-clause-legal : goal.returns-clause-legal
returns-clause-legal c = λ capacities made old view things plan x. subst (AreLegal capacities made (entries_of old)) (sym (tied-are view x.planned x.free)) (all-legal (apply-by_ties view x.planned x.free))

pub returns-clause-alike : goal.returns-clause-alike
returns-clause-alike c = λ capacities made old view things plan x. subst (λ cs. IsAlike (after_calls made (entries_of old) cs) (λ t. IsIn t (things_in things))) (sym (tied-are view x.planned x.free)) (all-alike (apply-by_ties view x.planned x.free))
