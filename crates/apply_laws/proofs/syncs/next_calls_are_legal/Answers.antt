use Rattle.std.proofs.Common.{sym, subst}
use Rattle.sai_types.specs.Made.{AreLegal}
use Rattle.chip_names.specs.Naming.{entries_of}
use Rattle.apply_laws.proofs.Order.Ends.{all-legal}
use Rattle.apply_laws.specs.Begun.{first_ties}
use Rattle.apply_laws.proofs.Sync.Next.{next-legal}
use Rattle.apply_laws.proofs.Sync.Numbered.{apply-by_ties, tied-are}
use Rattle.apply_laws.proofs.syncs.next_calls_are_legal.Goals as goal

pub returns : goal.returns
returns c = λ capacities made old view things plan front rest next x cut. next-legal capacities made (entries_of old) (first_ties old view plan) plan.calls front rest next cut (subst (AreLegal capacities made (entries_of old)) (sym (tied-are view x.planned x.free)) (all-legal (apply-by_ties view x.planned x.free)))
