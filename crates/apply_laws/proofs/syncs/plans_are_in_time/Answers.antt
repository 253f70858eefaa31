use Rattle.apply_laws.proofs.Sync.InTime.{plan-in_time}
use Rattle.apply_laws.proofs.syncs.plans_are_in_time.Goals as goal

pub returns : goal.returns
returns c = λ capacities made old view things plan x. plan-in_time view x.planned x.free
