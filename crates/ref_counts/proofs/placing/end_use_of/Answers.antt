use Rattle.ref_counts.proofs.Pins.{places-end}
use Rattle.ref_counts.proofs.placing.end_use_of.Goals as goal

pub returns-clause-places : goal.returns-clause-places
returns-clause-places c = λ h. places-end c.args.user.now c.args.users.now c.end_use.new.places c.args.pins.now c.is_pinned_for-stays.result c.is_pinned_for-stays.ensures c.end_use.ensures.stays c.end_use.ensures.others h
