use Rattle.apply_laws.proofs.Tying.Calls.{ties-after}
use Rattle.apply_laws.proofs.ties.ties_stay.Goals as goal

pub returns : goal.returns
returns c = λ view view' made objects capacities call answer a tied whole legal follows. ties-after view made objects tied whole capacities call legal view' answer a follows
