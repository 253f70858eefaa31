use Rattle.apply_laws.proofs.Tying.Calls.{used-alike}
use Rattle.apply_laws.proofs.ties.views_count_as_chips.Goals as goal

pub returns : goal.returns
returns c = λ view made objects kind tied. used-alike view made objects tied kind
