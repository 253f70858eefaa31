use Rattle.apply_laws.proofs.Tying.Calls.{tied-after, tied-made}
use Rattle.apply_laws.proofs.ties.ties_follow.Goals as goal

pub returns-clause-follows : goal.returns-clause-follows
returns-clause-follows c = λ view view' made objects capacities call answer a tied whole legal done follows. tied-after view made objects tied whole capacities call legal view' answer a follows done

pub returns-clause-made : goal.returns-clause-made
returns-clause-made c = λ view view' made chip chip' call a tied whole next is went. tied-made view view' made chip chip' a next went call tied whole is
