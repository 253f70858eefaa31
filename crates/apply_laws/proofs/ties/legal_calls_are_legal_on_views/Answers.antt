use Rattle.apply_laws.proofs.Tying.Calls.{can-call, known, legal-here, legal-on}
use Rattle.apply_laws.proofs.ties.legal_calls_are_legal_on_views.Goals as goal

pub returns-clause-with_capacities : goal.returns-clause-with_capacities
returns-clause-with_capacities c = λ view made objects capacities call tied whole legal. legal-here view made objects tied whole capacities call legal

pub returns-clause-legal : goal.returns-clause-legal
returns-clause-legal c = λ view made objects capacities call tied whole legal. legal-on view made objects tied whole capacities call legal

pub returns-clause-can_call : goal.returns-clause-can_call
returns-clause-can_call c = can-call

pub returns-clause-tied : goal.returns-clause-tied
returns-clause-tied c = λ view made objects capacities call tied whole legal. known view made objects tied whole capacities call legal
