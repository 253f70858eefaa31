use Rattle.std.proofs.Common.{rules}
use Rattle.std.specs.Cmp.Rules.{comparing}
use Rattle.view_match.specs.contracts.key.NaturalKeyEq.TheImpl.Laws as equal_key
use Rattle.part_cases.proofs.Distinct.{distinct-more}
use Rattle.part_cases.proofs.plans.starting.is_apart.Goals as goal

pub returns-else-is_none : goal.returns-else-is_none
returns-else-is_none c = distinct-more _ c.args.key.now c.args.others.now c.contains.result (λ x is. search (comparing, rules, equal_key.laws-law)) c.contains.ensures.value
