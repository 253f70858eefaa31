use Rattle.std.proofs.Common.{cond, None, Some, option_map, ap, sym, ◌∙◌}
use Rattle.view_match.specs.contracts.key.NaturalKeyOrd.TheImpl.Laws as ordered_key
use Rattle.view_match.specs.declared.indexed.Partner.{Partner}
use Rattle.view_match.proofs.pairing.place_if.Goals as goal

pub returns-then-eq : goal.returns-then-eq
returns-then-eq c = ap (λ b. option_map (λ (p : Partner). p.place) (cond b (Some c.args.one.now.1) None)) (sym c.if-eq.true ∙ c.eq.ensures ∙ ordered_key.matches_eq-law c.args.key.now c.args.one.now.0.now)

pub returns-else-eq : goal.returns-else-eq
returns-else-eq c = ap (λ b. option_map (λ (p : Partner). p.place) (cond b (Some c.args.one.now.1) None)) (sym c.if-eq.false ∙ c.eq.ensures ∙ ordered_key.matches_eq-law c.args.key.now c.args.one.now.0.now)
