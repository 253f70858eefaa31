use Rattle.std.proofs.Common.{sym, ◌∙◌}
use Rattle.std.proofs.lemmas.Map.Views.{tells_apart}
use Rattle.view_match.specs.contracts.key.NaturalKeyOrd.TheImpl.Laws as ordered_key
use Rattle.view_match.proofs.Exact.{natural_key_exact}
use Rattle.view_match.proofs.pairing.is_same.Goals as goal

pub returns : goal.returns
returns c = λ h. tells_apart natural_key_exact c.args.old.now c.args.key.now (sym (ordered_key.matches_eq-law c.args.old.now c.args.key.now) ∙ sym c.eq.ensures ∙ h)
