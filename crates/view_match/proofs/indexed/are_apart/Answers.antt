use Rattle.std.proofs.Common.{rules}
use Rattle.std.specs.Ordering.{is_lt}
use Rattle.std.proofs.lemmas.Fn.{always_returns_same}
use Rattle.view_match.specs.Indexed.{lent_entry}
use Rattle.view_match.specs.Keys.{natural_key_cmp}
use Rattle.view_match.proofs.Rising.{apart-answer}
use Rattle.view_match.proofs.indexed.are_apart.Goals as goal

pub returns : goal.returns
returns c = apart-answer lent_entry c.args.index.now c.is_sorted_by.result (c.is_sorted_by.ensures.cases (λ x y. is_lt (natural_key_cmp x.0.now y.0.now)) (always_returns_same _ _ _ (λ a r f h. search rules)))
