use Rattle.std.proofs.Common.{◌≡◌, rules}
use Rattle.std.proofs.lemmas.Fn.{always_returns_same}
use Rattle.syncd_core.proofs.Sorted.{sorted-listed}
use Rattle.syncd_core.proofs.syncd.put_in_order.Goals as goal

pub returns : goal.returns
returns c = λ objects each.
    let key = always_returns_same _ (λ a r. r ≡ a.0.now.entry) _ (λ a r f k. search rules) in
    sorted-listed objects _ _ each c.sort_unstable_by_key.ensures.permutation (c.sort_unstable_by_key.ensures.sorted (λ o. o.entry) key)
