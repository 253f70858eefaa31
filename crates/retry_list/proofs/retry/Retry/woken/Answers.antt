use Rattle.std.proofs.Common.{◌≡◌, ◌∙◌}
use Rattle.table_schema.specs.Key.{key_cmp}
use Rattle.table_schema.proofs.Places.{HasRisingKeys-from_sorted}
use Rattle.retry_list.specs.Reasons.{woken_keys}
use Rattle.retry_list.proofs.Filed.{anyway_ok, if_ok}
use Rattle.retry_list.proofs.Woken.{IsIndexed-woken, are_left, are_woken}
use Rattle.retry_list.proofs.retry.Retry.woken.Goals as goal

pub invariant_of-self : goal.invariant_of-self
invariant_of-self c =
    let reasons = c.self.inside.reasons in
    let event = c.args.event.now in
    let rising = HasRisingKeys-from_sorted key_cmp reasons c.len-rising.ensures.ordered in
    let keys = c.clear-keys.result.keys in
    let woken = are_woken reasons c.self.inside.index event keys rising c.self.invariant c.clear-keys.ensures.keys c.take_off.ensures.rise in
    IsIndexed-woken reasons c.take_off.new.reasons c.self.inside.index c.clear-keys.new.self event rising c.self.invariant c.clear-keys.ensures.cleared (are_left reasons c.take_off.new.reasons event keys rising woken c.take_off.ensures.left)

pub returns-clause-woken : goal.returns-clause-woken
returns-clause-woken c =
    let reasons = c.self.inside.reasons in
    let rising = HasRisingKeys-from_sorted key_cmp reasons c.len-rising.ensures.ordered in
    let keys = c.clear-keys.result.keys in
    let woken = are_woken reasons c.self.inside.index c.args.event.now keys rising c.self.invariant c.clear-keys.ensures.keys c.take_off.ensures.rise in
    rw (← c.self.view_is) (if_ok (λ w. w.items ≡ keys) (λ w. w.items ≡ woken_keys c.args.event.now reasons) c.take_off.result (λ w is. is ∙ woken) c.take_off.ensures.given)

pub returns-clause-left : goal.returns-clause-left
returns-clause-left c =
    let reasons = c.self.inside.reasons in
    let rising = HasRisingKeys-from_sorted key_cmp reasons c.len-rising.ensures.ordered in
    let keys = c.clear-keys.result.keys in
    let woken = are_woken reasons c.self.inside.index c.args.event.now keys rising c.self.invariant c.clear-keys.ensures.keys c.take_off.ensures.rise in
    rw (← c.self.view_is) (anyway_ok c.take_off.result (are_left reasons c.take_off.new.reasons c.args.event.now keys rising woken c.take_off.ensures.left))
