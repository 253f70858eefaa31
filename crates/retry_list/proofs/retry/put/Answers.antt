use Rattle.std.proofs.Common.{◌≡◌, true, false, IfSome, rules, subst, subst₂}
use Rattle.retry_list.specs.Index.{IsFiledAs}
use Rattle.retry_list.specs.Reasons.{event_of, is_woken, reason_at}
use Rattle.retry_list.proofs.retry.put.Goals as goal

pub exchange-answer-requires-clause-filed : goal.exchange-answer-requires-clause-filed
exchange-answer-requires-clause-filed c =
    let is = c.in-Ok-Some.field-0-is in
    let event : event_of c.args.wait ≡ c.in-Ok-Some.event = search rules in
    let name : c.args.key ≡ c.in-Ok-Some.name = search rules in
    record {
      was = c.args.index.now;
      indexed = c.requires.indexed;
      filed = subst₂ (λ e k. IsFiledAs true c.args.index.now c.file.new.index e k) event name (subst (λ o. IfSome o (λ at. IsFiledAs true c.args.index.now c.file.new.index (event_of c.args.wait) c.args.key)) is c.in-Ok-Some.ensures.filed);
      other = subst₂ (λ e k. is_woken e (reason_at c.args.reasons.now k) ≡ false) event name (subst (λ o. IfSome o (λ at. is_woken (event_of c.args.wait) (reason_at c.args.reasons.now c.args.key) ≡ false)) is c.in-Ok-Some.ensures.other);
    }
