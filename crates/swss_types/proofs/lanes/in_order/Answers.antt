use Rattle.std.proofs.Common.{◌+◌, drop, sym, ap, ◌∙◌}
use Rattle.std.proofs.lemmas.List.{drop_more}
use Rattle.swss_types.specs.Lanes.{rising}
use Rattle.swss_types.proofs.lanes.in_order.Goals as goal

pub loop-number-preserved : goal.loop-number-preserved
loop-number-preserved c =
    let before = c.loop-number in
    let numbers = c.args.numbers.now in
    ap (λ lanes. rising lanes (drop (before.number-index + 1) numbers)) c.in_ok-insert_rising.ensures.ok ∙ sym (ap (rising before.lanes.items) (drop_more numbers before.number-index 0 c.loop-number-test.true)) ∙ before.invariant
