use Rattle.std.proofs.Common.{sym, arith, ◌∙◌}
use Rattle.table_schema.proofs.RoutePairs.{count_more, hop_broken, hop_put, too_many}
use Rattle.table_schema.proofs.route_rules.put_pairs.Goals as goal

pub loop-addresses_left-preserved : goal.loop-addresses_left-preserved
loop-addresses_left-preserved c =
    let before = c.loop-addresses_left in
    let ips = c.cut_at.result in
    let ons = c.cut_at-in-Some-Some.result in
    let weights = c.cut_first.result in
    let at = c.in-Some-Some in
    let few = before.invariant.3 in
    let more = c.if-count-eq-MOST_HOPS.false in (
      hop_put c.args.several before.hops before.addresses_left before.names_left before.weights_left ips.1 ons.1 weights.1 at.address_list at.name_list ips.0.now ons.0.now weights.0.now at.is-0 at.is-1 c.cut_at.ensures c.cut_at-in-Some-Some.ensures c.cut_first.ensures.first c.cut_first.ensures.others c.put.new.self (c.in-Ok.hop, c.in-Ok.weight) (sym c.read_weighted.ensures.value ∙ c.in-Ok.is) c.in_ok-put-in-Ok.ensures.ok ∙ before.invariant.0,
      count_more _ before.count before.addresses_left ips.1 at.address_list ips.0.now at.is-0 c.cut_at.ensures before.invariant.1,
      count_more _ before.count before.names_left ons.1 at.name_list ons.0.now at.is-1 c.cut_at-in-Some-Some.ensures before.invariant.2,
      omega arith,
    )

pub returns-then-count-eq-MOST_HOPS-clause-hops : goal.returns-then-count-eq-MOST_HOPS-clause-hops
returns-then-count-eq-MOST_HOPS-clause-hops c = λ fit. too_many _ _ c.loop-addresses_left.count c.args.weights.now c.loop-addresses_left.addresses_left c.in-Some-Some.address_list c.in-Some-Some.is-0 c.loop-addresses_left.invariant.1 c.if-count-eq-MOST_HOPS.true fit

pub returns-in-Err-clause-hops : goal.returns-in-Err-clause-hops
returns-in-Err-clause-hops c =
    let before = c.loop-addresses_left in
    let at = c.in-Some-Some in
    let weights = c.cut_first.result in
    λ _. sym before.invariant.0 ∙ hop_broken c.args.several before.hops before.addresses_left before.names_left before.weights_left c.cut_at.result.1 c.cut_at-in-Some-Some.result.1 weights.1 at.address_list at.name_list c.cut_at.result.0.now c.cut_at-in-Some-Some.result.0.now weights.0.now at.is-0 at.is-1 c.cut_at.ensures c.cut_at-in-Some-Some.ensures c.cut_first.ensures.first c.cut_first.ensures.others c.in-Err.broken (sym c.read_weighted.ensures.value ∙ c.in-Err.is)
