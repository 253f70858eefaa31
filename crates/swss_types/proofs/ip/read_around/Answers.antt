use Rattle.std.proofs.Common.{Some, ap, ◌∙◌, sym, arith}
use Rattle.swss_types.specs.declared.address.Family.TheVariants.{V6}
use Rattle.swss_types.specs.Ip.{side_of}
use Rattle.swss_types.proofs.Addresses.{around_some, made_few}
use Rattle.swss_types.proofs.ip.read_around.Goals as goal

pub overflow_add-above : goal.overflow_add-above
overflow_add-above c =
    let few = made_few (side_of c.args.front.now) _ _ (sym c.in_ok-high.ensures) in
    let few' = made_few (side_of c.args.back.now) _ _ (sym c.in_ok-low.ensures) in
    omega arith

pub overflow_add-high : goal.overflow_add-high
overflow_add-high c =
    let all = around_some c.args.front.now c.args.back.now c.in_ok-high.high c.in_ok-high.above c.in_ok-low.low c.in_ok-low.below (sym c.in_ok-high.ensures) (sym c.in_ok-low.ensures) (omega arith) in
    let small = all.0 in
    omega arith

pub returns : goal.returns
returns c =
    let all = around_some c.args.front.now c.args.back.now c.in_ok-high.high c.in_ok-high.above c.in_ok-low.low c.in_ok-low.below (sym c.in_ok-high.ensures) (sym c.in_ok-low.ensures) (omega arith) in
    ap (λ n. Some (record { family = V6; bits = n })) c.new.ensures ∙ sym all.1
