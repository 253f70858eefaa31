use Rattle.std.proofs.Common.{arith}
use Rattle.apply_order.proofs.Tables.{left-table, put-table}
use Rattle.apply_order.proofs.places.put.Goals as goal

pub returns-then-place-len-clause-each : goal.returns-then-place-len-clause-each
returns-then-place-len-clause-each c =
    let long = c.len.ensures in
    let less = c.if-place-len.true in
    λ known is. put-table known c.args.places.now.items c.args.place c.args.partner is (omega (arith, long, less))

pub returns-else-place-len-clause-each : goal.returns-else-place-len-clause-each
returns-else-place-len-clause-each c =
    let long = c.len.ensures in
    let past = c.if-place-len.false in
    λ known is. left-table known c.args.places.now.items c.args.place c.args.partner is (omega (arith, long, past))
