use Rattle.std.proofs.Common.{arith, sym, ap, ◌∙◌}
use Rattle.table_schema.specs.Hop.{put_row_hop}
use Rattle.table_schema.proofs.Hops.{put_row_hop-set}
use Rattle.table_schema.proofs.held_hops.put_row_hop.Goals as goal

pub returns-then-index-weight-clause-ok : goal.returns-then-index-weight-clause-ok
returns-then-index-weight-clause-ok c =
    let before = c.loop-at in
    let set_there = put_row_hop-set before.hops.items before.at c.args.hop c.args.weight c.index.result.now c.index-in-Equal.result.now c.index_mut.result.now (omega (arith, c.loop-at-test.true, c.len.ensures, before.hops.ok.0)) c.index.ensures (sym c.cmp.ensures ∙ c.in-Equal.is) c.index-in-Equal.ensures c.if-index-weight.true c.index_mut.ensures.value in
    sym set_there ∙ before.invariant.1 ∙ ap (λ l. put_row_hop l c.args.hop c.args.weight) before.invariant.2
