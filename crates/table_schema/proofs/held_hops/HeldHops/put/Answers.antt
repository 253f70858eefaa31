use Rattle.std.proofs.Common.{rules}
use Rattle.table_schema.specs.Hop.{AreRisingRowHops, HaveWeights}
use Rattle.table_schema.proofs.Hops.{kept_rising, kept_weights}
use Rattle.table_schema.proofs.held_hops.HeldHops.put.Goals as goal

pub returns-in-List-clause-rising : goal.returns-in-List-clause-rising
returns-in-List-clause-rising c =
    let rising : AreRisingRowHops c.in-List.hops.items = search rules in
    kept_rising c.put_row_hop.result _ _ _ _ c.put_row_hop.ensures.ok c.put_row_hop.ensures.err rising

pub returns-in-List-clause-weights : goal.returns-in-List-clause-weights
returns-in-List-clause-weights c =
    let weights : HaveWeights c.in-List.hops.items = search rules in
    kept_weights c.put_row_hop.result _ _ _ _ c.put_row_hop.ensures.ok c.put_row_hop.ensures.err c.requires.weight weights
