use Rattle.std.proofs.Common.{arith}
use Rattle.lpm_table.specs.Parts.{whole}
use Rattle.lpm_table.proofs.Aparts.{apart_above, apart_fork}
use Rattle.lpm_table.proofs.tree.put_apart.Goals as goal

pub put_above-requires : goal.put_above-requires
put_above-requires c = apart_above (whole c.args.prefix.now) (whole c.args.node.now) c.args.tree.now c.rest_apart-cut.result c.requires c.rest_apart-cut.ensures.agree (omega (arith, c.if-cut-width.true, c.width.ensures))

pub put_beside-requires : goal.put_beside-requires
put_beside-requires c = apart_fork (whole c.args.prefix.now) (whole c.args.node.now) c.args.tree.now c.rest_apart-cut.result c.requires c.rest_apart-cut.ensures.agree (omega (arith, c.if-cut-width.false, c.width.ensures)) c.rest_apart-cut.ensures.apart
