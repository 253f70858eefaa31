use Rattle.std.proofs.Common.{ap, ◌∙◌}
use Rattle.lpm_table.specs.Parts.{whole}
use Rattle.lpm_table.specs.Trees.{members}
use Rattle.lpm_table.proofs.Sides.{list_above, node_above}
use Rattle.lpm_table.proofs.tree.above.Goals as goal

pub grown-requires : goal.grown-requires
grown-requires c = node_above (whole c.args.prefix.now) (whole c.args.node.now) c.args.below.value c.requires c.width.result c.width.ensures c.is_one-one.result c.of.result c.is_one-one.ensures (ap members c.of.ensures.at) (ap members c.of.ensures.other)

pub returns : goal.returns
returns c = c.grown.ensures ∙ list_above (whole c.args.prefix.now) (whole c.args.node.now) c.args.below.value c.requires c.width.result c.width.ensures c.is_one-one.result c.of.result (ap members c.of.ensures.at) (ap members c.of.ensures.other)
