use Rattle.std.proofs.Common.{◌-◌, ◌*◌, ◌^◌, false, true, sym, ap, ◌∙◌, subst}
use Rattle.swss_types.specs.Address.{front, width}
use Rattle.lpm_table.specs.Parts.{whole}
use Rattle.lpm_table.specs.Trees.{IsNode, members, members_at}
use Rattle.lpm_table.proofs.Nodes.{same_node}
use Rattle.lpm_table.proofs.Sides.{list_forked, node_forked}
use Rattle.lpm_table.proofs.tree.fork.Goals as goal

pub grown-requires : goal.grown-requires
grown-requires c =
    let p = whole c.args.prefix.now in
    let same = same_node p.ip.family (front c.args.cut p.ip.bits * 2 ^ c.args.cut) c.cleared.result (width p.ip.family - c.args.cut) (c.width.result - c.args.cut) (sym c.cleared.ensures) (ap (λ w. w - c.args.cut) (sym c.width.ensures)) in
    subst (λ m. IsNode m false (members_at false c.of.result) (members_at true c.of.result)) same
    (node_forked p (whole c.args.node.now) c.args.below.value c.args.cut c.requires.fork c.is_one-one.result c.of.result c.is_one-one.ensures (ap members c.of.ensures.at ∙ c.requires.leaf) (ap members c.of.ensures.other))

pub returns : goal.returns
returns c = c.grown.ensures ∙ list_forked (whole c.args.prefix.now) (whole c.args.node.now) c.args.below.value c.args.cut c.requires.fork c.is_one-one.result c.of.result c.is_one-one.ensures (ap members c.of.ensures.at ∙ c.requires.leaf) (ap members c.of.ensures.other)
