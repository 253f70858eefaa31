use Rattle.std.proofs.Common.{rules, ◌≡◌, ◌∙◌, [], ap₂}
use Rattle.table_schema.specs.Fields.{merged}
use Rattle.table_schema.proofs.Merges.{merged-nil}
use Rattle.table_schema.proofs.many.map_of.Goals as goal

pub loop-name-init : goal.loop-name-init
loop-name-init c =
    let none : c.new-map.result.entries ≡ [] = search rules in
    let left : c.into_iter-name-iterator.result ≡ c.args.pairs = search rules in
    ap₂ merged none left ∙ merged-nil c.args.pairs c.requires
