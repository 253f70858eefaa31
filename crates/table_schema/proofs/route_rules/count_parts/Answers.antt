use Rattle.std.proofs.Common.{ap, sym, ◌∙◌, ◌+◌, ◌==◌}
use Rattle.std.proofs.lemmas.List.Splits.{length-slice_split}
use Rattle.table_schema.proofs.route_rules.count_parts.Goals as goal

pub returns : goal.returns
returns c = ap (λ n. n + 1) c.count_commas.ensures.count ∙ sym (length-slice_split (λ b. b == 44) c.args.text.now)
