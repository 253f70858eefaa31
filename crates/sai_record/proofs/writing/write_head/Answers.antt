use Rattle.std.proofs.Common.{◌++◌, codes, map, ap, ◌∙◌, append_assoc}
use Rattle.std.specs.Fmt.{decimal}
use Rattle.sai_record.specs.Line.{spaced}
use Rattle.sai_record.proofs.writing.write_head.Goals as goal

pub returns : goal.returns
returns c =
    let numbers = spaced (map decimal c.args.caps.now.0) in
    c.in_ok-write_values.ensures ∙ ap (λ text. text ++ numbers) c.in_ok-extend_from_slice.ensures.items ∙ append_assoc c.args.out.now.items (codes "recording 1") numbers
