use Rattle.std.proofs.Common.{◌++◌, ◌∷◌, flat_map, take_all, ap, ◌∙◌}
use Rattle.std.specs.Fmt.{decimal}
use Rattle.sai_record.proofs.Longs.{numbers_spaced}
use Rattle.sai_record.proofs.writing.write_values.Goals as goal

pub returns : goal.returns
returns c =
    let out = c.args.out.now.items in
    let numbers = c.args.numbers.now in
    c.loop-number.invariant ∙ ap (λ ns. out ++ flat_map (λ n. 32 ∷ decimal n) ns) (take_all c.loop-number.number-index numbers c.loop-number-test.false) ∙ ap (λ text. out ++ text) (numbers_spaced numbers)
