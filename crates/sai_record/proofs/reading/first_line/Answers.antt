use Rattle.std.proofs.Common.{◌-◌, ◌+◌, ◌++◌, ◌∙◌, sym, ap, arith, length, length-drop, take, drop, take_all}
use Rattle.sai_record.specs.Line.{closed}
use Rattle.sai_record.proofs.Cut.{cut-none, cut-some}
use Rattle.sai_record.proofs.reading.first_line.Goals as goal

pub returns-in-Some : goal.returns-in-Some
returns-in-Some c =
    let text = c.args.text.now in
    let at = c.in-Some.at in
    let x = cut-some text at (sym c.newline.ensures ∙ c.in-Some.is) in
    let rest = take_all (length text - (at + 1)) (drop (at + 1) text) (omega (arith, length-drop (at + 1) text)) in
    (x.0, x.1 ∙ ap (λ r. closed (take at text) ++ r) (sym rest))

pub returns-in-None : goal.returns-in-None
returns-in-None c = cut-none c.args.text.now (sym c.newline.ensures ∙ c.in-None.is)
