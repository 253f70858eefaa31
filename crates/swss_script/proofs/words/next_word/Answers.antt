use Rattle.std.proofs.Common.{sym, ap, ◌∙◌, not}
use Rattle.std.specs.List.{position}
use Rattle.swss_script.specs.Words.{is_blank}
use Rattle.swss_script.proofs.Blanks.{words_none, boundary_start, boundary_end, next_found, next_last}
use Rattle.swss_script.proofs.words.next_word.Goals as goal

pub returns-in_err-start : goal.returns-in_err-start
returns-in_err-start c =
    let none = ap (position (λ byte. not (is_blank byte))) (sym c.as_bytes.ensures.value) ∙ sym c.in_err-start.ensures in
    rw c.from_residual.ensures (words_none c.args.text.now none)

pub range_from-text-requires : goal.range_from-text-requires
range_from-text-requires c = boundary_start c.args.text.now c.in_ok-start.start c.utf8.text (ap (position (λ byte. not (is_blank byte))) (sym c.as_bytes.ensures.value) ∙ sym c.in_ok-start.ensures)

pub range-requires-clause-end_boundary : goal.range-requires-clause-end_boundary
range-requires-clause-end_boundary c = boundary_end c.range_from-text.result.now c.in-Some.end (ap (position is_blank) (sym c.as_bytes-2.ensures.value) ∙ sym c.in-Some.ensures)

pub range_from-requires : goal.range_from-requires
range_from-requires c _ = boundary_end c.range_from-text.result.now c.in-Some.end (ap (position is_blank) (sym c.as_bytes-2.ensures.value) ∙ sym c.in-Some.ensures)

pub returns-in-Some : goal.returns-in-Some
returns-in-Some c = next_found c.args.text.now c.range_from-text.result.now c.range.result.now c.range_from.result.now c.in_ok-start.start c.in-Some.end
    (ap (position (λ byte. not (is_blank byte))) (sym c.as_bytes.ensures.value) ∙ sym c.in_ok-start.ensures)
    c.range_from-text.ensures.value
    (ap (position is_blank) (sym c.as_bytes-2.ensures.value) ∙ sym c.in-Some.ensures)
    c.range.ensures.value
    c.range_from.ensures.value

pub returns-in-None : goal.returns-in-None
returns-in-None c = next_last c.args.text.now c.range_from-text.result.now c.in_ok-start.start
    (ap (position (λ byte. not (is_blank byte))) (sym c.as_bytes.ensures.value) ∙ sym c.in_ok-start.ensures)
    c.range_from-text.ensures.value
    (ap (position is_blank) (sym c.as_bytes-2.ensures.value) ∙ sym c.in-None.ensures)
