use Rattle.std.proofs.Common.{◌∙◌, Some, ap, sym}
use Rattle.std.proofs.lemmas.Option.{same_Some}
use Rattle.std.specs.Prelude.{option_map}
use Rattle.flight_board.proofs.SameRows.{row_exact, row_itself}
use Rattle.flight_board.proofs.board.is_same.Goals as goal

pub returns-in-Some-Some : goal.returns-in-Some-Some
returns-in-Some-Some c =
    let one = ap (option_map (λ r. r.now)) c.in-Some-Some.is-0 in
    let other = ap (option_map (λ r. r.now)) c.in-Some-Some.is-1 in
    let is = c.eq.ensures in
    (λ h. one ∙ ap Some (row_exact c.in-Some-Some.one.now c.in-Some-Some.other.now (sym is ∙ h)) ∙ sym other, λ h. is ∙ row_itself c.in-Some-Some.one.now c.in-Some-Some.other.now (same_Some _ _ (sym one ∙ h ∙ other)))
