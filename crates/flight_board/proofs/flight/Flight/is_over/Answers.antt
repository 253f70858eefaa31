use Rattle.std.proofs.Common.{ap, sym, ◌∙◌}
use Rattle.std.proofs.lemmas.Bool.{false≢true}
use Rattle.std.proofs.lemmas.Option.{none-some}
use Rattle.registry_laws.specs.Flown.{group_to_take}
use Rattle.flight_board.specs.Flights.{unboxed}
use Rattle.flight_board.proofs.Dues.{no-groups, row-first}
use Rattle.flight_board.proofs.flight.Flight.is_over.Goals as goal

pub returns-then-not-is_over : goal.returns-then-not-is_over
returns-then-not-is_over c = λ plan shared. (
  λ t. absurd (false≢true t),
  λ none.
      let due = ap (λ z. z.flown.operation.due) c.self.view_is ∙ row-first plan c.args.reg.now c.args.self.now.flown none in
      absurd (false≢true (sym c.if-not-is_over.true ∙ c.is_over.ensures.1 due)),
)

pub returns-in_default : goal.returns-in_default
returns-in_default c = λ plan shared. (
  λ t. absurd (false≢true t),
  λ none.
      let group = ap (λ z. z.flown.group) (sym c.self.view_is) ∙ ap unboxed c.in-None.is in
      let takes = (no-groups plan c.args.reg.now c.args.self.now.flown group none).1 in
      let taken = c.in_default.ensures' ∙ ap (λ z. group_to_take z.flown.operation) c.self.view_is ∙ takes in
      absurd (none-some _ (sym taken)),
)
