use Rattle.std.proofs.Common.{None, Some, IsSome, refl, sym, ap, subst}
use Rattle.flight_board.specs.Applied.{row_in}
use Rattle.flight_board.proofs.Rows.{set-others, set-own, set-rows}
use Rattle.flight_board.proofs.applied.AppliedRows.keep_place.Goals as goal

pub returns-in_ok-add_place-in-None-clause-rows : goal.returns-in_ok-add_place-in-None-clause-rows
returns-in_ok-add_place-in-None-clause-rows c = set-rows c.args.key.now (Some None) c.args.self.now c.add_place.new.self c.in_ok-add_place-in-None.ensures.ok (ap row_in c.in-None.ensures)

pub returns-in_ok-add_place-in-None-clause-place : goal.returns-in_ok-add_place-in-None-clause-place
returns-in_ok-add_place-in-None-clause-place c = subst (λ o. IsSome o) (sym (set-own c.args.key.now (Some None) c.args.self.now c.add_place.new.self c.in_ok-add_place-in-None.ensures.ok)) refl

pub returns-in_ok-add_place-in-None-clause-others : goal.returns-in_ok-add_place-in-None-clause-others
returns-in_ok-add_place-in-None-clause-others c = set-others c.args.key.now (Some None) c.args.self.now c.add_place.new.self c.in_ok-add_place-in-None.ensures.ok
