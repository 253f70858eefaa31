use Rattle.std.proofs.Common.{None, Some, sym, ap, ◌∙◌}
use Rattle.flight_board.specs.Applied.{row_in}
use Rattle.flight_board.proofs.Rows.{set-others, set-own}
use Rattle.flight_board.proofs.applied.AppliedRows.apply.Goals as goal

pub returns-in-Some : goal.returns-in-Some
returns-in-Some c = record { own = ap row_in (set-own c.args.key.now (Some (Some c.in-Some.row)) c.args.self.now c.put.new.self c.put.ensures) ∙ sym c.in-Some.is; others = set-others c.args.key.now (Some (Some c.in-Some.row)) c.args.self.now c.put.new.self c.put.ensures }

pub returns-in-None : goal.returns-in-None
returns-in-None c = record { own = ap row_in (set-own c.args.key.now None c.args.self.now c.remove_place.new.self c.remove_place.ensures) ∙ sym c.in-None.is; others = set-others c.args.key.now None c.args.self.now c.remove_place.new.self c.remove_place.ensures }
