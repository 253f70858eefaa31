use Rattle.std.proofs.Common.{None, IsSome, sym, subst, ◌∙◌}
use Rattle.std.proofs.lemmas.Bool.{false≢true}
use Rattle.flight_board.proofs.Rows.{no-row, set-others, set-own, set-rows}
use Rattle.flight_board.proofs.applied.AppliedRows.forget_place.Goals as goal

pub returns-then-is_none : goal.returns-then-is_none
returns-then-is_none c = record {
  gone = λ _ there. false≢true (subst (λ o. IsSome o) (set-own c.args.key.now None c.args.self.now c.remove_place.new.self c.remove_place.ensures) there);
  rows = set-rows c.args.key.now None c.args.self.now c.remove_place.new.self c.remove_place.ensures (sym (sym c.row.ensures ∙ no-row c.row.result (λ r. r.now) c.if-is_none.ensures));
  others = set-others c.args.key.now None c.args.self.now c.remove_place.new.self c.remove_place.ensures;
}
