use Rattle.std.proofs.Common.{◌∙◌, inr, option_map, sym, ap, subst}
use Rattle.table_schema.specs.Names.{names_of}
use Rattle.switch_model.specs.declared.wait.Wait.TheVariants as wait
use Rattle.switch_model.specs.Placed.{router_in}
use Rattle.switch_machine.proofs.Placing.{bare_placed}
use Rattle.orch_flight.specs.Needing.{first_unapplied, missing_for}
use Rattle.orch_flight.specs.Starting.{in_place}
use Rattle.flight_board.specs.Applied.{row_at}
use Rattle.flight_board.specs.Board.{IsUnflown}
use Rattle.flight_board.proofs.Heads.{head-unapplied}
use Rattle.flight_board.proofs.board.Board.first_wait.Goals as goal

pub returns-in_default-new-clause-none : goal.returns-in_default-new-clause-none
returns-in_default-new-clause-none c = subst (λ z. IsUnflown z c.args.key.now) c.self.view_is c.in_default.ensures.none

pub returns-in-Some-2-clause-some : goal.returns-in-Some-2-clause-some
returns-in-Some-2-clause-some c =
    let names = c.args.self.now.names in
    let key = c.args.key.now in
    let free = subst (λ z. IsUnflown z key) c.self.view_is c.in_default.ensures.none in
    let v = router_in (row_at c.args.self.now.applied) key in
    let found = head-unapplied names (names_of key c.in-Some-new.row) c.first_name.result c.in-Some-2.missing c.first_name.ensures (sym c.in_ok-missing.ensures ∙ c.in-Some-2.is) in
    inr (free, ap (λ o. missing_for names key (in_place v o)) c.in-Some-new.is ∙ ap (λ r. option_map wait.Missing (first_unapplied names (names_of key r))) (bare_placed v c.in-Some-new.row) ∙ ap (option_map wait.Missing) found)

pub returns-in-None-clause-none : goal.returns-in-None-clause-none
returns-in-None-clause-none c = subst (λ z. IsUnflown z c.args.key.now) c.self.view_is c.in_default.ensures.none
