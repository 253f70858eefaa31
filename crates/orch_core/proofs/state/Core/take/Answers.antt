use Rattle.std.proofs.Common.{◌≡◌, ◌∙◌, ap, rules, subst, sym}
use Rattle.switch_model.specs.History.{History}
use Rattle.sync_tables.specs.Tables.{tables_with_write}
use Rattle.session_laws.specs.Core.{CoreState, with_taken}
use Rattle.session_laws.specs.Events.{MakesOne}
use Rattle.session_laws.proofs.Writing.{write_step}
use Rattle.session_laws.specs.Service.Events.{MakesNext}
use Rattle.session_laws.proofs.Service.ByFirst.{board-stays}
use Rattle.session_laws.proofs.Service.Taking.{taken-next}
use Rattle.orch_core.specs.contracts.state.Core.{the_view}
use Rattle.round_laws.proofs.Sessions.{steady-session}
use Rattle.orch_core.proofs.Serving.{still_steady, taken_steady}
use Rattle.orch_core.proofs.state.Core.take.Goals as goal

pub returns-clause-steps : goal.returns-clause-steps
returns-clause-steps c = λ chip s is on.
    let first = c.in_default.ensures.ok c.self.inside.log c.args.sent c.in_ok-take.ensures.ok in
    let next = ap (λ (h : History). record (the_view c.self.inside) { tables = tables_with_write c.self.inside.tables c.args.sent.write; log = h }) c.in_ok-take.ensures.ok in
    subst (λ z. MakesOne c.args.self.now s z chip) (sym (first ∙ next ∙ ap (λ (z : CoreState). with_taken z c.args.sent) c.self.view_is))
    (write_step c.args.self.now chip s c.args.sent is on c.is_popped-order.ensures.order)

pub returns-clause-serves : goal.returns-clause-serves
returns-clause-serves c = λ chip s is on.
    let first = c.in_default.ensures.ok c.self.inside.log c.args.sent c.in_ok-take.ensures.ok in
    let next = ap (λ (h : History). record (the_view c.self.inside) { tables = tables_with_write c.self.inside.tables c.args.sent.write; log = h }) c.in_ok-take.ensures.ok in
    subst (λ z. MakesNext c.args.self.now s z chip) (sym (first ∙ next ∙ ap (λ (z : CoreState). with_taken z c.args.sent) c.self.view_is))
    (taken-next c.args.self.now chip s c.args.sent is on c.is_popped-order.ensures.order)

pub returns-then-is_full-clause-sessions : goal.returns-then-is_full-clause-sessions
returns-then-is_full-clause-sessions c = λ workers chip x on. steady-session c.args.self.now chip x

pub returns-in_err-take-clause-sessions : goal.returns-in_err-take-clause-sessions
returns-in_err-take-clause-sessions c = λ workers chip x on.
    let same : the_view (record c.self.inside { log = c.take.new.self }) ≡ c.args.self.now = search rules in
    still_steady c.args.self.now chip (the_view (record c.self.inside { log = c.take.new.self })) same x

pub returns-in-Err-clause-sessions : goal.returns-in-Err-clause-sessions
returns-in-Err-clause-sessions c = λ workers chip x on.
    let same : the_view (record c.self-2.inside { log = c.take_back.new.self }) ≡ c.args.self.now = search rules in
    still_steady c.args.self.now chip (the_view (record c.self-2.inside { log = c.take_back.new.self })) same x

pub returns-clause-sessions : goal.returns-clause-sessions
returns-clause-sessions c = λ workers chip x on.
    let first = c.in_default.ensures.ok c.self.inside.log c.args.sent c.in_ok-take.ensures.ok in
    let next = ap (λ (h : History). record (the_view c.self.inside) { tables = tables_with_write c.self.inside.tables c.args.sent.write; log = h }) c.in_ok-take.ensures.ok in
    let taken = first ∙ next ∙ ap (λ (z : CoreState). with_taken z c.args.sent) c.self.view_is in
    taken_steady c.args.self.now chip _ (λ s is. returns-clause-serves c chip s is on) (λ s t is then. board-stays c.args.self.now _ chip chip s t is then (ap (λ (z : CoreState). z.board) taken) (ap (λ (z : CoreState). z.warm) taken)) x
