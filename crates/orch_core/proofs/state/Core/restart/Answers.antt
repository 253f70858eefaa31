use Rattle.std.proofs.Common.{◌∙◌, ap, subst, sym}
use Rattle.session_laws.specs.Core.{CoreState}
use Rattle.session_laws.specs.Service.Events.{MakesNext, restarted}
use Rattle.session_laws.proofs.Service.ByFirst.{core-away}
use Rattle.session_laws.proofs.Service.Restarting.{restart-next}
use Rattle.session_laws.proofs.Service.States.{initialized-reconciled}
use Rattle.round_laws.proofs.Sessions.{steady-session}
use Rattle.orch_core.specs.Restarting.{forgotten_core}
use Rattle.orch_core.proofs.Serving.{still_steady, taken_steady}
use Rattle.orch_core.proofs.state.Core.restart.Goals as goal

pub returns-clause-steps : goal.returns-clause-steps
returns-clause-steps c = λ chip s is many.
    subst (λ z. MakesNext c.args.self.now s z chip) (sym (c.forget.ensures ∙ ap forgotten_core c.in_ok-mark.ensures.ok ∙ ap (restarted c.args.self.now) many)) (restart-next c.args.self.now chip s is)

pub returns-then-is_full-clause-sessions : goal.returns-then-is_full-clause-sessions
returns-then-is_full-clause-sessions c = λ workers chip x many. steady-session c.args.self.now chip x

pub returns-in_err-mark-clause-sessions : goal.returns-in_err-mark-clause-sessions
returns-in_err-mark-clause-sessions c = λ workers chip x many. still_steady c.args.self.now chip c.mark.new.self c.in_err-mark.ensures.err x

pub returns-clause-sessions : goal.returns-clause-sessions
returns-clause-sessions c = λ workers chip x many.
    let warm = ap (λ (z : CoreState). z.warm) (c.forget.ensures ∙ ap forgotten_core c.in_ok-mark.ensures.ok) in
    taken_steady c.args.self.now chip c.forget.new.self (λ s is. returns-clause-steps c chip s is many) (λ s t is then. core-away c.args.self.now c.forget.new.self chip chip s t is then (λ h. initialized-reconciled (sym warm ∙ h))) x
