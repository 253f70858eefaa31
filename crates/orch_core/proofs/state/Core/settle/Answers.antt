use Rattle.std.proofs.Common.{◌∙◌, Ok, ap, subst}
use Rattle.session_laws.proofs.Service.Sessions.{session-of}
use Rattle.round_laws.proofs.Sessions.{steady-on}
use Rattle.orch_core.specs.ComingBack.{Back, ComesOut, Stopped}
use Rattle.orch_core.specs.declared.answer.Settled.TheVariants as settled
use Rattle.orch_core.proofs.Coming.{settles_short}
use Rattle.orch_core.proofs.Serving.{settle_serves}
use Rattle.orch_core.proofs.state.Core.settle.Goals as goal

pub returns-in_err-come_back-clause-settles : goal.returns-in_err-come_back-clause-settles
returns-in_err-come_back-clause-settles g c = λ s is.
    settles_short s c.args.self.now (g.C.Chip.state c.args.chip.now) c.come_back.new.self (g.C.Chip.state c.come_back.new.chip) c.in_err-come_back.field-0.0 c.from_residual.result c.from_residual.ensures.0
    (subst (λ r. ComesOut s c.args.self.now (g.C.Chip.state c.args.chip.now) r c.come_back.new.self (g.C.Chip.state c.come_back.new.chip)) c.in_err-come_back.was (c.come_back.ensures s is))

pub settle_reconciled-requires-clause-session : goal.settle_reconciled-requires-clause-session
settle_reconciled-requires-clause-session g c =
    let s = c.requires.service in
    let x = subst (λ r. ComesOut s.0 c.args.self.now (g.C.Chip.state c.args.chip.now) r c.come_back.new.self (g.C.Chip.state c.come_back.new.chip)) (c.in_ok-come_back.was ∙ ap Ok c.in-Whole.is) (c.come_back.ensures s.0 s.1) in
    (x.later, session-of c.come_back.new.self (g.C.Chip.state c.come_back.new.chip) x.later x.comes.stands x.warm)

pub settle_reconciled-requires-clause-warm : goal.settle_reconciled-requires-clause-warm
settle_reconciled-requires-clause-warm g c =
    let s = c.requires.service in
    let x = subst (λ r. ComesOut s.0 c.args.self.now (g.C.Chip.state c.args.chip.now) r c.come_back.new.self (g.C.Chip.state c.come_back.new.chip)) (c.in_ok-come_back.was ∙ ap Ok c.in-Whole.is) (c.come_back.ensures s.0 s.1) in
    x.warm

pub returns-in-Whole-clause-settles : goal.returns-in-Whole-clause-settles
returns-in-Whole-clause-settles g c = λ s is.
    let x = subst (λ r. ComesOut s c.args.self.now (g.C.Chip.state c.args.chip.now) r c.come_back.new.self (g.C.Chip.state c.come_back.new.chip)) (c.in_ok-come_back.was ∙ ap Ok c.in-Whole.is) (c.come_back.ensures s is) in
    Back c.come_back.new.self (g.C.Chip.state c.come_back.new.chip) x (c.settle_reconciled.ensures x.later (session-of c.come_back.new.self (g.C.Chip.state c.come_back.new.chip) x.later x.comes.stands x.warm))

pub returns-in-Faulted-clause-settles : goal.returns-in-Faulted-clause-settles
returns-in-Faulted-clause-settles g c = λ s is. Stopped (subst (λ r. ComesOut s c.args.self.now (g.C.Chip.state c.args.chip.now) r c.come_back.new.self (g.C.Chip.state c.come_back.new.chip)) (c.in_ok-come_back.was ∙ ap Ok c.in-Faulted.is) (c.come_back.ensures s is))

pub returns-in-LogFull-clause-settles : goal.returns-in-LogFull-clause-settles
returns-in-LogFull-clause-settles g c = λ s is. Stopped (subst (λ r. ComesOut s c.args.self.now (g.C.Chip.state c.args.chip.now) r c.come_back.new.self (g.C.Chip.state c.come_back.new.chip)) (c.in_ok-come_back.was ∙ ap Ok c.in-LogFull.is) (c.come_back.ensures s is))

pub returns-in_err-come_back-clause-goes_on : goal.returns-in_err-come_back-clause-goes_on
returns-in_err-come_back-clause-goes_on g c = λ s is. settle_serves s c.args.self.now (g.C.Chip.state c.args.chip.now) c.from_residual.result c.come_back.new.self (g.C.Chip.state c.come_back.new.chip) (returns-in_err-come_back-clause-settles g c s is)

pub returns-in-Whole-clause-goes_on : goal.returns-in-Whole-clause-goes_on
returns-in-Whole-clause-goes_on g c = λ s is. settle_serves s c.args.self.now (g.C.Chip.state c.args.chip.now) c.settle_reconciled.result c.settle_reconciled.new.self (g.C.Chip.state c.settle_reconciled.new.chip) (returns-in-Whole-clause-settles g c s is)

pub returns-in-Faulted-clause-goes_on : goal.returns-in-Faulted-clause-goes_on
returns-in-Faulted-clause-goes_on g c = λ s is. settle_serves s c.args.self.now (g.C.Chip.state c.args.chip.now) (Ok settled.Faulted) c.come_back.new.self (g.C.Chip.state c.come_back.new.chip) (returns-in-Faulted-clause-settles g c s is)

pub returns-in-LogFull-clause-goes_on : goal.returns-in-LogFull-clause-goes_on
returns-in-LogFull-clause-goes_on g c = λ s is. settle_serves s c.args.self.now (g.C.Chip.state c.args.chip.now) (Ok settled.LogFull) c.come_back.new.self (g.C.Chip.state c.come_back.new.chip) (returns-in-LogFull-clause-settles g c s is)

pub returns-in_err-come_back-clause-sessions : goal.returns-in_err-come_back-clause-sessions
returns-in_err-come_back-clause-sessions g c = λ workers some. steady-on 0 workers some c.args.self.now c.come_back.new.self (g.C.Chip.state c.args.chip.now) (g.C.Chip.state c.come_back.new.chip) (returns-in_err-come_back-clause-goes_on g c)

pub returns-in-Whole-clause-sessions : goal.returns-in-Whole-clause-sessions
returns-in-Whole-clause-sessions g c = λ workers some. steady-on 0 workers some c.args.self.now c.settle_reconciled.new.self (g.C.Chip.state c.args.chip.now) (g.C.Chip.state c.settle_reconciled.new.chip) (returns-in-Whole-clause-goes_on g c)

pub returns-in-Faulted-clause-sessions : goal.returns-in-Faulted-clause-sessions
returns-in-Faulted-clause-sessions g c = λ workers some. steady-on 0 workers some c.args.self.now c.come_back.new.self (g.C.Chip.state c.args.chip.now) (g.C.Chip.state c.come_back.new.chip) (returns-in-Faulted-clause-goes_on g c)

pub returns-in-LogFull-clause-sessions : goal.returns-in-LogFull-clause-sessions
returns-in-LogFull-clause-sessions g c = λ workers some. steady-on 0 workers some c.args.self.now c.come_back.new.self (g.C.Chip.state c.args.chip.now) (g.C.Chip.state c.come_back.new.chip) (returns-in-LogFull-clause-goes_on g c)
