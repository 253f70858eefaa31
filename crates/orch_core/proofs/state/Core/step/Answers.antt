use Rattle.std.proofs.Common.{false, ◌∙◌, subst, sym}
use Rattle.session_laws.proofs.Service.Sessions.{session-of}
use Rattle.session_laws.proofs.Service.Joining.{none-more}
use Rattle.round_laws.proofs.Sessions.{steady-on, steady-session}
use Rattle.orch_core.specs.Restarting.{StepsFrom}
use Rattle.orch_core.proofs.Serving.{apply_serves, list_serves, restore_serves, work_serves}
use Rattle.orch_core.proofs.state.Core.step.Goals as goal

pub work-requires-clause-session : goal.work-requires-clause-session
work-requires-clause-session g c = let s = c.requires.service in (s.0, session-of c.args.self.now (g.C.Chip.state c.args.chip.now) s.0 s.1 (sym c.state.ensures ∙ c.in-Reconciled.is))

pub returns-in-Initialized-clause-event : goal.returns-in-Initialized-clause-event
returns-in-Initialized-clause-event g c = λ s is. subst (λ w. StepsFrom w c.args.worker s c.args.self.now (g.C.Chip.state c.args.chip.now) c.list.result c.list.new.self (g.C.Chip.state c.list.new.chip)) (sym (sym c.state.ensures ∙ c.in-Initialized.is)) (c.list.ensures s is)

pub returns-in-Restored-clause-event : goal.returns-in-Restored-clause-event
returns-in-Restored-clause-event g c = λ s is. subst (λ w. StepsFrom w c.args.worker s c.args.self.now (g.C.Chip.state c.args.chip.now) c.restore.result c.restore.new.self (g.C.Chip.state c.restore.new.chip)) (sym (sym c.state.ensures ∙ c.in-Restored.is)) (c.restore.ensures s is)

pub returns-in-Applying-clause-event : goal.returns-in-Applying-clause-event
returns-in-Applying-clause-event g c = λ s is. subst (λ w. StepsFrom w c.args.worker s c.args.self.now (g.C.Chip.state c.args.chip.now) c.apply.result c.apply.new.self (g.C.Chip.state c.apply.new.chip)) (sym (sym c.state.ensures ∙ c.in-Applying.is)) (c.apply.ensures s is)

pub returns-in-Reconciled-clause-event : goal.returns-in-Reconciled-clause-event
returns-in-Reconciled-clause-event g c = λ s is.
    let at = sym c.state.ensures ∙ c.in-Reconciled.is in
    subst (λ w. StepsFrom w c.args.worker s c.args.self.now (g.C.Chip.state c.args.chip.now) c.work.result c.work.new.self (g.C.Chip.state c.work.new.chip)) (sym at) (c.work.ensures s (session-of c.args.self.now (g.C.Chip.state c.args.chip.now) s is at))

pub returns-in-Initialized-clause-goes_on : goal.returns-in-Initialized-clause-goes_on
returns-in-Initialized-clause-goes_on g c = λ s is. list_serves c.args.worker s c.args.self.now (g.C.Chip.state c.args.chip.now) is false c.list.result c.list.new.self (g.C.Chip.state c.list.new.chip) (c.list.ensures s is)

pub returns-in-Restored-clause-goes_on : goal.returns-in-Restored-clause-goes_on
returns-in-Restored-clause-goes_on g c = λ s is. restore_serves c.args.worker s c.args.self.now (g.C.Chip.state c.args.chip.now) is c.restore.result c.restore.new.self (g.C.Chip.state c.restore.new.chip) (c.restore.ensures s is)

pub returns-in-Applying-clause-goes_on : goal.returns-in-Applying-clause-goes_on
returns-in-Applying-clause-goes_on g c = λ s is. apply_serves c.args.worker s c.args.self.now (g.C.Chip.state c.args.chip.now) is false c.apply.result c.apply.new.self (g.C.Chip.state c.apply.new.chip) (c.apply.ensures s is)

pub returns-in-Reconciled-clause-goes_on : goal.returns-in-Reconciled-clause-goes_on
returns-in-Reconciled-clause-goes_on g c = λ s is.
    let at = sym c.state.ensures ∙ c.in-Reconciled.is in
    work_serves c.args.worker s c.args.self.now (g.C.Chip.state c.args.chip.now) is at c.work.result c.work.new.self (g.C.Chip.state c.work.new.chip) (c.work.ensures s (session-of c.args.self.now (g.C.Chip.state c.args.chip.now) s is at))

pub returns-in-Suspect-clause-goes_on : goal.returns-in-Suspect-clause-goes_on
returns-in-Suspect-clause-goes_on g c = λ s is. none-more c.args.worker c.args.self.now (g.C.Chip.state c.args.chip.now) s is

pub returns-in-Initialized-clause-sessions : goal.returns-in-Initialized-clause-sessions
returns-in-Initialized-clause-sessions g c = λ workers less. steady-on c.args.worker workers less c.args.self.now c.list.new.self (g.C.Chip.state c.args.chip.now) (g.C.Chip.state c.list.new.chip) (returns-in-Initialized-clause-goes_on g c)

pub returns-in-Restored-clause-sessions : goal.returns-in-Restored-clause-sessions
returns-in-Restored-clause-sessions g c = λ workers less. steady-on c.args.worker workers less c.args.self.now c.restore.new.self (g.C.Chip.state c.args.chip.now) (g.C.Chip.state c.restore.new.chip) (returns-in-Restored-clause-goes_on g c)

pub returns-in-Applying-clause-sessions : goal.returns-in-Applying-clause-sessions
returns-in-Applying-clause-sessions g c = λ workers less. steady-on c.args.worker workers less c.args.self.now c.apply.new.self (g.C.Chip.state c.args.chip.now) (g.C.Chip.state c.apply.new.chip) (returns-in-Applying-clause-goes_on g c)

pub returns-in-Reconciled-clause-sessions : goal.returns-in-Reconciled-clause-sessions
returns-in-Reconciled-clause-sessions g c = λ workers less. steady-on c.args.worker workers less c.args.self.now c.work.new.self (g.C.Chip.state c.args.chip.now) (g.C.Chip.state c.work.new.chip) (returns-in-Reconciled-clause-goes_on g c)

pub returns-in-Suspect-clause-sessions : goal.returns-in-Suspect-clause-sessions
returns-in-Suspect-clause-sessions g c = λ workers less. steady-session c.args.self.now (g.C.Chip.state c.args.chip.now)
