use Rattle.std.proofs.Common.{inl, refl, subst, sym}
use Rattle.session_laws.specs.Core.{IsFullFor}
use Rattle.orch_core.proofs.Answers.{answered_err, never, next_now, ready_now, stands_now, stays_itself, stays_now, there_is, whole}
use Rattle.orch_core.proofs.state.Core.answer.Goals as goal

pub due_call-requires-clause-flying : goal.due_call-requires-clause-flying
due_call-requires-clause-flying g c =
    let b = c.in_ok-prepare.ensures.ok in
    let x = there_is _ c.requires.flying in
    ready_now c.requires.session.0 c.args.worker c.args.self.now b.0 (g.C.Chip.state c.args.chip.now) b.1 c.requires.session.1 x.0 x.1 c.prepare.new.self b.2 c.requires.warm

pub returns-in_err-prepare : goal.returns-in_err-prepare
returns-in_err-prepare g c = λ s is.
    answered_err c.args.ends s c.args.worker c.args.self.now (g.C.Chip.state c.args.chip.now) (g.C.Chip.state c.args.chip.now) c.from_residual.result c.prepare.new.self c.from_residual.ensures.0
    (never c.is_full.result c.if-is_full.false (λ full. c.is_full.ensures.full.1 (subst (λ n. IsFullFor c.args.self.now n 2) (sym c.effects.ensures) full)))
    (inl refl)
    (stays_itself s c.args.self.now c.prepare.new.self (g.C.Chip.state c.args.chip.now) c.in_err-prepare.ensures.err is)

pub returns-in_err-call : goal.returns-in_err-call
returns-in_err-call g c = λ s is.
    let b = c.in_ok-prepare.ensures.ok in
    let x = there_is _ c.requires.flying in
    answered_err c.args.ends s c.args.worker c.args.self.now (g.C.Chip.state c.args.chip.now) (g.C.Chip.state c.args.chip.now) c.from_residual-in_err-call.result c.prepare.new.self c.from_residual-in_err-call.ensures.0
    (never c.is_full.result c.if-is_full.false (λ full. c.is_full.ensures.full.1 (subst (λ n. IsFullFor c.args.self.now n 2) (sym c.effects.ensures) full)))
    (inl refl)
    (stays_now s c.args.worker c.args.self.now b.0 (g.C.Chip.state c.args.chip.now) b.1 is x.0 x.1 c.prepare.new.self b.2)

pub make-requires-clause-session : goal.make-requires-clause-session
make-requires-clause-session g c =
    let b = c.in_ok-prepare.ensures.ok in
    let x = there_is _ c.requires.flying in
    (c.requires.session.0, stands_now c.requires.session.0 c.args.worker c.args.self.now b.0 (g.C.Chip.state c.args.chip.now) b.1 c.requires.session.1 x.0 x.1 c.prepare.new.self b.2)

pub make-requires-clause-flying : goal.make-requires-clause-flying
make-requires-clause-flying g c =
    let b = c.in_ok-prepare.ensures.ok in
    let x = there_is _ c.requires.flying in
    next_now c.requires.session.0 c.args.worker c.args.self.now b.0 (g.C.Chip.state c.args.chip.now) b.1 c.requires.session.1 x.0 x.1 c.prepare.new.self b.2 c.in_ok-call.call c.in_ok-call.ensures

pub returns : goal.returns
returns g c = λ s is.
    let b = c.in_ok-prepare.ensures.ok in
    let x = there_is _ c.requires.flying in
    whole s c.args.worker c.args.self.now b.0 (g.C.Chip.state c.args.chip.now) b.1 is x.0 x.1 c.prepare.new.self b.2 c.args.ends
    (never c.is_full.result c.if-is_full.false (λ full. c.is_full.ensures.full.1 (subst (λ n. IsFullFor c.args.self.now n 2) (sym c.effects.ensures) full)))
    c.make.result c.make.new.self (g.C.Chip.state c.make.new.chip) (c.make.ensures s (stands_now s c.args.worker c.args.self.now b.0 (g.C.Chip.state c.args.chip.now) b.1 is x.0 x.1 c.prepare.new.self b.2))
