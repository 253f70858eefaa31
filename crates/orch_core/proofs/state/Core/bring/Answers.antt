use Rattle.std.proofs.Common.{◌∙◌, inl, Ok, ap, refl, subst, sym}
use Rattle.session_laws.specs.Core.{CoreState}
use Rattle.orch_core.specs.Outcomes.{Tries}
use Rattle.orch_core.specs.Settled.{Dropped, IsKeySoFar, StopsShort, Waits}
use Rattle.orch_core.proofs.Turns.{begun_runs, brings_err, short_same}
use Rattle.orch_core.proofs.state.Core.bring.Goals as goal

pub returns-in_err-try_key : goal.returns-in_err-try_key
returns-in_err-try_key g c = λ s is.
    let x = subst (λ r. Tries s 0 c.args.key c.args.self.now (g.C.Chip.state c.args.chip.now) r c.try_key.new.self) c.in_err-try_key.was (c.try_key.ensures s (g.C.Chip.state c.args.chip.now) is) in
    brings_err s c.args.key c.args.self.now (g.C.Chip.state c.args.chip.now) c.from_residual.result c.try_key.new.self (g.C.Chip.state c.args.chip.now) c.from_residual.ensures.0
    (short_same (IsKeySoFar c.args.self.now.board.plan c.args.self.now.sync.capacities c.args.key) s c.args.self.now c.try_key.new.self (g.C.Chip.state c.args.chip.now) (inl (refl, refl)) c.requires.rest.warm x.0 x.1)

pub run-requires-clause-session : goal.run-requires-clause-session
run-requires-clause-session g c =
    let s = c.requires.session in
    let x = subst (λ r. Tries s.0 0 c.args.key c.args.self.now (g.C.Chip.state c.args.chip.now) r c.try_key.new.self) (c.in_ok-try_key.was ∙ ap Ok c.in-Begun.is) (c.try_key.ensures s.0 (g.C.Chip.state c.args.chip.now) s.1) in
    (x.makes.later, x.makes.stands)

pub run-requires-clause-warm : goal.run-requires-clause-warm
run-requires-clause-warm g c =
    let s = c.requires.session in
    let x = subst (λ r. Tries s.0 0 c.args.key c.args.self.now (g.C.Chip.state c.args.chip.now) r c.try_key.new.self) (c.in_ok-try_key.was ∙ ap Ok c.in-Begun.is) (c.try_key.ensures s.0 (g.C.Chip.state c.args.chip.now) s.1) in
    ap (λ (z : CoreState). z.warm) x.is ∙ c.requires.rest.warm

pub returns-in_err-wait-in-Waits : goal.returns-in_err-wait-in-Waits
returns-in_err-wait-in-Waits g c = λ s is.
    let x = subst (λ r. Tries s 0 c.args.key c.args.self.now (g.C.Chip.state c.args.chip.now) r c.try_key.new.self) (c.in_ok-try_key.was ∙ ap Ok c.in-Waits.is) (c.try_key.ensures s (g.C.Chip.state c.args.chip.now) is) in
    brings_err s c.args.key c.args.self.now (g.C.Chip.state c.args.chip.now) c.from_residual-in_err-wait-in-Waits.result c.wait.new.self (g.C.Chip.state c.args.chip.now) c.from_residual-in_err-wait-in-Waits.ensures.0
    (subst (λ d. StopsShort (IsKeySoFar c.args.self.now.board.plan c.args.self.now.sync.capacities c.args.key) s c.args.self.now (g.C.Chip.state c.args.chip.now) d (g.C.Chip.state c.args.chip.now)) (sym c.in_err-wait-in-Waits.ensures.err) (short_same (IsKeySoFar c.args.self.now.board.plan c.args.self.now.sync.capacities c.args.key) s c.args.self.now c.try_key.new.self (g.C.Chip.state c.args.chip.now) (inl (refl, refl)) c.requires.rest.warm x.0 x.1))

pub returns-in-Dropped : goal.returns-in-Dropped
returns-in-Dropped g c = λ s is. Dropped refl (subst (λ r. Tries s 0 c.args.key c.args.self.now (g.C.Chip.state c.args.chip.now) r c.try_key.new.self) (c.in_ok-try_key.was ∙ ap Ok c.in-Dropped.is) (c.try_key.ensures s (g.C.Chip.state c.args.chip.now) is))

pub returns-in-Begun : goal.returns-in-Begun
returns-in-Begun g c = λ s is.
    let x = subst (λ r. Tries s 0 c.args.key c.args.self.now (g.C.Chip.state c.args.chip.now) r c.try_key.new.self) (c.in_ok-try_key.was ∙ ap Ok c.in-Begun.is) (c.try_key.ensures s (g.C.Chip.state c.args.chip.now) is) in
    begun_runs s c.args.key c.args.self.now (g.C.Chip.state c.args.chip.now) is c.try_key.new.self x c.run.new.self (g.C.Chip.state c.run.new.chip) c.run.result (c.run.ensures x.makes.later x.makes.stands)

pub returns-in_ok-wait-in-Waits : goal.returns-in_ok-wait-in-Waits
returns-in_ok-wait-in-Waits g c = λ s is.
    let x = subst (λ r. Tries s 0 c.args.key c.args.self.now (g.C.Chip.state c.args.chip.now) r c.try_key.new.self) (c.in_ok-try_key.was ∙ ap Ok c.in-Waits.is) (c.try_key.ensures s (g.C.Chip.state c.args.chip.now) is) in
    Waits c.try_key.new.self c.in-Waits.wait refl x.0 x.1 x.2 c.in_ok-wait-in-Waits.ensures.ok
