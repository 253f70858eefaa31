use Rattle.std.proofs.Common.{◌∙◌, Ok, ap, subst}
use Rattle.flight_board.specs.Board.{flown_at}
use Rattle.orch_core.specs.Settled.{AreAnswersSoFar, InAnswers, Pops, RunsAll, SettlesSoFar}
use Rattle.orch_core.proofs.Ends.{settles_all}
use Rattle.orch_core.proofs.Runs.{faulted_as, none_and_some, rest_popped, settles_err, short_popped}
use Rattle.orch_core.proofs.state.Core.settle_reconciled.Goals as goal

pub returns-in-Faulted : goal.returns-in-Faulted
returns-in-Faulted g c = λ s is.
    let x = subst (λ r. RunsAll s c.args.self.now (g.C.Chip.state c.args.chip.now) r c.run_all.new.self (g.C.Chip.state c.run_all.new.chip)) (c.in_ok-run_all.was ∙ ap Ok c.in-Faulted.is) (c.run_all.ensures s is) in
    (faulted_as (SettlesSoFar c.args.self.now.board.plan c.args.self.now.sync.capacities) (AreAnswersSoFar c.args.self.now.board.plan 0 4) s (λ u calls h. InAnswers h) c.args.self.now (g.C.Chip.state c.args.chip.now) c.run_all.new.self (g.C.Chip.state c.run_all.new.chip) x.0, λ free. absurd (none_and_some (flown_at c.args.self.now.board x.1.0) (free x.1.0 x.1.1) x.1.2))

pub returns-in_err-pop_all : goal.returns-in_err-pop_all
returns-in_err-pop_all g c = λ s is.
    let x = subst (λ r. RunsAll s c.args.self.now (g.C.Chip.state c.args.chip.now) r c.run_all.new.self (g.C.Chip.state c.run_all.new.chip)) (c.in_ok-run_all.was ∙ ap Ok c.in-Whole.is) (c.run_all.ensures s is) in
    let y = subst (λ r. Pops c.run_all.new.self r c.pop_all.new.self) c.in_err-pop_all.was (c.pop_all.ensures.pops (x.1.warm ∙ c.requires.warm)) in
    settles_err s c.args.self.now (g.C.Chip.state c.args.chip.now) c.pop_all.new.self (g.C.Chip.state c.run_all.new.chip) c.from_residual-in_err-pop_all.result c.from_residual-in_err-pop_all.ensures.0 (short_popped s c.args.self.now (g.C.Chip.state c.args.chip.now) c.run_all.new.self c.pop_all.new.self (g.C.Chip.state c.run_all.new.chip) is c.requires.warm x.1 x.2 x.0 x.3 y)

pub settle_keys-requires-clause-session : goal.settle_keys-requires-clause-session
settle_keys-requires-clause-session g c =
    let s = c.requires.session in
    let x = subst (λ r. RunsAll s.0 c.args.self.now (g.C.Chip.state c.args.chip.now) r c.run_all.new.self (g.C.Chip.state c.run_all.new.chip)) (c.in_ok-run_all.was ∙ ap Ok c.in-Whole.is) (c.run_all.ensures s.0 s.1) in
    let y = subst (λ r. Pops c.run_all.new.self r c.pop_all.new.self) c.in_ok-pop_all.was (c.pop_all.ensures.pops (x.1.warm ∙ c.requires.warm)) in
    let z = y.0.2 (g.C.Chip.state c.run_all.new.chip) x.0.runs.later x.0.runs.leads.stands in
    (z.later, z.leads.stands)

pub settle_keys-requires-clause-rest : goal.settle_keys-requires-clause-rest
settle_keys-requires-clause-rest g c =
    let s = c.requires.session in
    let x = subst (λ r. RunsAll s.0 c.args.self.now (g.C.Chip.state c.args.chip.now) r c.run_all.new.self (g.C.Chip.state c.run_all.new.chip)) (c.in_ok-run_all.was ∙ ap Ok c.in-Whole.is) (c.run_all.ensures s.0 s.1) in
    let y = subst (λ r. Pops c.run_all.new.self r c.pop_all.new.self) c.in_ok-pop_all.was (c.pop_all.ensures.pops (x.1.warm ∙ c.requires.warm)) in
    rest_popped c.args.self.now c.run_all.new.self c.pop_all.new.self c.requires.warm x.1 x.2 y.0 y.1

pub returns : goal.returns
returns g c = λ s is.
    let x = subst (λ r. RunsAll s c.args.self.now (g.C.Chip.state c.args.chip.now) r c.run_all.new.self (g.C.Chip.state c.run_all.new.chip)) (c.in_ok-run_all.was ∙ ap Ok c.in-Whole.is) (c.run_all.ensures s is) in
    let y = subst (λ r. Pops c.run_all.new.self r c.pop_all.new.self) c.in_ok-pop_all.was (c.pop_all.ensures.pops (x.1.warm ∙ c.requires.warm)) in
    let z = y.0.2 (g.C.Chip.state c.run_all.new.chip) x.0.runs.later x.0.runs.leads.stands in
    settles_all s c.args.self.now (g.C.Chip.state c.args.chip.now) is c.run_all.new.self c.pop_all.new.self (g.C.Chip.state c.run_all.new.chip) x.3 x.0 z (rest_popped c.args.self.now c.run_all.new.self c.pop_all.new.self c.requires.warm x.1 x.2 y.0 y.1)
    c.settle_keys.result c.settle_keys.new.self (g.C.Chip.state c.settle_keys.new.chip) (c.settle_keys.ensures z.later z.leads.stands)
