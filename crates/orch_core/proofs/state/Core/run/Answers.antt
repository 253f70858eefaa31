use Rattle.std.proofs.Common.{rules, ◌≡◌, None, ◌+◌, ◌∙◌, inl, inr, true, Ok, ap, refl, subst, arith}
use Rattle.flight_board.specs.Board.{flown_at}
use Rattle.orch_core.specs.Outcomes.{Answered}
use Rattle.orch_core.proofs.Runs.{did_by, flew, out_err, runs_faulted, runs_first, runs_full, runs_on, runs_short, stop_faulted, stop_full, stop_short}
use Rattle.orch_core.proofs.state.Core.run.Goals as goal

pub returns-in_err-answer : goal.returns-in_err-answer
returns-in_err-answer g c = λ s is.
    let x = c.loop-self.invariant.0 s is in
    let t = x.runs.later in
    let y = subst (λ r. Answered true t c.args.worker c.loop-self.self (g.C.Chip.state c.loop-self.chip) r c.answer.new.self (g.C.Chip.state c.answer.new.chip)) (c.in_err-answer.was) (c.answer.ensures t x.runs.leads.stands) in
    out_err s c.args.self.now (g.C.Chip.state c.args.chip.now) c.answer.new.self (g.C.Chip.state c.answer.new.chip) c.args.worker c.from_residual.result c.from_residual.ensures.0 (runs_short c.args.worker (c.args.worker + 1) c.args.worker (c.args.worker + 1) s c.args.self.now (g.C.Chip.state c.args.chip.now) is c.loop-self.self (g.C.Chip.state c.loop-self.chip) x.runs x.order (omega arith) (omega arith) (omega arith) x.keeps c.answer.new.self (g.C.Chip.state c.answer.new.chip) (stop_short t c.args.worker c.loop-self.self (g.C.Chip.state c.loop-self.chip) (x.beside.warm ∙ c.requires.warm) c.answer.new.self (g.C.Chip.state c.answer.new.chip) x.runs.leads.stands c.in_err-answer.field-0.0 y))

pub returns-in-Faulted : goal.returns-in-Faulted
returns-in-Faulted g c = λ s is.
    let x = c.loop-self.invariant.0 s is in
    let t = x.runs.later in
    let y = subst (λ r. Answered true t c.args.worker c.loop-self.self (g.C.Chip.state c.loop-self.chip) r c.answer.new.self (g.C.Chip.state c.answer.new.chip)) (c.in_ok-answer.was ∙ ap Ok c.in-Faulted.is) (c.answer.ensures t x.runs.leads.stands) in
    (runs_faulted c.args.worker (c.args.worker + 1) c.args.worker (c.args.worker + 1) s c.args.self.now (g.C.Chip.state c.args.chip.now) is c.loop-self.self (g.C.Chip.state c.loop-self.chip) x.runs x.order (omega arith) (omega arith) (omega arith) x.keeps (λ none. ap (λ t. t.waiting) x.beside.tables ∙ none) c.answer.new.self (g.C.Chip.state c.answer.new.chip) (stop_faulted t c.args.worker c.loop-self.self (g.C.Chip.state c.loop-self.chip) (x.beside.warm ∙ c.requires.warm) c.answer.new.self (g.C.Chip.state c.answer.new.chip) y), flew c.args.worker c.args.self.now c.loop-self.self c.loop-self.invariant.1 (c.is_flying.ensures.0 c.loop-self-test.true))

pub returns-in-LogFull : goal.returns-in-LogFull
returns-in-LogFull g c = λ s is.
    let x = c.loop-self.invariant.0 s is in
    let t = x.runs.later in
    let y = subst (λ r. Answered true t c.args.worker c.loop-self.self (g.C.Chip.state c.loop-self.chip) r c.answer.new.self (g.C.Chip.state c.answer.new.chip)) (c.in_ok-answer.was ∙ ap Ok c.in-LogFull.is) (c.answer.ensures t x.runs.leads.stands) in
    runs_full c.args.worker (c.args.worker + 1) c.args.worker (c.args.worker + 1) s c.args.self.now (g.C.Chip.state c.args.chip.now) is c.loop-self.self (g.C.Chip.state c.loop-self.chip) x.runs x.order (omega arith) (omega arith) (omega arith) x.keeps c.answer.new.self (g.C.Chip.state c.answer.new.chip) (stop_full t c.args.worker c.loop-self.self (g.C.Chip.state c.loop-self.chip) (x.beside.warm ∙ c.requires.warm) c.answer.new.self (g.C.Chip.state c.answer.new.chip) x.runs.leads.stands c.requires.worker (c.is_flying.ensures.0 c.loop-self-test.true) y)

pub loop-self-init : goal.loop-self-init
loop-self-init g c = (λ s is. runs_first s c.args.worker c.args.self.now (g.C.Chip.state c.args.chip.now) is, inl refl)

pub loop-self-preserved : goal.loop-self-preserved
loop-self-preserved g c = (
  λ s is.
      let x = c.loop-self.invariant.0 s is in
      let t = x.runs.later in
      let y = subst (λ r. Answered true t c.args.worker c.loop-self.self (g.C.Chip.state c.loop-self.chip) r c.answer.new.self (g.C.Chip.state c.answer.new.chip)) (c.in_ok-answer.was) (c.answer.ensures t x.runs.leads.stands) in
      runs_on s c.args.worker c.args.self.now (g.C.Chip.state c.args.chip.now) c.loop-self.self (g.C.Chip.state c.loop-self.chip) x c.answer.new.self (g.C.Chip.state c.answer.new.chip)
      (did_by t c.args.worker c.loop-self.self (g.C.Chip.state c.loop-self.chip) c.in_ok-answer.field-0 c.answer.new.self (g.C.Chip.state c.answer.new.chip) c.in_default.not-Faulted c.in_default.not-LogFull y),
  inr (flew c.args.worker c.args.self.now c.loop-self.self c.loop-self.invariant.1 (c.is_flying.ensures.0 c.loop-self-test.true)),
)

pub returns : goal.returns
returns g c = λ s is.
    let none : flown_at c.loop-self.self.board c.args.worker ≡ None = search rules in
    (c.loop-self.invariant.0 s is, none)
