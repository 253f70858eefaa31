use Rattle.std.proofs.Common.{rules, ◌≡◌, ◌∙◌, Ok, ap, refl, subst, arith}
use Rattle.session_laws.proofs.Settling.Running.{runs_none}
use Rattle.orch_core.specs.Settled.{RunsInOrder, RunsOut}
use Rattle.orch_core.proofs.Chips.{keeps_itself, keeps_on}
use Rattle.orch_core.proofs.Runs.{all_err, all_on, all_short, all_stops, beside_itself, beside_on, free_on, still_on}
use Rattle.orch_core.proofs.state.Core.run_all.Goals as goal

pub returns-in_err-stopped : goal.returns-in_err-stopped
returns-in_err-stopped g c = λ s is.
    let x = (c.loop-worker.invariant.0 s is).runs in
    let r = subst (λ r. RunsOut x.later c.loop-worker.worker c.loop-worker.self (g.C.Chip.state c.loop-worker.chip) r c.run.new.self (g.C.Chip.state c.run.new.chip)) (c.in_err-stopped.was) (c.run.ensures x.later x.leads.stands) in
    all_err s c.args.self.now (g.C.Chip.state c.args.chip.now) c.run.new.self (g.C.Chip.state c.run.new.chip) c.from_residual.result c.from_residual.ensures.0 (all_short c.loop-worker.worker s c.args.self.now (g.C.Chip.state c.args.chip.now) is c.loop-worker.self (g.C.Chip.state c.loop-worker.chip) (c.loop-worker.invariant.0 s is) (search rules) c.loop-worker.invariant.3 c.run.new.self (g.C.Chip.state c.run.new.chip) r)

pub returns-in_default : goal.returns-in_default
returns-in_default g c = λ s is.
    let x = (c.loop-worker.invariant.0 s is).runs in
    all_stops c.loop-worker.worker s c.args.self.now (g.C.Chip.state c.args.chip.now) is c.loop-worker.self (g.C.Chip.state c.loop-worker.chip) (c.loop-worker.invariant.0 s is) (search rules) c.loop-worker.invariant.3 c.in_ok-stopped.stopped c.in_default.not-Whole c.loop-worker.invariant.1 (c.loop-worker.invariant.4 c.loop-worker.worker (omega arith)) c.run.new.self (g.C.Chip.state c.run.new.chip) (subst (λ r. RunsOut x.later c.loop-worker.worker c.loop-worker.self (g.C.Chip.state c.loop-worker.chip) r c.run.new.self (g.C.Chip.state c.run.new.chip)) (c.in_ok-stopped.was) (c.run.ensures x.later x.leads.stands))

pub loop-worker-preserved : goal.loop-worker-preserved
loop-worker-preserved g c =
    let s = c.requires.session in
    let y = (c.loop-worker.invariant.0 s.0 s.1).runs in
    let q = subst (λ r. RunsOut y.later c.loop-worker.worker c.loop-worker.self (g.C.Chip.state c.loop-worker.chip) r c.run.new.self (g.C.Chip.state c.run.new.chip)) (c.in_ok-stopped.was ∙ ap Ok c.in-Whole.is) (c.run.ensures y.later y.leads.stands) in (
      λ t is.
          let all = c.loop-worker.invariant.0 t is in
          let x = all.runs in
          let r = subst (λ r. RunsOut x.later c.loop-worker.worker c.loop-worker.self (g.C.Chip.state c.loop-worker.chip) r c.run.new.self (g.C.Chip.state c.run.new.chip)) (c.in_ok-stopped.was ∙ ap Ok c.in-Whole.is) (c.run.ensures x.later x.leads.stands) in
          all_on c.loop-worker.worker t c.args.self.now c.loop-worker.self (g.C.Chip.state c.loop-worker.chip) all c.run.new.self (g.C.Chip.state c.run.new.chip) r.0,
      beside_on c.args.self.now c.loop-worker.self c.run.new.self c.loop-worker.invariant.1 q.0.beside,
      free_on c.loop-worker.worker c.loop-worker.self.board c.run.new.self.board c.loop-worker.invariant.2 q.0.others q.1,
      keeps_on c.loop-worker.invariant.3 q.0.keeps,
      still_on c.loop-worker.worker c.args.self.now.board c.loop-worker.self.board c.run.new.self.board c.loop-worker.invariant.4 q.0.others,
    )

pub loop-worker-init : goal.loop-worker-init
loop-worker-init g c = (
  λ s is. record { runs = runs_none c.args.self.now (g.C.Chip.state c.args.chip.now) s is; order = tt },
  beside_itself c.args.self.now,
  λ v less. absurd (omega (arith, less)),
  keeps_itself c.args.self.now (g.C.Chip.state c.args.chip.now),
  λ v least. refl,
)

pub returns : goal.returns
returns g c = λ s is.
    let end : c.loop-worker.worker ≡ 4 = omega (arith, c.loop-worker.auto.worker-end) in (
      subst (λ n. RunsInOrder n s c.args.self.now c.loop-worker.self (g.C.Chip.state c.loop-worker.chip)) end (c.loop-worker.invariant.0 s is),
      c.loop-worker.invariant.1,
      λ v less. c.loop-worker.invariant.2 v (omega (arith, less, end)),
      c.loop-worker.invariant.3,
    )
