use Rattle.std.proofs.Common.{◌∙◌}
use Rattle.orch_core.proofs.GoingOver.{ends_over, over_err}
use Rattle.orch_core.proofs.state.Core.run_on_view.Goals as goal

pub loop-self-smaller : goal.loop-self-smaller
loop-self-smaller g c =
    let x = c.requires.bringing in
    let y = c.loop-self.invariant.0 x.0 x.1 x.2 in
    (c.in_ok-call_view.ensures.called x.0 x.1 y.0).2

pub loop-self-preserved : goal.loop-self-preserved
loop-self-preserved g c = (
  λ first rest x.
      let y = c.loop-self.invariant.0 first rest x in
      let z = c.in_ok-call_view.ensures.called first rest y.0 in
      (z.0, z.1 ∙ y.1),
  c.in_ok-call_view.ensures.tables ∙ c.loop-self.invariant.1,
)

pub returns-in_err-call_view-clause-over : goal.returns-in_err-call_view-clause-over
returns-in_err-call_view-clause-over g c = λ first rest x.
    let y = c.loop-self.invariant.0 first rest x in
    let z = c.in_err-call_view.ensures.called first rest y.0 in
    over_err first rest (g.C.Chip.state c.args.chip.now) (g.C.Chip.state c.call_view.new.chip) c.from_residual.result c.call_view.new.self c.from_residual.ensures.0 z.0 (z.1 ∙ y.1)

pub returns-clause-over : goal.returns-clause-over
returns-clause-over g c = λ first rest x.
    let y = c.loop-self.invariant.0 first rest x in
    (ends_over first c.loop-self.self rest y.0 c.is_flying.result c.loop-self-test.false c.is_flying.ensures, y.1)
