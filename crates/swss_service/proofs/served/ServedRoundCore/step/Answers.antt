use Rattle.std.proofs.Common.{◌≡◌, ◌∙◌, sym, subst, arith}
use Rattle.orch_core.specs.ComingBack.{restarts_marked}
use Rattle.swss_service.specs.CoreAndChip.{CoreAndChip}
use Rattle.round_actors.specs.declared.answers.Step.TheVariants as told
use Rattle.swss_service.proofs.Serving.{served-stepped, stepped-cause, stepped-same}
use Rattle.swss_service.proofs.served.ServedRoundCore.step.Goals as goal

pub invariant_of-self : goal.invariant_of-self
invariant_of-self g c = (
  c.self.invariant.0,
  served-stepped g.J.Named.most g.J.Named.opening c.self.inside.locked.core c.self.inside.locked.chip c.self.invariant.1 c.args.worker (omega (arith, c.requires.worker))
      c.step.result c.step.new.self.core c.step.new.self.chip c.step.ensures.event c.step.ensures.goes_on,
)

pub invariant_of-self-2 : goal.invariant_of-self-2
invariant_of-self-2 g c = (
  c.self.invariant.0,
  served-stepped g.J.Named.most g.J.Named.opening c.self.inside.locked.core c.self.inside.locked.chip c.self.invariant.1 c.args.worker (omega (arith, c.requires.worker))
      c.step.result c.step.new.self.core c.step.new.self.chip c.step.ensures.event c.step.ensures.goes_on,
)

pub returns-clause-same : goal.returns-clause-same
returns-clause-same g c =
    subst (λ (z : CoreAndChip). (c.step.new.self.core.log.taken ≡ z.core.log.taken) × (restarts_marked c.step.new.self.core.log.marks ≡ restarts_marked z.core.log.marks)) c.self.view_is
    (stepped-same g.J.Named.most g.J.Named.opening c.self.inside.locked.core c.self.inside.locked.chip c.self.invariant.1 c.args.worker (omega (arith, c.requires.worker))
    c.step.result c.step.new.self.core c.step.new.self.chip c.step.ensures.event c.step.ensures.goes_on)

pub returns-clause-cause : goal.returns-clause-cause
returns-clause-cause g c = λ h.
    let full : c.told_step.result ≡ told.LogFull = cc in
    stepped-cause g.J.Named.most g.J.Named.opening c.self.inside.locked.core c.self.inside.locked.chip c.self.invariant.1 c.args.worker
    c.step.result c.step.new.self.core c.step.new.self.chip c.step.ensures.event c.in_ok-step.step c.in_ok-step.was (sym c.told_step.ensures ∙ full)
