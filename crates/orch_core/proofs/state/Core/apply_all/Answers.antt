use Rattle.std.proofs.Common.{◌≡◌, ◌∙◌, Ok, inl, length, rules, subst, sym, true}
use Rattle.warm_state.specs.declared.warm.Warm.TheVariants as warm
use Rattle.orch_core.specs.ComingBack.{ComesOut, ran_of}
use Rattle.orch_core.specs.Restarting.{AppliesOut}
use Rattle.orch_core.proofs.Coming.{apply_comes, apply_stops, away, comes_none, comes_on, fewer_to_apply, out_on, short_now, stays_asked, still_applies}
use Rattle.orch_core.proofs.state.Core.apply_all.Goals as goal

pub loop-self-init : goal.loop-self-init
loop-self-init g c = (λ s is. (s, comes_none s c.args.self.now (g.C.Chip.state c.args.chip.now) is), inl c.requires.warm)

pub apply-requires-clause-service : goal.apply-requires-clause-service
apply-requires-clause-service g c = let t = c.loop-self.invariant.0 c.requires.service.0 c.requires.service.1 in (t.0, t.1.stands)

pub returns-in_err-apply : goal.returns-in_err-apply
returns-in_err-apply g c = λ s is.
    let t = c.loop-self.invariant.0 s is in
    let at : c.loop-self.self.warm ≡ warm.Applying = search rules in
    let x = subst (λ r. AppliesOut true t.0 c.loop-self.self (g.C.Chip.state c.loop-self.chip) r c.apply.new.self (g.C.Chip.state c.apply.new.chip)) c.in_err-apply.was (c.apply.ensures t.0 t.1.stands) in
    out_on s t.0 c.args.self.now c.loop-self.self (g.C.Chip.state c.args.chip.now) (g.C.Chip.state c.loop-self.chip) t.1 c.from_residual.result c.apply.new.self (g.C.Chip.state c.apply.new.chip)
    (short_now t.0 c.loop-self.self (g.C.Chip.state c.loop-self.chip) t.1.stands (away c.loop-self.self at (λ h. cc)) c.from_residual.result c.from_residual.ensures.0 c.apply.new.self (g.C.Chip.state c.apply.new.chip) x.1
    (stays_asked t.0 c.loop-self.self (g.C.Chip.state c.loop-self.chip) t.1.stands (away c.loop-self.self at (λ h. cc)) c.apply.new.self (g.C.Chip.state c.apply.new.chip) x.0 x.1))

pub loop-self-smaller : goal.loop-self-smaller
loop-self-smaller g c =
    let t = c.loop-self.invariant.0 c.requires.service.0 c.requires.service.1 in
    let at : c.loop-self.self.warm ≡ warm.Applying = search rules in
    let x = subst (λ r. AppliesOut true t.0 c.loop-self.self (g.C.Chip.state c.loop-self.chip) r c.apply.new.self (g.C.Chip.state c.apply.new.chip)) c.in_ok-apply.was (c.apply.ensures t.0 t.1.stands) in
    let y = apply_comes t.0 c.loop-self.self (g.C.Chip.state c.loop-self.chip) t.1.stands (away c.loop-self.self at (λ h. cc)) at c.in_ok-apply.field-0 c.apply.new.self (g.C.Chip.state c.apply.new.chip) (sym c.ran.ensures ∙ c.in-Whole.is) x in
    fewer_to_apply c.loop-self.self.warm c.apply.new.self.warm (length c.loop-self.self.sync.left) (length c.apply.new.self.sync.left) at y.2

pub loop-self-preserved : goal.loop-self-preserved
loop-self-preserved g c =
    let at : c.loop-self.self.warm ≡ warm.Applying = search rules in
    let first = c.loop-self.invariant.0 c.requires.service.0 c.requires.service.1 in
    let one = subst (λ r. AppliesOut true first.0 c.loop-self.self (g.C.Chip.state c.loop-self.chip) r c.apply.new.self (g.C.Chip.state c.apply.new.chip)) c.in_ok-apply.was (c.apply.ensures first.0 first.1.stands) in (
      λ s is.
          let t = c.loop-self.invariant.0 s is in
          let x = subst (λ r. AppliesOut true t.0 c.loop-self.self (g.C.Chip.state c.loop-self.chip) r c.apply.new.self (g.C.Chip.state c.apply.new.chip)) c.in_ok-apply.was (c.apply.ensures t.0 t.1.stands) in
          let y = apply_comes t.0 c.loop-self.self (g.C.Chip.state c.loop-self.chip) t.1.stands (away c.loop-self.self at (λ h. cc)) at c.in_ok-apply.field-0 c.apply.new.self (g.C.Chip.state c.apply.new.chip) (sym c.ran.ensures ∙ c.in-Whole.is) x in
          (y.0, comes_on s t.0 y.0 c.args.self.now c.loop-self.self c.apply.new.self (g.C.Chip.state c.args.chip.now) (g.C.Chip.state c.loop-self.chip) (g.C.Chip.state c.apply.new.chip) t.1 y.1),
      still_applies c.apply.new.self.warm (apply_comes first.0 c.loop-self.self (g.C.Chip.state c.loop-self.chip) first.1.stands (away c.loop-self.self at (λ h. cc)) at c.in_ok-apply.field-0 c.apply.new.self (g.C.Chip.state c.apply.new.chip) (sym c.ran.ensures ∙ c.in-Whole.is) one).2,
    )

pub returns-in_default : goal.returns-in_default
returns-in_default g c = λ s is.
    let t = c.loop-self.invariant.0 s is in
    let at : c.loop-self.self.warm ≡ warm.Applying = search rules in
    let x = subst (λ r. AppliesOut true t.0 c.loop-self.self (g.C.Chip.state c.loop-self.chip) r c.apply.new.self (g.C.Chip.state c.apply.new.chip)) c.in_ok-apply.was (c.apply.ensures t.0 t.1.stands) in
    subst (λ o. ComesOut s c.args.self.now (g.C.Chip.state c.args.chip.now) (Ok o) c.apply.new.self (g.C.Chip.state c.apply.new.chip)) (sym c.ran.ensures)
    (out_on s t.0 c.args.self.now c.loop-self.self (g.C.Chip.state c.args.chip.now) (g.C.Chip.state c.loop-self.chip) t.1 (Ok (ran_of c.in_ok-apply.field-0)) c.apply.new.self (g.C.Chip.state c.apply.new.chip)
    (apply_stops t.0 c.loop-self.self (g.C.Chip.state c.loop-self.chip) t.1.stands (away c.loop-self.self at (λ h. cc)) at c.in_ok-apply.field-0 c.apply.new.self (g.C.Chip.state c.apply.new.chip) (λ h. c.in_default.not-Whole (c.ran.ensures ∙ h)) x))
