use Rattle.std.proofs.Common.{◌∙◌, inl, Ok, subst, sym}
use Rattle.orch_core.specs.ComingBack.{ComesOut}
use Rattle.orch_core.specs.Restarting.{RestoresOut, StaysInService}
use Rattle.orch_core.proofs.Coming.{away, restore_comes, restore_stops, out_on, short_now}
use Rattle.orch_core.proofs.state.Core.restore_and_apply.Goals as goal

pub returns-in_err-restore : goal.returns-in_err-restore
returns-in_err-restore g c = λ s is.
    let x = subst (λ r. RestoresOut s c.args.self.now (g.C.Chip.state c.args.chip.now) r c.restore.new.self (g.C.Chip.state c.restore.new.chip)) c.in_err-restore.was (c.restore.ensures s is) in
    short_now s c.args.self.now (g.C.Chip.state c.args.chip.now) is (away c.args.self.now c.requires.warm (λ h. cc)) c.from_residual.result c.from_residual.ensures.0 c.restore.new.self (g.C.Chip.state c.restore.new.chip) (inl x.0) (subst (StaysInService s c.args.self.now c.restore.new.self) (sym x.0) x.1)

pub apply_all-requires-clause-service : goal.apply_all-requires-clause-service
apply_all-requires-clause-service g c =
    let s = c.requires.service in
    let x = subst (λ r. RestoresOut s.0 c.args.self.now (g.C.Chip.state c.args.chip.now) r c.restore.new.self (g.C.Chip.state c.restore.new.chip)) c.in_ok-restore.was (c.restore.ensures s.0 s.1) in
    let t = restore_comes s.0 c.args.self.now (g.C.Chip.state c.args.chip.now) s.1 (away c.args.self.now c.requires.warm (λ h. cc)) c.requires.warm c.in_ok-restore.field-0 c.restore.new.self (g.C.Chip.state c.restore.new.chip) (sym c.ran.ensures ∙ c.in-Whole.is) x in
    (t.0, t.1.stands)

pub apply_all-requires-clause-warm : goal.apply_all-requires-clause-warm
apply_all-requires-clause-warm g c =
    let s = c.requires.service in
    let x = subst (λ r. RestoresOut s.0 c.args.self.now (g.C.Chip.state c.args.chip.now) r c.restore.new.self (g.C.Chip.state c.restore.new.chip)) c.in_ok-restore.was (c.restore.ensures s.0 s.1) in
    (restore_comes s.0 c.args.self.now (g.C.Chip.state c.args.chip.now) s.1 (away c.args.self.now c.requires.warm (λ h. cc)) c.requires.warm c.in_ok-restore.field-0 c.restore.new.self (g.C.Chip.state c.restore.new.chip) (sym c.ran.ensures ∙ c.in-Whole.is) x).2

pub returns-in-Whole : goal.returns-in-Whole
returns-in-Whole g c = λ s is.
    let x = subst (λ r. RestoresOut s c.args.self.now (g.C.Chip.state c.args.chip.now) r c.restore.new.self (g.C.Chip.state c.restore.new.chip)) c.in_ok-restore.was (c.restore.ensures s is) in
    let t = restore_comes s c.args.self.now (g.C.Chip.state c.args.chip.now) is (away c.args.self.now c.requires.warm (λ h. cc)) c.requires.warm c.in_ok-restore.field-0 c.restore.new.self (g.C.Chip.state c.restore.new.chip) (sym c.ran.ensures ∙ c.in-Whole.is) x in
    out_on s t.0 c.args.self.now c.restore.new.self (g.C.Chip.state c.args.chip.now) (g.C.Chip.state c.restore.new.chip) t.1 c.apply_all.result c.apply_all.new.self (g.C.Chip.state c.apply_all.new.chip) (c.apply_all.ensures t.0 t.1.stands)

pub returns-in_default : goal.returns-in_default
returns-in_default g c = λ s is.
    let x = subst (λ r. RestoresOut s c.args.self.now (g.C.Chip.state c.args.chip.now) r c.restore.new.self (g.C.Chip.state c.restore.new.chip)) c.in_ok-restore.was (c.restore.ensures s is) in
    subst (λ o. ComesOut s c.args.self.now (g.C.Chip.state c.args.chip.now) (Ok o) c.restore.new.self (g.C.Chip.state c.restore.new.chip)) (sym c.ran.ensures)
    (restore_stops s c.args.self.now (g.C.Chip.state c.args.chip.now) is (away c.args.self.now c.requires.warm (λ h. cc)) c.requires.warm c.in_ok-restore.field-0 c.restore.new.self (g.C.Chip.state c.restore.new.chip) (λ h. c.in_default.not-Whole (c.ran.ensures ∙ h)) x)
