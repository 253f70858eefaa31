use Rattle.std.proofs.Common.{◌∙◌, Ok, subst, sym, true}
use Rattle.orch_core.specs.ComingBack.{ComesOut}
use Rattle.orch_core.specs.Restarting.{ListsOut}
use Rattle.orch_core.proofs.Coming.{away, list_comes, list_stops, out_on, short_now, stays_asked}
use Rattle.orch_core.proofs.state.Core.list_and_restore.Goals as goal

pub returns-in_err-list : goal.returns-in_err-list
returns-in_err-list g c = λ s is.
    let x = subst (λ r. ListsOut true s c.args.self.now (g.C.Chip.state c.args.chip.now) r c.list.new.self (g.C.Chip.state c.list.new.chip)) c.in_err-list.was (c.list.ensures s is) in
    short_now s c.args.self.now (g.C.Chip.state c.args.chip.now) is (away c.args.self.now c.requires.warm (λ h. cc)) c.from_residual.result c.from_residual.ensures.0 c.list.new.self (g.C.Chip.state c.list.new.chip) x.1
    (stays_asked s c.args.self.now (g.C.Chip.state c.args.chip.now) is (away c.args.self.now c.requires.warm (λ h. cc)) c.list.new.self (g.C.Chip.state c.list.new.chip) x.0 x.1)

pub restore_and_apply-requires-clause-service : goal.restore_and_apply-requires-clause-service
restore_and_apply-requires-clause-service g c =
    let s = c.requires.service in
    let x = subst (λ r. ListsOut true s.0 c.args.self.now (g.C.Chip.state c.args.chip.now) r c.list.new.self (g.C.Chip.state c.list.new.chip)) c.in_ok-list.was (c.list.ensures s.0 s.1) in
    let t = list_comes s.0 c.args.self.now (g.C.Chip.state c.args.chip.now) s.1 (away c.args.self.now c.requires.warm (λ h. cc)) c.requires.warm c.in_ok-list.field-0 c.list.new.self (g.C.Chip.state c.list.new.chip) (sym c.ran.ensures ∙ c.in-Whole.is) x in
    (t.0, t.1.stands)

pub restore_and_apply-requires-clause-warm : goal.restore_and_apply-requires-clause-warm
restore_and_apply-requires-clause-warm g c =
    let s = c.requires.service in
    let x = subst (λ r. ListsOut true s.0 c.args.self.now (g.C.Chip.state c.args.chip.now) r c.list.new.self (g.C.Chip.state c.list.new.chip)) c.in_ok-list.was (c.list.ensures s.0 s.1) in
    (list_comes s.0 c.args.self.now (g.C.Chip.state c.args.chip.now) s.1 (away c.args.self.now c.requires.warm (λ h. cc)) c.requires.warm c.in_ok-list.field-0 c.list.new.self (g.C.Chip.state c.list.new.chip) (sym c.ran.ensures ∙ c.in-Whole.is) x).2

pub returns-in-Whole : goal.returns-in-Whole
returns-in-Whole g c = λ s is.
    let x = subst (λ r. ListsOut true s c.args.self.now (g.C.Chip.state c.args.chip.now) r c.list.new.self (g.C.Chip.state c.list.new.chip)) c.in_ok-list.was (c.list.ensures s is) in
    let t = list_comes s c.args.self.now (g.C.Chip.state c.args.chip.now) is (away c.args.self.now c.requires.warm (λ h. cc)) c.requires.warm c.in_ok-list.field-0 c.list.new.self (g.C.Chip.state c.list.new.chip) (sym c.ran.ensures ∙ c.in-Whole.is) x in
    out_on s t.0 c.args.self.now c.list.new.self (g.C.Chip.state c.args.chip.now) (g.C.Chip.state c.list.new.chip) t.1 c.restore_and_apply.result c.restore_and_apply.new.self (g.C.Chip.state c.restore_and_apply.new.chip) (c.restore_and_apply.ensures t.0 t.1.stands)

pub returns-in_default : goal.returns-in_default
returns-in_default g c = λ s is.
    let x = subst (λ r. ListsOut true s c.args.self.now (g.C.Chip.state c.args.chip.now) r c.list.new.self (g.C.Chip.state c.list.new.chip)) c.in_ok-list.was (c.list.ensures s is) in
    subst (λ o. ComesOut s c.args.self.now (g.C.Chip.state c.args.chip.now) (Ok o) c.list.new.self (g.C.Chip.state c.list.new.chip)) (sym c.ran.ensures)
    (list_stops s c.args.self.now (g.C.Chip.state c.args.chip.now) is (away c.args.self.now c.requires.warm (λ h. cc)) c.requires.warm c.in_ok-list.field-0 c.list.new.self (g.C.Chip.state c.list.new.chip) (λ h. c.in_default.not-Whole (c.ran.ensures ∙ h)) x)
