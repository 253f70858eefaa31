use Rattle.std.proofs.Common.{◌∙◌, inl, ap, refl, subst}
use Rattle.session_laws.specs.Core.{IsFullFor}
use Rattle.session_laws.specs.Service.Events.{restarted}
use Rattle.orch_core.specs.Restarting.{MarksRestart}
use Rattle.orch_core.proofs.Coming.{away, out_on, restart_comes, restart_full, short_now, stays_same}
use Rattle.orch_core.proofs.state.Core.restart_and_list.Goals as goal

pub returns-in_err-restart : goal.returns-in_err-restart
returns-in_err-restart g c = λ s is.
    short_now s c.args.self.now (g.C.Chip.state c.args.chip.now) is (away c.args.self.now c.requires.warm (λ h. cc)) c.from_residual.result c.from_residual.ensures.0 c.restart.new.self (g.C.Chip.state c.args.chip.now) (inl refl)
    (stays_same s c.args.self.now (g.C.Chip.state c.args.chip.now) is (away c.args.self.now c.requires.warm (λ h. cc)) c.restart.new.self c.in_err-restart.ensures.err)

pub list_and_restore-requires-clause-service : goal.list_and_restore-requires-clause-service
list_and_restore-requires-clause-service g c =
    let s = c.requires.service in
    let x = subst (λ r. MarksRestart c.args.self.now c.effects.result r c.restart.new.self) c.in-Ok.is c.in_ok-restart.ensures.ok in
    let t = restart_comes s.0 c.args.self.now (g.C.Chip.state c.args.chip.now) s.1 (away c.args.self.now c.requires.warm (λ h. cc)) c.requires.warm (subst (λ n. IsFullFor c.args.self.now n 1 → ⊥) c.effects.ensures x.1) c.restart.new.self (x.0 ∙ ap (restarted c.args.self.now) c.effects.ensures) in
    (t.0, t.1.stands)

pub list_and_restore-requires-clause-warm : goal.list_and_restore-requires-clause-warm
list_and_restore-requires-clause-warm g c =
    let s = c.requires.service in
    let x = subst (λ r. MarksRestart c.args.self.now c.effects.result r c.restart.new.self) c.in-Ok.is c.in_ok-restart.ensures.ok in
    (restart_comes s.0 c.args.self.now (g.C.Chip.state c.args.chip.now) s.1 (away c.args.self.now c.requires.warm (λ h. cc)) c.requires.warm (subst (λ n. IsFullFor c.args.self.now n 1 → ⊥) c.effects.ensures x.1) c.restart.new.self (x.0 ∙ ap (restarted c.args.self.now) c.effects.ensures)).2

pub returns-in-Ok : goal.returns-in-Ok
returns-in-Ok g c = λ s is.
    let x = subst (λ r. MarksRestart c.args.self.now c.effects.result r c.restart.new.self) c.in-Ok.is c.in_ok-restart.ensures.ok in
    let t = restart_comes s c.args.self.now (g.C.Chip.state c.args.chip.now) is (away c.args.self.now c.requires.warm (λ h. cc)) c.requires.warm (subst (λ n. IsFullFor c.args.self.now n 1 → ⊥) c.effects.ensures x.1) c.restart.new.self (x.0 ∙ ap (restarted c.args.self.now) c.effects.ensures) in
    out_on s t.0 c.args.self.now c.restart.new.self (g.C.Chip.state c.args.chip.now) (g.C.Chip.state c.args.chip.now) t.1 c.list_and_restore.result c.list_and_restore.new.self (g.C.Chip.state c.list_and_restore.new.chip) (c.list_and_restore.ensures t.0 t.1.stands)

pub returns-in-Err : goal.returns-in-Err
returns-in-Err g c = λ s is.
    let x = subst (λ r. MarksRestart c.args.self.now c.effects.result r c.restart.new.self) c.in-Err.is c.in_ok-restart.ensures.ok in
    restart_full s c.args.self.now (g.C.Chip.state c.args.chip.now) is (away c.args.self.now c.requires.warm (λ h. cc)) c.requires.warm c.restart.new.self x.0 (subst (λ n. IsFullFor c.args.self.now n 1) c.effects.ensures x.1)
