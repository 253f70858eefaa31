use Rattle.std.proofs.Common.{length, subst, sym}
use Rattle.syncd_core.specs.Synced.{CanApply}
use Rattle.session_laws.specs.Core.{CoreState, IsFullFor}
use Rattle.session_laws.proofs.Service.Made.{can-next}
use Rattle.orch_core.proofs.Answers.{never, with_sync}
use Rattle.orch_core.proofs.OnWay.{applies_kept, apply_made}
use Rattle.orch_core.proofs.state.Core.apply.Goals as goal

pub apply_next-requires : goal.apply_next-requires
apply_next-requires g c =
    let kept = c.in_ok-log.ensures.ok in
    subst (λ (z : CoreState). CanApply z.sync.left z.sync.view (g.C.Chip.state c.args.chip.now)) (sym kept.1)
    (can-next c.args.self.now (g.C.Chip.state c.args.chip.now) c.requires.service.0 c.requires.service.1 c.requires.warm)

pub returns-in-Ok : goal.returns-in-Ok
returns-in-Ok g c = λ s is.
    let kept = c.in_ok-log.ensures.ok in
    let x = c.in-Ok.ensures.ok in
    apply_made s c.args.self.now (g.C.Chip.state c.args.chip.now) is x.0 (g.C.Chip.state c.apply_next.new.chip) c.requires.warm
    (never c.is_full.result c.if-is_full.false (λ full. c.is_full.ensures.full.1 (subst (λ n. IsFullFor c.args.self.now n c.places.result) (sym c.effects.ensures) (subst (λ n. IsFullFor c.args.self.now (length (g.C.Chip.state c.args.chip.now).effects) n) (sym c.places.ensures) full))))
    c.args.ends c.apply_next.new.self (with_sync c.args.self.now c.keep_place.new.self c.apply_next.new.self x.0 kept.1 x.2) c.in_ok-log.log kept.0 c.in-Ok.step
    (applies_kept c.args.self.now c.keep_place.new.self (g.C.Chip.state c.args.chip.now) (g.C.Chip.state c.apply_next.new.chip) c.in-Ok.step x.0 kept.1 x.1)
    c.effects-in-Ok.result c.faults-before.result c.faults-after.result c.effects-in-Ok.ensures c.faults-before.ensures.faults c.faults-after.ensures.faults c.mark_in-fault.result c.mark_in-fault.ensures
    c.effects-in-Ok-2.result c.effects-in-Ok-2.ensures c.mark_in-end.result c.mark_in-end.ensures c.heed_apply.result c.heed_apply.new.self c.heed_apply.ensures
