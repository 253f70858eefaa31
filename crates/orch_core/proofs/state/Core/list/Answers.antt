use Rattle.std.proofs.Common.{subst, sym}
use Rattle.session_laws.specs.Core.{IsFullFor}
use Rattle.orch_core.proofs.Answers.{never, with_sync}
use Rattle.orch_core.proofs.OnWay.{list_made, takes_kept}
use Rattle.orch_core.proofs.state.Core.list.Goals as goal

pub returns-in-Ok : goal.returns-in-Ok
returns-in-Ok g c = λ s is.
    let kept = c.in_ok-log.ensures.ok in
    let x = c.in-Ok.ensures.ok in
    list_made s c.args.self.now (g.C.Chip.state c.args.chip.now) is x.0 (g.C.Chip.state c.list_chip.new.chip) c.requires.warm
    (never c.is_full.result c.if-is_full.false (λ full. c.is_full.ensures.full.1 (subst (λ n. IsFullFor c.args.self.now n 1) (sym c.effects.ensures) full)))
    c.args.ends c.list_chip.new.self (with_sync c.args.self.now c.keep_place.new.self c.list_chip.new.self x.0 kept.1 x.2) c.in_ok-log.log kept.0 c.in-Ok.listed
    (takes_kept c.args.self.now c.keep_place.new.self (g.C.Chip.state c.args.chip.now) (g.C.Chip.state c.list_chip.new.chip) c.in-Ok.listed x.0 kept.1 x.1)
    c.effects-in-Ok.result c.faults-before.result c.faults-after.result c.effects-in-Ok.ensures c.faults-before.ensures.faults c.faults-after.ensures.faults c.mark_in-fault.result c.mark_in-fault.ensures c.heed_list.result c.heed_list.new.self c.heed_list.ensures
