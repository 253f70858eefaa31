use Rattle.session_laws.proofs.Preparing.{can}
use Rattle.orch_core.proofs.Answers.{calls_kept, can_kept, ends_heed, made, may_heed, with_sync}
use Rattle.orch_core.proofs.state.Core.make.Goals as goal

pub call_chip-requires : goal.call_chip-requires
call_chip-requires g c =
    let kept = c.in_ok-log.ensures.ok in
    let x = c.requires.flying in
    can_kept c.args.self.now c.keep_place.new.self (g.C.Chip.state c.args.chip.now) c.args.call.now kept.1
    (can c.args.self.now (g.C.Chip.state c.args.chip.now) c.requires.session.0 c.requires.session.1 c.requires.warm c.args.worker x.0 x.1 x.2 c.args.call.now x.3)

pub heed-requires-clause-may : goal.heed-requires-clause-may
heed-requires-clause-may g c =
    let kept = c.in_ok-log.ensures.ok in
    let call = c.in-Ok.ensures.ok in
    let x = c.requires.flying in
    may_heed c.requires.session.0 c.args.worker c.args.self.now (g.C.Chip.state c.args.chip.now) c.requires.session.1 c.requires.warm x.0 x.1 x.2 c.args.call.now x.3 c.requires.room call.0 (g.C.Chip.state c.call_chip.new.chip) c.call_chip.new.self
    (with_sync c.args.self.now c.keep_place.new.self c.call_chip.new.self call.0 kept.1 call.2) c.in-Ok.answer
    (calls_kept c.args.self.now c.keep_place.new.self (g.C.Chip.state c.args.chip.now) (g.C.Chip.state c.call_chip.new.chip) c.args.call.now c.in-Ok.answer call.0 kept.1 call.1)

pub heed-requires-clause-ends : goal.heed-requires-clause-ends
heed-requires-clause-ends g c =
    let kept = c.in_ok-log.ensures.ok in
    let call = c.in-Ok.ensures.ok in
    let x = c.requires.flying in
    ends_heed c.requires.session.0 c.args.worker c.args.self.now (g.C.Chip.state c.args.chip.now) c.requires.session.1 c.requires.warm x.0 x.1 x.2 c.args.call.now x.3 c.requires.room call.0 (g.C.Chip.state c.call_chip.new.chip) c.call_chip.new.self
    (with_sync c.args.self.now c.keep_place.new.self c.call_chip.new.self call.0 kept.1 call.2) c.in-Ok.answer
    (calls_kept c.args.self.now c.keep_place.new.self (g.C.Chip.state c.args.chip.now) (g.C.Chip.state c.call_chip.new.chip) c.args.call.now c.in-Ok.answer call.0 kept.1 call.1)

pub returns-in-Ok : goal.returns-in-Ok
returns-in-Ok g c = λ s is.
    let kept = c.in_ok-log.ensures.ok in
    let call = c.in-Ok.ensures.ok in
    let x = c.requires.flying in
    made s c.args.worker c.args.self.now (g.C.Chip.state c.args.chip.now) is c.requires.warm x.0 x.1 x.2 c.args.call.now x.3 c.requires.room call.0 (g.C.Chip.state c.call_chip.new.chip) c.args.ends c.call_chip.new.self
    (with_sync c.args.self.now c.keep_place.new.self c.call_chip.new.self call.0 kept.1 call.2) c.in_ok-log.log kept.0 c.in-Ok.answer
    (calls_kept c.args.self.now c.keep_place.new.self (g.C.Chip.state c.args.chip.now) (g.C.Chip.state c.call_chip.new.chip) c.args.call.now c.in-Ok.answer call.0 kept.1 call.1)
    c.effects.result c.faults-before.result c.faults-after.result c.effects.ensures c.faults-before.ensures.faults c.faults-after.ensures.faults c.mark_in-fault.result c.mark_in-fault.ensures c.heed.result c.heed.new.self c.heed.ensures
