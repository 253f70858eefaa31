use Rattle.std.proofs.Common.{◌∙◌, sym, ap, subst}
use Rattle.swss_script.specs.Behind.{image_sent, rounds_behind}
use Rattle.swss_service.specs.CoreAndChip.{CoreAndChip}
use Rattle.swss_run.specs.Beside.{BeginsWithRows, IsSessionBeside}
use Rattle.swss_run.proofs.beside.run_behind.Goals as goal

pub returns-clause-session : goal.returns-clause-session
returns-clause-session g c =
    let held = g.K.Sink.holds c.args.sink.now in
    let held' = g.K.Sink.holds c.run_each_beside-locked.new.sink in
    let whole = rounds_behind c.args.image.now c.args.rounds.now in
    let o = c.args.locked in
    subst (λ s. IsSessionBeside c.args.workers o.core.board.plan o.core.sync.capacities whole s c.leave.result.core.log c.leave.result.chip held held') (sym c.leave.ensures.status)
    (subst (λ (z : CoreAndChip). IsSessionBeside c.args.workers o.core.board.plan o.core.sync.capacities whole c.run_each_beside-locked.result.status z.core.log z.chip held held') (sym c.leave.ensures.parts) c.run_each_beside-locked.ensures.session)

pub returns-clause-image : goal.returns-clause-image
returns-clause-image g c = subst (λ (z : CoreAndChip). BeginsWithRows (image_sent c.args.image.now) z.core.log z.chip.effects) (sym c.leave.ensures.parts) c.run_each_beside-locked.ensures.image

pub returns-clause-fails : goal.returns-clause-fails
returns-clause-fails g c = ap (λ (z : CoreAndChip). z.chip.fails) c.leave.ensures.parts ∙ c.run_each_beside-locked.ensures.fails

pub returns-clause-write_fault : goal.returns-clause-write_fault
returns-clause-write_fault g c = λ is. c.run_each_beside-locked.ensures.write_fault (sym c.leave.ensures.status ∙ is)
