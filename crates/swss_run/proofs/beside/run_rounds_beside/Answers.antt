use Rattle.std.proofs.Common.{◌<◌, ◌∙◌, ℕ, List, sym, ap, subst, arith}
use Rattle.table_schema.specs.Plan.{Ports}
use Rattle.swss_script.specs.Behind.{image_sent, rounds_behind}
use Rattle.swss_service.specs.Ahead.{TakesAhead}
use Rattle.swss_service.specs.CoreAndChip.{CoreAndChip}
use Rattle.swss_run.specs.Beside.{BeginsWithRows, IsSessionBeside}
use Rattle.swss_run.specs.Run.{ends_early}
use Rattle.swss_run.specs.declared.status.Status.TheVariants as statuses
use Rattle.swss_run.proofs.ImageTaken.{image-fails, image-many, image-opened, image-same}
use Rattle.swss_run.proofs.SessionBeside.{image-begins, image-full, image-short}
use Rattle.swss_run.proofs.beside.run_rounds_beside.Goals as goal

pub run_behind-requires : goal.run_behind-requires
run_behind-requires g c =
    let taken = subst (λ k. TakesAhead (image_sent c.args.image.now) c.args.locked k c.take_image.new.locked) c.in-Nothing.is c.take_image.ensures in
    (c.type_bounds.sync-R, (c.type_bounds.sync-G, (c.requires.workers, (image-opened {workers = c.args.workers} (omega (arith, c.requires.workers.0)) c.args.locked c.requires.new c.requires.chip c.requires.plan (image_sent c.args.image.now) c.take_image.new.locked taken, (c.requires.producers, c.requires.several)))))

pub returns-in-Nothing-clause-session : goal.returns-in-Nothing-clause-session
returns-in-Nothing-clause-session g c =
    let taken = subst (λ k. TakesAhead (image_sent c.args.image.now) c.args.locked k c.take_image.new.locked) c.in-Nothing.is c.take_image.ensures in
    let same = image-same {workers = c.args.workers} (omega (arith, c.requires.workers.0)) c.args.locked c.requires.new c.requires.chip c.requires.plan (image_sent c.args.image.now) c.take_image.new.locked taken in
    let left = c.run_behind.result in
    subst (λ (p : Ports). IsSessionBeside c.args.workers p c.args.locked.core.sync.capacities (rounds_behind c.args.image.now c.args.rounds.now) left.status left.core.log left.chip (g.K.Sink.holds c.args.sink.now) (g.K.Sink.holds c.run_behind.new.sink)) same.plan
    (subst (λ (l : List ℕ). IsSessionBeside c.args.workers c.take_image.new.locked.core.board.plan l (rounds_behind c.args.image.now c.args.rounds.now) left.status left.core.log left.chip (g.K.Sink.holds c.args.sink.now) (g.K.Sink.holds c.run_behind.new.sink)) same.capacities c.run_behind.ensures.session)

pub returns-in-Nothing-clause-fails : goal.returns-in-Nothing-clause-fails
returns-in-Nothing-clause-fails g c =
    let taken = subst (λ k. TakesAhead (image_sent c.args.image.now) c.args.locked k c.take_image.new.locked) c.in-Nothing.is c.take_image.ensures in
    c.run_behind.ensures.fails ∙ image-fails {workers = c.args.workers} (omega (arith, c.requires.workers.0)) c.args.locked c.requires.new c.requires.chip c.requires.plan (image_sent c.args.image.now) c.take_image.new.locked taken

pub returns-in-LogFull : goal.returns-in-LogFull
returns-in-LogFull g c =
    let o = c.args.locked in
    let now = c.take_image.new.locked in
    let taken = subst (λ k. TakesAhead (image_sent c.args.image.now) o k now) c.in-LogFull.is c.take_image.ensures in
    let front = taken.0 in
    let some : 0 < c.args.workers = omega (arith, c.requires.workers.0) in
    let opened = image-opened some o c.requires.new c.requires.chip c.requires.plan front.new now front.taken in
    let same = image-same some o c.requires.new c.requires.chip c.requires.plan front.new now front.taken in
    let held = g.K.Sink.holds c.args.sink.now in
    let whole = rounds_behind c.args.image.now c.args.rounds.now in
    let session = image-full c.args.image.now c.args.rounds.now c.requires.producers.0 c.requires.producers.1 c.requires.several o.core now.core now.chip held front.new front.left front.split opened same (image-many some o c.requires.new c.requires.chip c.requires.plan front.new now front.taken taken.1) in
    let begins = image-begins c.args.image.now c.args.rounds.now c.requires.producers.0 c.requires.producers.1 c.requires.several o.core now.core now.chip held front.new front.left front.split opened same in
    let fails = image-fails some o c.requires.new c.requires.chip c.requires.plan front.new now front.taken in
    let parts = sym c.leave.ensures.parts in
    let status = sym c.leave.ensures.status in
    record {
      ran = ap ends_early (sym status);
      write_fault = λ is. absurd (let apart = status ∙ is in cc);
      session = subst (λ s. IsSessionBeside c.args.workers o.core.board.plan o.core.sync.capacities whole s c.leave.result.core.log c.leave.result.chip held held) status (subst (λ (z : CoreAndChip). IsSessionBeside c.args.workers o.core.board.plan o.core.sync.capacities whole statuses.LogFull z.core.log z.chip held held) parts session);
      image = subst (λ (z : CoreAndChip). BeginsWithRows (image_sent c.args.image.now) z.core.log z.chip.effects) parts begins;
      fails = ap (λ (z : CoreAndChip). z.chip.fails) (sym parts) ∙ fails;
    }

pub returns-in-NoMemory : goal.returns-in-NoMemory
returns-in-NoMemory g c =
    let o = c.args.locked in
    let now = c.take_image.new.locked in
    let front = subst (λ k. TakesAhead (image_sent c.args.image.now) o k now) c.in-NoMemory.is c.take_image.ensures in
    let some : 0 < c.args.workers = omega (arith, c.requires.workers.0) in
    let opened = image-opened some o c.requires.new c.requires.chip c.requires.plan front.new now front.taken in
    let same = image-same some o c.requires.new c.requires.chip c.requires.plan front.new now front.taken in
    let held = g.K.Sink.holds c.args.sink.now in
    let whole = rounds_behind c.args.image.now c.args.rounds.now in
    let session = image-short c.args.image.now c.args.rounds.now c.requires.producers.0 c.requires.producers.1 c.requires.several o.core now.core now.chip held front.new front.left front.split opened same in
    let begins = image-begins c.args.image.now c.args.rounds.now c.requires.producers.0 c.requires.producers.1 c.requires.several o.core now.core now.chip held front.new front.left front.split opened same in
    let fails = image-fails some o c.requires.new c.requires.chip c.requires.plan front.new now front.taken in
    let parts = sym c.leave-in-NoMemory.ensures.parts in
    let status = sym c.leave-in-NoMemory.ensures.status in
    record {
      ran = ap ends_early (sym status);
      write_fault = λ is. absurd (let apart = status ∙ is in cc);
      session = subst (λ s. IsSessionBeside c.args.workers o.core.board.plan o.core.sync.capacities whole s c.leave-in-NoMemory.result.core.log c.leave-in-NoMemory.result.chip held held) status (subst (λ (z : CoreAndChip). IsSessionBeside c.args.workers o.core.board.plan o.core.sync.capacities whole statuses.OutOfMemory z.core.log z.chip held held) parts session);
      image = subst (λ (z : CoreAndChip). BeginsWithRows (image_sent c.args.image.now) z.core.log z.chip.effects) parts begins;
      fails = ap (λ (z : CoreAndChip). z.chip.fails) (sym parts) ∙ fails;
    }
