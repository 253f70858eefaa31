use Rattle.std.proofs.Common.{◌≡◌, ◌+◌, ◌-◌, ◌<◌, ◌∙◌, inl, length, slice_get, Some, refl, sym, ap, subst, arith}
use Rattle.sai_chip.specs.Replay.{Replayed}
use Rattle.switch_model.specs.History.{History}
use Rattle.switch_model.specs.Sound.{is_suspect}
use Rattle.swss_run.specs.RunningBeside.{IsRoundRunBeside}
use Rattle.swss_run.proofs.OpenedRounds.{some-round}
use Rattle.swss_run.proofs.Over.{IsEndedAs}
use Rattle.swss_run.proofs.Pieces.{HasRisen-later}
use Rattle.swss_run.proofs.SessionBeside.{beside-begins, beside-done, beside-ended, beside-failed, beside-more, beside-ran, opened-running}
use Rattle.swss_run.proofs.Sessions.{replay-none}
use Rattle.swss_run.proofs.beside.run_each_beside.Goals as goal

pub loop-number-init : goal.loop-number-init
loop-number-init g c =
    let o = c.args.locked in (
      opened-running c.args._image.now c.args.rounds.now c.requires.producers.0 c.requires.producers.1 c.requires.several o.core o.chip (g.K.Sink.holds c.args.sink.now) c.args.replay.now c.requires.opened (replay-none o.chip.effects c.args.replay.now c.requires.replay) (ap (λ (r : Replayed). r.at) c.requires.replay),
      inl (refl, ap (λ (h : History). is_suspect h.marks) c.requires.opened.log),
      omega arith,
      omega arith,
      refl,
      c.requires.told,
    )

pub run_round_beside-left-requires : goal.run_round_beside-left-requires
run_round_beside-left-requires g c = (c.type_bounds.sync-R, (c.type_bounds.sync-G, (c.requires.workers, ((omega arith, omega (arith, c.loop-number-test.true, c.len.ensures)), (c.loop-number.invariant.0.ready, c.loop-number.invariant.5)))))

pub loop-number-preserved-in-Done : goal.loop-number-preserved-in-Done
loop-number-preserved-in-Done g c =
    let l = c.loop-number in
    let next = c.run_round_beside-left in
    let last = next.result.locked in
    let rounds = c.args.rounds.now in
    let below : l.number < length rounds = omega (arith, c.loop-number-test.true, c.len.ensures) in
    let r = some-round rounds l.number below in
    let there : slice_get rounds (l.number + 1 - 1) ≡ Some r.0 = subst (λ n. slice_get rounds n ≡ Some r.0) (omega arith) r.1 in
    let run = subst (λ s. IsRoundRunBeside c.args.workers (l.number + 1) r.0 l.locked.core l.locked.chip (g.K.Sink.holds l.sink) (g.K.Sink.faults l.sink) s last.core last.chip next.new.replay (g.K.Sink.holds next.new.sink) (g.K.Sink.faults next.new.sink)) c.in-Done.is (next.ensures.run r.0 there) in
    let more = beside-more c.args._image.now rounds c.requires.producers.0 c.requires.producers.1 c.requires.several l.number c.args.locked.core (g.K.Sink.holds c.args.sink.now) l.locked.core l.locked.chip l.replay (g.K.Sink.holds l.sink) l.invariant.0 r.0 r.1 (g.K.Sink.faults l.sink) (g.K.Sink.faults next.new.sink) last.core last.chip next.new.replay (g.K.Sink.holds next.new.sink) run in (
      more.0,
      subst (λ s. IsEndedAs s last.core last.chip) (sym c.in-Done.is) more.1,
      omega (arith, below),
      omega (arith, l.invariant.3, next.ensures.counts),
      next.ensures.fails ∙ l.invariant.4,
      next.ensures.told,
    )

pub loop-number-preserved : goal.loop-number-preserved
loop-number-preserved g c =
    let l = c.loop-number in
    let next = c.run_round_beside-left in
    let last = next.result.locked in
    let rounds = c.args.rounds.now in
    let below : l.number < length rounds = omega (arith, c.loop-number-test.true, c.len.ensures) in
    let r = some-round rounds l.number below in
    let there : slice_get rounds (l.number + 1 - 1) ≡ Some r.0 = subst (λ n. slice_get rounds n ≡ Some r.0) (omega arith) r.1 in
    let run = subst (λ s. IsRoundRunBeside c.args.workers (l.number + 1) r.0 l.locked.core l.locked.chip (g.K.Sink.holds l.sink) (g.K.Sink.faults l.sink) s last.core last.chip next.new.replay (g.K.Sink.holds next.new.sink) (g.K.Sink.faults next.new.sink)) c.in-ChipFault.is (next.ensures.run r.0 there) in
    let more = beside-failed c.args._image.now rounds c.requires.producers.0 c.requires.producers.1 c.requires.several l.number c.args.locked.core (g.K.Sink.holds c.args.sink.now) l.locked.core l.locked.chip l.replay (g.K.Sink.holds l.sink) l.invariant.0 r.0 r.1 (g.K.Sink.faults l.sink) (g.K.Sink.faults next.new.sink) last.core last.chip next.new.replay (g.K.Sink.holds next.new.sink) run in (
      more.0,
      subst (λ s. IsEndedAs s last.core last.chip) (sym c.in-ChipFault.is) more.1,
      omega (arith, below),
      omega (arith, l.invariant.3, next.ensures.counts),
      next.ensures.fails ∙ l.invariant.4,
      next.ensures.told,
    )

pub returns-in_default-clause-ran : goal.returns-in_default-clause-ran
returns-in_default-clause-ran g c =
    let l = c.loop-number in
    let next = c.run_round_beside-left in
    let last = next.result.locked in
    let rounds = c.args.rounds.now in
    let below : l.number < length rounds = omega (arith, c.loop-number-test.true, c.len.ensures) in
    let r = some-round rounds l.number below in
    let there : slice_get rounds (l.number + 1 - 1) ≡ Some r.0 = subst (λ n. slice_get rounds n ≡ Some r.0) (omega arith) r.1 in
    beside-ran c.args.workers (l.number + 1) r.0 l.locked.core l.locked.chip (g.K.Sink.holds l.sink) (g.K.Sink.faults l.sink) next.result.status last.core last.chip next.new.replay (g.K.Sink.holds next.new.sink) (g.K.Sink.faults next.new.sink) (next.ensures.run r.0 there)

pub returns-in_default-clause-write_fault : goal.returns-in_default-clause-write_fault
returns-in_default-clause-write_fault g c = λ is.
    let l = c.loop-number in
    let next = c.run_round_beside-left in
    let last = next.result.locked in
    let rounds = c.args.rounds.now in
    let below : l.number < length rounds = omega (arith, c.loop-number-test.true, c.len.ensures) in
    let r = some-round rounds l.number below in
    let there : slice_get rounds (l.number + 1 - 1) ≡ Some r.0 = subst (λ n. slice_get rounds n ≡ Some r.0) (omega arith) r.1 in
    let run = subst (λ s. IsRoundRunBeside c.args.workers (l.number + 1) r.0 l.locked.core l.locked.chip (g.K.Sink.holds l.sink) (g.K.Sink.faults l.sink) s last.core last.chip next.new.replay (g.K.Sink.holds next.new.sink) (g.K.Sink.faults next.new.sink)) is (next.ensures.run r.0 there) in
    HasRisen-later (g.K.Sink.faults c.args.sink.now) (g.K.Sink.faults l.sink) (g.K.Sink.faults next.new.sink) l.invariant.3 run.5

pub returns-in_default-clause-session : goal.returns-in_default-clause-session
returns-in_default-clause-session g c =
    let l = c.loop-number in
    let next = c.run_round_beside-left in
    let last = next.result.locked in
    let rounds = c.args.rounds.now in
    let below : l.number < length rounds = omega (arith, c.loop-number-test.true, c.len.ensures) in
    let r = some-round rounds l.number below in
    let there : slice_get rounds (l.number + 1 - 1) ≡ Some r.0 = subst (λ n. slice_get rounds n ≡ Some r.0) (omega arith) r.1 in
    (beside-ended c.args._image.now rounds c.requires.producers.0 c.requires.producers.1 c.requires.several l.number c.args.locked.core (g.K.Sink.holds c.args.sink.now) l.locked.core l.locked.chip l.replay (g.K.Sink.holds l.sink) l.invariant.0 r.0 r.1 (g.K.Sink.faults l.sink) (g.K.Sink.faults next.new.sink) last.core last.chip next.new.replay (g.K.Sink.holds next.new.sink) next.result.status c.in_default.not-Done c.in_default.not-ChipFault (next.ensures.run r.0 there)).0

pub returns-in_default-clause-image : goal.returns-in_default-clause-image
returns-in_default-clause-image g c =
    let l = c.loop-number in
    let next = c.run_round_beside-left in
    let last = next.result.locked in
    let rounds = c.args.rounds.now in
    let below : l.number < length rounds = omega (arith, c.loop-number-test.true, c.len.ensures) in
    let r = some-round rounds l.number below in
    let there : slice_get rounds (l.number + 1 - 1) ≡ Some r.0 = subst (λ n. slice_get rounds n ≡ Some r.0) (omega arith) r.1 in
    (beside-ended c.args._image.now rounds c.requires.producers.0 c.requires.producers.1 c.requires.several l.number c.args.locked.core (g.K.Sink.holds c.args.sink.now) l.locked.core l.locked.chip l.replay (g.K.Sink.holds l.sink) l.invariant.0 r.0 r.1 (g.K.Sink.faults l.sink) (g.K.Sink.faults next.new.sink) last.core last.chip next.new.replay (g.K.Sink.holds next.new.sink) next.result.status c.in_default.not-Done c.in_default.not-ChipFault (next.ensures.run r.0 there)).1

pub returns-clause-session : goal.returns-clause-session
returns-clause-session g c =
    let l = c.loop-number in
    let all : l.number ≡ length c.args.rounds.now = omega (arith, c.loop-number-test.false, c.len.ensures, l.invariant.2) in
    beside-done c.args._image.now c.args.rounds.now c.requires.producers.0 c.requires.producers.1 c.requires.several l.number c.args.locked.core (g.K.Sink.holds c.args.sink.now) l.locked.core l.locked.chip l.replay (g.K.Sink.holds l.sink) l.invariant.0 all l.status l.invariant.1

pub returns-clause-image : goal.returns-clause-image
returns-clause-image g c =
    let l = c.loop-number in
    let all : l.number ≡ length c.args.rounds.now = omega (arith, c.loop-number-test.false, c.len.ensures, l.invariant.2) in
    beside-begins c.args._image.now c.args.rounds.now c.requires.producers.0 c.requires.producers.1 c.requires.several l.number c.args.locked.core (g.K.Sink.holds c.args.sink.now) l.locked.core l.locked.chip l.replay (g.K.Sink.holds l.sink) l.invariant.0 all
