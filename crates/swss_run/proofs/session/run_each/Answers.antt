use Rattle.std.proofs.Common.{rules, ◌≡◌, ◌∙◌, ◌+◌, List, [], ◌∷◌, ◌++◌, length, slice_get, Some, refl, sym, ap, subst, arith}
use Rattle.std.proofs.Math.Seq.{get_or-append_seam}
use Rattle.std.proofs.lemmas.List.{append_assoc, append-nil, length-append, nil_from_length}
use Rattle.std.proofs.lemmas.Option.{slice_get-get_or}
use Rattle.std.specs.List.{AllByRecursion}
use Rattle.sai_chip.specs.Replay.{Replayed}
use Rattle.swss_script.specs.Sent.{writes_in}
use Rattle.swss_script.specs.declared.parts.Round.{Round}
use Rattle.swss_service.specs.Taking.{HaveReadKeys}
use Rattle.swss_run.specs.Running.{IsRoundRun}
use Rattle.swss_run.proofs.Over.{IsEndedAs}
use Rattle.swss_run.proofs.Pieces.{HasRisen-later}
use Rattle.swss_run.proofs.Sessions.{ended-none, replay-none, running-failed, running-more, running-none, session-done, session-ended}
use Rattle.swss_run.proofs.session.run_each.Goals as goal

round-at : (done : List Round) (round : Round) (rest rounds : List Round) → rounds ≡ done ++ round ∷ rest → slice_get rounds (length done) ≡ Some round
round-at done round rest rounds is =
    ap (λ l. slice_get l (length done)) is
    ∙ slice_get-get_or (done ++ round ∷ rest) (length done) round (omega (arith, length-append done (round ∷ rest)))
    ∙ ap Some (get_or-append_seam done round rest round)

abbrev AreRead : List Round → Type 0
AreRead rounds = AllByRecursion (λ (r : Round). HaveReadKeys (writes_in r.sections)) rounds

read-first : (left rest : List Round) (round : Round) → left ≡ round ∷ rest → AreRead left → HaveReadKeys (writes_in round.sections) × AreRead rest
read-first left rest round is read = subst AreRead is read

pub loop-round-init : goal.loop-round-init
loop-round-init g c =
    let items : c.into_iter-round-iterator.result.rest.items ≡ c.args.rounds = search rules in (
      [],
      sym items,
      refl,
      subst AreRead (sym items) c.requires.read,
      omega arith,
      running-none c.args.rounds c.args.locked.now.core c.args.locked.now.chip (g.K.Sink.holds c.args.sink.now) c.args.replay.now c.requires.new c.requires.chip c.requires.plan (replay-none c.args.locked.now.chip.effects c.args.replay.now c.requires.replay) (ap (λ (r : Replayed). r.at) c.requires.replay),
      ended-none c.args.locked.now.core c.args.locked.now.chip c.requires.new,
      refl,
      c.requires.told,
    )

pub run_round-status-requires-clause-read : goal.run_round-status-requires-clause-read
run_round-status-requires-clause-read g c =
    let left : c.loop-round.round-iterator.rest.items ≡ c.in-Some.round ∷ c.next.new.self.rest.items = search rules in
    (read-first c.loop-round.round-iterator.rest.items c.next.new.self.rest.items c.in-Some.round left c.loop-round.invariant.3).0

pub returns-in_default-clause-write_fault : goal.returns-in_default-clause-write_fault
returns-in_default-clause-write_fault g c = λ is.
    let run = subst (λ s. IsRoundRun (c.loop-round.number + 1) c.in-Some.round c.loop-round.locked.core c.loop-round.locked.chip (g.K.Sink.holds c.loop-round.sink) (g.K.Sink.faults c.loop-round.sink) s c.run_round-status.new.locked.core c.run_round-status.new.locked.chip c.run_round-status.new.replay (g.K.Sink.holds c.run_round-status.new.sink) (g.K.Sink.faults c.run_round-status.new.sink)) is c.run_round-status.ensures.run in
    HasRisen-later (g.K.Sink.faults c.args.sink.now) (g.K.Sink.faults c.loop-round.sink) (g.K.Sink.faults c.run_round-status.new.sink) c.loop-round.invariant.4 run.5

pub returns-in_default-clause-session : goal.returns-in_default-clause-session
returns-in_default-clause-session g c =
    let left : c.loop-round.round-iterator.rest.items ≡ c.in-Some.round ∷ c.next.new.self.rest.items = search rules in
    let split : c.args.rounds ≡ c.loop-round.invariant.0 ++ c.in-Some.round ∷ c.next.new.self.rest.items = c.loop-round.invariant.1 ∙ ap (λ l. c.loop-round.invariant.0 ++ l) left in
    session-ended c.args.rounds c.loop-round.invariant.0 c.args.locked.now.core (g.K.Sink.holds c.args.sink.now) c.loop-round.locked.core c.loop-round.locked.chip c.loop-round.replay (g.K.Sink.holds c.loop-round.sink) c.loop-round.invariant.5
    c.in-Some.round (c.loop-round.number + 1) (round-at c.loop-round.invariant.0 c.in-Some.round c.next.new.self.rest.items c.args.rounds split) (ap (λ n. n + 1) c.loop-round.invariant.2)
    (g.K.Sink.faults c.loop-round.sink) (g.K.Sink.faults c.run_round-status.new.sink) c.run_round-status.new.locked.core c.run_round-status.new.locked.chip c.run_round-status.new.replay (g.K.Sink.holds c.run_round-status.new.sink)
    c.run_round-status.result c.in_default.not-Done c.in_default.not-ChipFault c.run_round-status.ensures.run

pub loop-round-preserved-in-Done : goal.loop-round-preserved-in-Done
loop-round-preserved-in-Done g c =
    let left : c.loop-round.round-iterator.rest.items ≡ c.in-Some.round ∷ c.next.new.self.rest.items = search rules in
    let split : c.args.rounds ≡ c.loop-round.invariant.0 ++ c.in-Some.round ∷ c.next.new.self.rest.items = c.loop-round.invariant.1 ∙ ap (λ l. c.loop-round.invariant.0 ++ l) left in
    let more =
    running-more c.args.rounds c.loop-round.invariant.0 c.args.locked.now.core (g.K.Sink.holds c.args.sink.now) c.loop-round.locked.core c.loop-round.locked.chip c.loop-round.replay (g.K.Sink.holds c.loop-round.sink) c.loop-round.invariant.5
    c.in-Some.round (c.loop-round.number + 1) (round-at c.loop-round.invariant.0 c.in-Some.round c.next.new.self.rest.items c.args.rounds split) (ap (λ n. n + 1) c.loop-round.invariant.2)
    (g.K.Sink.faults c.loop-round.sink) (g.K.Sink.faults c.run_round-status.new.sink) c.run_round-status.new.locked.core c.run_round-status.new.locked.chip c.run_round-status.new.replay (g.K.Sink.holds c.run_round-status.new.sink)
    (subst (λ s. IsRoundRun (c.loop-round.number + 1) c.in-Some.round c.loop-round.locked.core c.loop-round.locked.chip (g.K.Sink.holds c.loop-round.sink) (g.K.Sink.faults c.loop-round.sink) s c.run_round-status.new.locked.core c.run_round-status.new.locked.chip c.run_round-status.new.replay (g.K.Sink.holds c.run_round-status.new.sink) (g.K.Sink.faults c.run_round-status.new.sink)) c.in-Done.is c.run_round-status.ensures.run) in (
      c.loop-round.invariant.0 ++ c.in-Some.round ∷ [],
      split ∙ sym (append_assoc c.loop-round.invariant.0 (c.in-Some.round ∷ []) c.next.new.self.rest.items),
      ap (λ n. n + 1) c.loop-round.invariant.2 ∙ sym (length-append c.loop-round.invariant.0 (c.in-Some.round ∷ [])),
      (read-first c.loop-round.round-iterator.rest.items c.next.new.self.rest.items c.in-Some.round left c.loop-round.invariant.3).1,
      omega (arith, c.loop-round.invariant.4, c.run_round-status.ensures.counts),
      more.0,
      subst (λ s. IsEndedAs s c.run_round-status.new.locked.core c.run_round-status.new.locked.chip) (sym c.in-Done.is) more.1,
      c.run_round-status.ensures.fails ∙ c.loop-round.invariant.7,
      c.run_round-status.ensures.told,
    )

pub loop-round-preserved : goal.loop-round-preserved
loop-round-preserved g c =
    let left : c.loop-round.round-iterator.rest.items ≡ c.in-Some.round ∷ c.next.new.self.rest.items = search rules in
    let split : c.args.rounds ≡ c.loop-round.invariant.0 ++ c.in-Some.round ∷ c.next.new.self.rest.items = c.loop-round.invariant.1 ∙ ap (λ l. c.loop-round.invariant.0 ++ l) left in
    let more =
    running-failed c.args.rounds c.loop-round.invariant.0 c.args.locked.now.core (g.K.Sink.holds c.args.sink.now) c.loop-round.locked.core c.loop-round.locked.chip c.loop-round.replay (g.K.Sink.holds c.loop-round.sink) c.loop-round.invariant.5
    c.in-Some.round (c.loop-round.number + 1) (round-at c.loop-round.invariant.0 c.in-Some.round c.next.new.self.rest.items c.args.rounds split) (ap (λ n. n + 1) c.loop-round.invariant.2)
    (g.K.Sink.faults c.loop-round.sink) (g.K.Sink.faults c.run_round-status.new.sink) c.run_round-status.new.locked.core c.run_round-status.new.locked.chip c.run_round-status.new.replay (g.K.Sink.holds c.run_round-status.new.sink)
    (subst (λ s. IsRoundRun (c.loop-round.number + 1) c.in-Some.round c.loop-round.locked.core c.loop-round.locked.chip (g.K.Sink.holds c.loop-round.sink) (g.K.Sink.faults c.loop-round.sink) s c.run_round-status.new.locked.core c.run_round-status.new.locked.chip c.run_round-status.new.replay (g.K.Sink.holds c.run_round-status.new.sink) (g.K.Sink.faults c.run_round-status.new.sink)) c.in-ChipFault.is c.run_round-status.ensures.run) in (
      c.loop-round.invariant.0 ++ c.in-Some.round ∷ [],
      split ∙ sym (append_assoc c.loop-round.invariant.0 (c.in-Some.round ∷ []) c.next.new.self.rest.items),
      ap (λ n. n + 1) c.loop-round.invariant.2 ∙ sym (length-append c.loop-round.invariant.0 (c.in-Some.round ∷ [])),
      (read-first c.loop-round.round-iterator.rest.items c.next.new.self.rest.items c.in-Some.round left c.loop-round.invariant.3).1,
      omega (arith, c.loop-round.invariant.4, c.run_round-status.ensures.counts),
      more.0,
      subst (λ s. IsEndedAs s c.run_round-status.new.locked.core c.run_round-status.new.locked.chip) (sym c.in-ChipFault.is) more.1,
      c.run_round-status.ensures.fails ∙ c.loop-round.invariant.7,
      c.run_round-status.ensures.told,
    )

pub returns-clause-session : goal.returns-clause-session
returns-clause-session g c =
    let none : c.loop-round.round-iterator.rest.items ≡ [] = nil_from_length c.loop-round.round-iterator.rest.items (sym c.loop-round.round-iterator.rest.ok.0 ∙ c.in-None.ensures.steps.0) in
    let split : c.args.rounds ≡ c.loop-round.invariant.0 = c.loop-round.invariant.1 ∙ ap (λ l. c.loop-round.invariant.0 ++ l) none ∙ append-nil c.loop-round.invariant.0 in
    session-done c.args.rounds c.loop-round.invariant.0 c.args.locked.now.core (g.K.Sink.holds c.args.sink.now) c.loop-round.locked.core c.loop-round.locked.chip c.loop-round.replay (g.K.Sink.holds c.loop-round.sink) c.loop-round.invariant.5 c.loop-round.status (ap length (sym split)) c.loop-round.invariant.6
