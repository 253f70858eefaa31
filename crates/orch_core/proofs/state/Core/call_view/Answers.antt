use Rattle.std.proofs.Common.{◌≡◌, Some, subst, sym}
use Rattle.orch_core.proofs.Answers.{there_is}
use Rattle.orch_core.proofs.GoingOver.{called_now, can_now, ends_now, may_now, ready_now}
use Rattle.flight_board.specs.Board.{IsTakenFor, MayEndThen, flown_at}
use Rattle.registry_laws.specs.Flown.{Flown}
use Rattle.registry_laws.specs.Making.{MayTakeFor}
use Rattle.orch_core.proofs.state.Core.call_view.Goals as goal

pub due_call-requires-clause-flying : goal.due_call-requires-clause-flying
due_call-requires-clause-flying g c =
    let b = c.in_ok-prepare.ensures.ok in
    let x = c.requires.bringing in
    let f = there_is _ c.requires.flying in
    ready_now x.0 c.args.self.now x.1 x.2 b.0 b.1 f.0 f.1 c.prepare.new.self b.2

pub call_chip-requires : goal.call_chip-requires
call_chip-requires g c =
    let b = c.in_ok-prepare.ensures.ok in
    let x = c.requires.bringing in
    let f = there_is _ c.requires.flying in
    can_now x.0 c.args.self.now x.1 x.2 b.0 b.1 f.0 f.1 c.prepare.new.self b.2 c.in_ok-call.call c.in_ok-call.ensures (g.C.Chip.state c.args.chip.now)

pub took-requires-clause-may : goal.took-requires-clause-may
took-requires-clause-may g c =
    let b = c.in_ok-prepare.ensures.ok in
    let x = c.requires.bringing in
    let f = there_is _ c.requires.flying in
    let y = c.in_ok-answer.ensures.ok in
    subst (λ o. (z : Flown) × (flown_at c.call_chip.new.self.board 0 ≡ Some z) × MayTakeFor z.operation z.group o c.call_chip.new.self.board.names) (sym c.made.ensures)
    (may_now x.0 c.args.self.now x.1 x.2 b.0 b.1 f.0 f.1 c.prepare.new.self b.2 c.in_ok-call.call c.in_ok-call.ensures (g.C.Chip.state c.args.chip.now) c.in_ok-answer.answer y.0 (g.C.Chip.state c.call_chip.new.chip) y.1 c.call_chip.new.self y.2)

pub took-requires-clause-ends : goal.took-requires-clause-ends
took-requires-clause-ends g c =
    let b = c.in_ok-prepare.ensures.ok in
    let x = c.requires.bringing in
    let f = there_is _ c.requires.flying in
    let y = c.in_ok-answer.ensures.ok in
    subst (MayEndThen c.call_chip.new.self.board 0) (sym c.made.ensures)
    (ends_now x.0 c.args.self.now x.1 x.2 b.0 b.1 f.0 f.1 c.prepare.new.self b.2 c.in_ok-call.call c.in_ok-call.ensures (g.C.Chip.state c.args.chip.now) c.in_ok-answer.answer y.0 (g.C.Chip.state c.call_chip.new.chip) y.1 c.call_chip.new.self y.2)

pub returns-clause-called : goal.returns-clause-called
returns-clause-called g c = λ first rest x.
    let b = c.in_ok-prepare.ensures.ok in
    let f = there_is _ c.requires.flying in
    let y = c.in_ok-answer.ensures.ok in
    let taken = c.took.ensures in
    called_now first c.args.self.now rest x b.0 b.1 f.0 f.1 c.prepare.new.self b.2 c.in_ok-call.call c.in_ok-call.ensures (g.C.Chip.state c.args.chip.now) c.in_ok-answer.answer y.0 (g.C.Chip.state c.call_chip.new.chip) y.1 c.call_chip.new.self y.2
    taken.0 (subst (λ o. IsTakenFor c.call_chip.new.self.board 0 o taken.0) c.made.ensures taken.1) c.took.new.self taken.2
