use Rattle.std.proofs.Common.{◌∙◌, refl, sym, subst}
use Rattle.flight_board.specs.Applied.{placed_at, placed_for}
use Rattle.flight_board.specs.Board.{MayEndAtOnce}
use Rattle.orch_flight.specs.Sharing.{MayStart}
use Rattle.session_laws.proofs.Beginnings.{ends_at_once, may}
use Rattle.session_laws.proofs.Counting.{counts}
use Rattle.orch_core.specs.Outcomes.{Begun}
use Rattle.orch_core.proofs.Answers.{never}
use Rattle.orch_core.proofs.Tries.{dropped, tries}
use Rattle.orch_core.proofs.state.Core.try_row.Goals as goal

pub returns-then-is_there : goal.returns-then-is_there
returns-then-is_there c = λ s chip is.
    let there = c.if-is_there.ensures.there refl in
    dropped s c.args.key.now c.args.self.now chip is c.requires.warm c.requires.order c.requires.key there.0 (there.1 ∙ c.as_ref.ensures.value ∙ c.requires.row) c.leave.new.self c.leave.ensures

pub begin-requires-clause-may : goal.begin-requires-clause-may
begin-requires-clause-may c = λ un.
    let chip = c.requires.session.0 in
    let s = c.requires.session.1 in
    subst (λ o. MayStart c.args.self.now.board.plan c.args.self.now.board.names c.args.worker c.args.key.now (placed_at c.args.self.now.board.applied c.args.key.now) (placed_for c.args.self.now.board.applied c.args.key.now o)) (sym c.requires.row)
    (may c.args.self.now chip s.0 s.1 c.requires.warm c.args.key.now c.requires.key c.args.worker c.requires.worker c.requires.none
    (λ free. never c.is_there.result c.if-is_there.false (λ h. c.is_there.ensures.other free (h ∙ sym (c.as_ref.ensures.value ∙ c.requires.row)))) un)

pub begin-requires-clause-ends : goal.begin-requires-clause-ends
begin-requires-clause-ends c = λ used are un.
    let chip = c.requires.session.0 in
    let s = c.requires.session.1 in
    subst (λ o. MayEndAtOnce c.args.self.now.board used c.args.worker c.args.key.now o) (sym c.requires.row)
    (ends_at_once c.args.self.now chip s.0 s.1 c.requires.warm c.args.key.now c.requires.key c.args.worker c.requires.worker c.requires.none
    (λ free. never c.is_there.result c.if-is_there.false (λ h. c.is_there.ensures.other free (h ∙ sym (c.as_ref.ensures.value ∙ c.requires.row))))
    used (counts c.args.self.now chip s.0 used s.1 c.requires.warm are) c.requires.order un)

pub returns : goal.returns
returns c = λ s chip is.
    tries s c.args.key.now c.args.self.now chip is c.requires.warm c.requires.order c.requires.key c.args.worker c.requires.worker c.requires.none
    (λ free. never c.is_there.result c.if-is_there.false (λ h. c.is_there.ensures.other free (h ∙ sym (c.as_ref.ensures.value ∙ c.requires.row))))
    c.begin.result c.begin.new.self (subst (λ o. Begun c.args.worker c.args.key.now o c.args.self.now c.begin.result c.begin.new.self) c.requires.row c.begin.ensures)
