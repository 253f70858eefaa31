use Rattle.std.proofs.Common.{◌∙◌, refl, subst, sym}
use Rattle.flight_board.specs.Applied.{placed_at, placed_for}
use Rattle.flight_board.specs.Board.{IsBegunFor, MayEndAtOnce}
use Rattle.orch_flight.specs.Sharing.{MayStart}
use Rattle.session_laws.specs.Service.Built.{IsBuilt}
use Rattle.session_laws.proofs.Service.Building.{built-drop, ends-begun, may-begin}
use Rattle.orch_core.proofs.Answers.{never}
use Rattle.orch_core.proofs.GoingOver.{key_begun, key_waits}
use Rattle.orch_core.proofs.state.Core.restore_row.Goals as goal

pub returns-then-is_there-clause-over : goal.returns-then-is_there-clause-over
returns-then-is_there-clause-over g c = λ first rest x.
    let there = c.if-is_there.ensures.there refl in
    (subst (λ z. IsBuilt first z rest) (sym c.done.ensures) (built-drop first c.args.self.now c.args.key rest x c.requires.order there.0 (there.1 ∙ c.as_ref.ensures.value ∙ c.requires.row)), refl)

pub start-requires-clause-may : goal.start-requires-clause-may
start-requires-clause-may g c = λ un.
    let x = c.requires.built in
    subst (λ o. MayStart c.args.self.now.board.plan c.args.self.now.board.names 0 c.args.key (placed_at c.args.self.now.board.applied c.args.key) (placed_for c.args.self.now.board.applied c.args.key o)) (sym c.requires.row)
    (may-begin x.0 c.args.self.now c.args.key x.1 x.2 c.requires.order
    (λ free. never c.is_there.result c.if-is_there.false (λ h. c.is_there.ensures.other free (h ∙ sym (c.as_ref.ensures.value ∙ c.requires.row)))) un)

pub start-requires-clause-ends : goal.start-requires-clause-ends
start-requires-clause-ends g c = λ un.
    let x = c.requires.built in
    subst (λ o. MayEndAtOnce c.args.self.now.board c.used-used.result 0 c.args.key o) (sym c.requires.row)
    (ends-begun x.0 c.args.self.now c.args.key x.1 x.2 c.requires.order
    (λ free. never c.is_there.result c.if-is_there.false (λ h. c.is_there.ensures.other free (h ∙ sym (c.as_ref.ensures.value ∙ c.requires.row))))
    c.used-used.result c.used-used.ensures.kinds un)

pub run_on_view-requires : goal.run_on_view-requires
run_on_view-requires g c =
    let x = c.requires.built in
    let b = c.in_ok-start.ensures.begun in
    record {
      bringing = (
        x.0,
        x.1,
        key_begun x.0 c.args.self.now c.args.key x.1 x.2 c.requires.order
            (λ free. never c.is_there.result c.if-is_there.false (λ h. c.is_there.ensures.other free (h ∙ sym (c.as_ref.ensures.value ∙ c.requires.row))))
            c.used-used.result c.used-used.ensures.kinds b.0 (subst (λ a. IsBegunFor c.args.self.now.board c.used-used.result 0 c.args.key c.args.new a b.0) c.in-Ok.is b.1) c.requires.row c.start.new.self b.2 c.done-in-Ok.new.self c.done-in-Ok.ensures,
      );
    }

pub returns-in-Ok-clause-over : goal.returns-in-Ok-clause-over
returns-in-Ok-clause-over g c = λ first rest x.
    let b = c.in_ok-start.ensures.begun in
    c.run_on_view.ensures.over first rest (key_begun first c.args.self.now c.args.key rest x c.requires.order
    (λ free. never c.is_there.result c.if-is_there.false (λ h. c.is_there.ensures.other free (h ∙ sym (c.as_ref.ensures.value ∙ c.requires.row))))
    c.used-used.result c.used-used.ensures.kinds b.0 (subst (λ a. IsBegunFor c.args.self.now.board c.used-used.result 0 c.args.key c.args.new a b.0) c.in-Ok.is b.1) c.requires.row c.start.new.self b.2 c.done-in-Ok.new.self c.done-in-Ok.ensures)

pub returns-in-Err-clause-over : goal.returns-in-Err-clause-over
returns-in-Err-clause-over g c = λ first rest x.
    let b = c.in_ok-start.ensures.begun in
    key_waits first c.args.self.now c.args.key rest x c.requires.order
    (λ free. never c.is_there.result c.if-is_there.false (λ h. c.is_there.ensures.other free (h ∙ sym (c.as_ref.ensures.value ∙ c.requires.row))))
    c.used-used.result c.used-used.ensures.kinds c.in-Err.wait b.0 (subst (λ a. IsBegunFor c.args.self.now.board c.used-used.result 0 c.args.key c.args.new a b.0) c.in-Err.is b.1) c.requires.row c.start.new.self b.2 (g.C.Chip.state c.args.chip.now) c.wait.result c.wait.new.self c.wait.ensures.ok c.wait.ensures.err
