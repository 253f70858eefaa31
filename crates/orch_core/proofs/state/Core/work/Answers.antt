use Rattle.std.proofs.Common.{rules, ◌≡◌, None, refl, []}
use Rattle.flight_board.specs.Board.{flown_at}
use Rattle.warm_state.specs.declared.warm.Warm.TheVariants as warm
use Rattle.orch_core.specs.Outcomes.{Part}
use Rattle.orch_core.proofs.Runs.{pops_first, pops_on}
use Rattle.orch_core.proofs.Walks.{answering_steps, popping_steps, steps_err}
use Rattle.orch_core.proofs.state.Core.work.Goals as goal

pub returns-then-is_flying : goal.returns-then-is_flying
returns-then-is_flying g c = λ s is.
    let at : c.args.self.now.warm ≡ warm.Reconciled = search rules in
    answering_steps s c.args.worker c.args.self.now (g.C.Chip.state c.args.chip.now) is at (c.is_flying.ensures.0 c.if-is_flying.true) c.answer.result c.answer.new.self (g.C.Chip.state c.answer.new.chip) (c.answer.ensures s is)

pub returns-in_err-pop : goal.returns-in_err-pop
returns-in_err-pop g c = λ s is.
    let at : c.args.self.now.warm ≡ warm.Reconciled = search rules in
    let none : flown_at c.args.self.now.board c.args.worker ≡ None = search rules in
    let some : c.args.self.now.tables.waiting ≡ [] → ⊥ = search rules in
    let t = c.pop.ensures.keys in
    steps_err s c.args.worker c.args.self.now (g.C.Chip.state c.args.chip.now) c.from_residual.result c.pop.new.self c.from_residual.ensures.0
    (λ e. Part (none, some) refl (pops_on c.args.self.now c.args.self.now at (pops_first c.args.self.now) c.pop.new.self t.0 t.1 t.2) c.in_err-pop.ensures.part)

pub returns-then-not-is_popped : goal.returns-then-not-is_popped
returns-then-not-is_popped g c = λ s is.
    let at : c.args.self.now.warm ≡ warm.Reconciled = search rules in
    let none : flown_at c.args.self.now.board c.args.worker ≡ None = search rules in
    let some : c.args.self.now.tables.waiting ≡ [] → ⊥ = search rules in
    let t = c.pop.ensures.keys in
    popping_steps s c.args.worker c.args.self.now (g.C.Chip.state c.args.chip.now) is at (none, some) t.0 t.1 c.pop.new.self t.2 c.in_ok-pop.ensures.some c.in_ok-pop.ensures.batch
