use Rattle.std.proofs.Common.{◌≡◌, [], rules}
use Rattle.orch_core.proofs.Restores.{all_popped, bare_err, bare_first, bare_on, batch_first, batch_on}
use Rattle.orch_core.proofs.Runs.{pops_err, pops_first, pops_on}
use Rattle.orch_core.proofs.state.Core.pop_all.Goals as goal

pub loop-self-init : goal.loop-self-init
loop-self-init c = (λ at. pops_first c.args.self.now, λ at. bare_first c.args.self.now, batch_first c.args.self.now)

pub loop-self-preserved : goal.loop-self-preserved
loop-self-preserved c =
    let t = c.pop.ensures.keys in (
      λ at. pops_on c.args.self.now c.loop-self.self at (c.loop-self.invariant.0 at) c.pop.new.self t.0 t.1 t.2,
      λ at. bare_on c.args.self.now c.loop-self.self at (c.loop-self.invariant.1 at) c.pop.new.self t.0 t.1 t.2,
      batch_on c.args.self.now c.loop-self.self c.pop.new.self c.loop-self.invariant.2 c.in_ok-pop.ensures.batch,
    )

pub returns-in_err-pop-clause-pops : goal.returns-in_err-pop-clause-pops
returns-in_err-pop-clause-pops c = λ at.
    let t = c.pop.ensures.keys in
    pops_err c.args.self.now c.pop.new.self c.from_residual.result c.from_residual.ensures.0 (pops_on c.args.self.now c.loop-self.self at (c.loop-self.invariant.0 at) c.pop.new.self t.0 t.1 t.2)

pub returns-in_err-pop-clause-restored : goal.returns-in_err-pop-clause-restored
returns-in_err-pop-clause-restored c = λ at.
    let t = c.pop.ensures.keys in
    bare_err c.args.self.now c.pop.new.self c.from_residual.result c.from_residual.ensures.0 (bare_on c.args.self.now c.loop-self.self at (c.loop-self.invariant.1 at) c.pop.new.self t.0 t.1 t.2)

pub returns-clause-restored : goal.returns-clause-restored
returns-clause-restored c = λ at.
    let none : c.loop-self.self.tables.waiting ≡ [] = search rules in
    (c.loop-self.invariant.1 at, all_popped c.args.self.now c.loop-self.self c.loop-self.invariant.2 none)
