use Rattle.std.proofs.Common.{Ok, subst, sym}
use Rattle.orch_core.specs.Outcomes.{BeginsOrDrops, Tries}
use Rattle.orch_core.proofs.Tries.{begun_by, begun_err}
use Rattle.orch_core.proofs.state.Core.begins.Goals as goal
use Rattle.orch_core.proofs.state.Core.begins.Goals.{in-Waits, in_default}

pub returns-in_err-try_key : goal.returns-in_err-try_key
returns-in_err-try_key c = λ s chip is. begun_err s c.args.worker c.args.key.now c.args.self.now chip c.try_key.new.self c.from_residual.result c.from_residual.ensures.0
    (subst (λ r. Tries s c.args.worker c.args.key.now c.args.self.now chip r c.try_key.new.self) c.in_err-try_key.was (c.try_key.ensures s chip is))

pub returns : goal.returns
returns c = λ s chip is.
    let tries = subst (λ r. Tries s c.args.worker c.args.key.now c.args.self.now chip r c.try_key.new.self) c.in_ok-try_key.was (c.try_key.ensures s chip is) in
    elim c.match-branch-2.branch [
      | in-Waits w ↦
          let x = subst (λ t. Tries s c.args.worker c.args.key.now c.args.self.now chip (Ok t) c.try_key.new.self) w.in-Waits.is tries in
          subst (λ r. BeginsOrDrops s c.args.worker c.args.key.now c.args.self.now chip r c.try_key.new.self) (sym w.result-is) (x.0, x.1, (w.in-Waits.field-0, x.2))
      | in_default w ↦
          subst (λ r. BeginsOrDrops s c.args.worker c.args.key.now c.args.self.now chip r c.try_key.new.self) (sym w.result-is)
          (begun_by s c.args.worker c.args.key.now c.args.self.now chip c.try_key.new.self c.in_ok-try_key.field-0 w.in_default.not-Waits tries)
    ]
