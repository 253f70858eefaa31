use Rattle.std.proofs.Common.{refl, sym, subst}
use Rattle.route_orch.specs.Routes.{IsFirst}
use Rattle.route_orch.proofs.Operations.{rows}
use Rattle.route_orch.proofs.flight.body_of.Goals as goal

pub returns : goal.returns
returns c = subst (IsFirst c.args.plan.now c.args.worker c.args.key.now (rows c.args.old) (rows c.args.new)) (sym c.in_ok-new.ensures.ok) (record {
  was = c.in_ok-was.was';
  of_was = c.in_ok-was.ensures;
  of_target = c.in_ok-target.ensures;
  worker_is = refl;
  key_is = c.in-Route.is;
  applied = c.in_ok-applied.ensures;
  step = c.first_step-step.ensures;
  leaves = c.left-leaves.ensures.value;
  groups = c.left-leaves.ensures.groups;
  retires = refl;
})
