use Rattle.std.proofs.Common.{refl, ap, ◌∙◌}
use Rattle.ref_counts.specs.Registered.{without_user}
use Rattle.ref_counts.specs.Registry.{state_of}
use Rattle.orch_flight.proofs.Stages.{state-changed}
use Rattle.orch_flight.proofs.leaving.leave.Goals as goal

pub try_retire-requires : goal.try_retire-requires
try_retire-requires c =
    ap (λ l. state_of l c.args.name.now) c.drop_user.ensures
    ∙ state-changed c.args.reg.now c.args.name.now c.args.name.now (without_user c.args.key.now) (λ r. refl)
    ∙ c.requires
