use Rattle.std.proofs.Common.{sym, ◌∙◌}
use Rattle.neigh_orch.proofs.Operations.{never-none, rows}
use Rattle.neigh_orch.proofs.flight.NeighFlight.first.Goals as goal

pub unreachable-requires : goal.unreachable-requires
unreachable-requires c = never-none c.args.plan.now c.args.on c.args.ip.now (rows c.args.old) (rows c.args.new) c.requires (sym c.base_of.ensures ∙ c.in-None.is)
