use Rattle.std.proofs.Common.{ap}
use Rattle.ref_counts.specs.declared.name.Name.TheVariants as name
use Rattle.orch_flight.proofs.Stages.{alike-begun, alike-ready, row-shared-begun}
use Rattle.orch_flight.proofs.beginning.begin_row.Goals as goal

pub begin_shared-requires-2-clause-shared : goal.begin_shared-requires-2-clause-shared
begin_shared-requires-2-clause-shared c =
    alike-ready c.begin_build.new.reg c.args.reg.now c.args.shared.now (alike-begun c.begin_build.new.reg c.args.reg.now c.args.key.now _ c.args.worker _ (ap name.Row c.copied.ensures) c.in_ok-begin_build.ensures.ok) c.requires.shared

pub returns-clause-ok : goal.returns-clause-ok
returns-clause-ok c =
    row-shared-begun c.begin_shared-2.new.reg c.begin_build.new.reg c.args.reg.now c.args.key.now _ c.args.worker _ c.args.applied c.args.shared.now (ap name.Row c.copied.ensures) c.ids_for_row.ensures c.if-applied.false c.in_ok-begin_build.ensures.ok c.requires.shared c.in_default.ensures.ok
