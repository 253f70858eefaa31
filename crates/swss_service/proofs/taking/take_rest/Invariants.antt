use Rattle.std.proofs.Common.{◌≡◌, ◌++◌, List}
use Rattle.table_schema.specs.declared.write.Sent.{Sent}
use Rattle.swss_service.specs.Rounds.{restarts_logged, writes_logged}
use Rattle.swss_service.proofs.taking.take_rest.Given as goal

abbrev pub invariant-loop : goal.invariant-loop
invariant-loop g l =
    (goal.iterator-loop g).can_next l.iterator' × (goal.iterator-loop g).is_finite l.iterator'
    × (l.passes.items ≡ l.fn.passes.items)
    × (l.taker.intake ≡ l.fn.taker.intake)
    × (restarts_logged l.served ≡ restarts_logged l.fn.served)
    × ((opening : List Sent) → writes_logged l.fn.served ≡ opening ++ l.fn.taker.received → writes_logged l.served ≡ opening ++ l.taker.received)
