use Rattle.std.proofs.Common.{◌≡◌, ◌≤◌, List, ◌++◌, length}
use Rattle.std.specs.List.{AllByRecursion}
use Rattle.swss_script.specs.Sent.{writes_in}
use Rattle.swss_script.specs.declared.parts.Round.{Round}
use Rattle.swss_service.specs.Taking.{HaveReadKeys}
use Rattle.swss_run.specs.Told.{IsToldOf}
use Rattle.swss_run.proofs.Over.{IsEndedAs}
use Rattle.swss_run.proofs.Sessions.{IsRunning}
use Rattle.swss_run.proofs.session.run_each.Given as goal

-- the rounds so far ended, and these are left
abbrev pub invariant-loop-round : goal.invariant-loop-round
invariant-loop-round g l =
    (done : List Round) × (l.fn.rounds ≡ done ++ l.round-iterator.rest.items) × (l.number ≡ length done) × AllByRecursion (λ (r : Round). HaveReadKeys (writes_in r.sections)) l.round-iterator.rest.items × (g.K.Sink.faults l.initial.sink ≤ g.K.Sink.faults l.sink)
    × IsRunning l.fn.rounds done l.fn.locked.core (g.K.Sink.holds l.initial.sink) l.locked.core l.locked.chip l.replay (g.K.Sink.holds l.sink) × IsEndedAs l.status l.locked.core l.locked.chip × (l.locked.chip.fails ≡ l.fn.locked.chip.fails) × IsToldOf l.told l.locked.core.log.taken
