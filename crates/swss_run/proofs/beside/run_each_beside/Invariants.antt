use Rattle.std.proofs.Common.{◌≡◌, ◌≤◌, ◌-◌, length}
use Rattle.swss_script.specs.Behind.{image_sent, rounds_behind}
use Rattle.swss_run.specs.Told.{IsToldOf}
use Rattle.swss_run.proofs.Over.{IsEndedAs}
use Rattle.swss_run.proofs.SessionBeside.{IsRunningBeside}
use Rattle.swss_run.proofs.beside.run_each_beside.Given as goal

-- so many rounds ended, and the others are left
abbrev pub invariant-loop-number : goal.invariant-loop-number
invariant-loop-number g l =
    IsRunningBeside l.workers (image_sent l._image) (rounds_behind l._image l.rounds) l.number l.fn.locked.core (g.K.Sink.holds l.initial.sink) l.locked.core l.locked.chip l.replay (g.K.Sink.holds l.sink)
    × IsEndedAs l.status l.locked.core l.locked.chip × (l.number ≤ length l.rounds) × (g.K.Sink.faults l.initial.sink ≤ g.K.Sink.faults l.sink)
    × (l.locked.chip.fails ≡ l.fn.locked.chip.fails) × IsToldOf l.told l.locked.core.log.taken

abbrev pub decreases-loop-number : goal.decreases-loop-number
decreases-loop-number g l = length l.rounds - l.number
