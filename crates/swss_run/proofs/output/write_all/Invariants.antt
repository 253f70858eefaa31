use Rattle.std.proofs.Common.{◌≤◌, ◌-◌, length, take}
use Rattle.swss_types.specs.Outside.{Takes}
use Rattle.swss_run.proofs.output.write_all.Given as goal

-- the sink took what is written so far
abbrev pub invariant-loop-written : goal.invariant-loop-written
invariant-loop-written g l = Takes (g.K.Sink.holds l.initial.sink) (take l.written l.text) (g.K.Sink.holds l.sink) × (l.written ≤ length l.text) × (g.K.Sink.faults l.initial.sink ≤ g.K.Sink.faults l.sink)

abbrev pub decreases-loop-written : goal.decreases-loop-written
decreases-loop-written g l = length l.text - l.written
