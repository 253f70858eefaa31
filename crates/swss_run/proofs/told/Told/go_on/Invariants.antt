use Rattle.std.proofs.Common.{◌≡◌, ◌+◌}
use Rattle.swss_run.specs.Told.{IsToldOf}
use Rattle.swss_run.proofs.told.Told.go_on.Given as goal

-- the rows are told up to this write
abbrev pub invariant-loop-sent : goal.invariant-loop-sent
invariant-loop-sent l = (l.self.count ≡ l.fn.self.count + l.sent-index) × IsToldOf l.self l.taken
