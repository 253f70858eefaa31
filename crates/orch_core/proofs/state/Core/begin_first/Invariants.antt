use Rattle.std.proofs.Common.{length}
use Rattle.std.specs.Map.{keys_of}
use Rattle.consumer_table.specs.Ops.{keys_behind}
use Rattle.orch_core.proofs.Turns.{AreBehind}
use Rattle.orch_core.proofs.Walks.{IsWalkedTo}
use Rattle.orch_core.proofs.state.Core.begin_first.Given as goal

-- the keys up to this one have reasons to wait
abbrev pub invariant-loop-after : goal.invariant-loop-after
invariant-loop-after l = IsWalkedTo l.fn.self l.after l.self × AreBehind l.after (keys_of l.self.tables.ops)

abbrev pub decreases-loop-after : goal.decreases-loop-after
decreases-loop-after l = length (keys_behind l.after (keys_of l.self.tables.ops))
