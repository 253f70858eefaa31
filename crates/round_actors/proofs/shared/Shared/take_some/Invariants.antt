use Rattle.std.proofs.Common.{◌≡◌, ◌≤◌, ◌++◌, List, length}
use Rattle.table_schema.specs.declared.write.Sent.{Sent}
use Rattle.round_actors.specs.declared.answers.Kept.TheVariants as keeps
use Rattle.round_actors.proofs.shared.Shared.take_some.Given as goal

abbrev pub invariant-loop-i : goal.invariant-loop-i
invariant-loop-i g l = ((more : List Sent) × (length more ≤ l._i) × (l.self.taker.received ≡ l.fn.self.taker.received ++ more))
    × (l.self.restarts ≡ l.fn.self.restarts) × (l.self.ended ≡ l.fn.self.ended) × (l.self.refusal ≡ keeps.Nothing)
