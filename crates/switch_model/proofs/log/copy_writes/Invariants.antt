use Rattle.std.proofs.Common.{◌≡◌, take}
use Rattle.switch_model.proofs.log.copy_writes.Given as goal

-- the first ones are copied
abbrev pub invariant-loop-sent : goal.invariant-loop-sent
invariant-loop-sent l = l.copies.items ≡ take l.sent-index l.writes.items
