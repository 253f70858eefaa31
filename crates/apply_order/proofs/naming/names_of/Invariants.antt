use Rattle.std.proofs.Common.{◌≡◌, drop, []}
use Rattle.apply_order.specs.Naming.{names_from}
use Rattle.apply_order.proofs.naming.names_of.Given as goal

-- the names so far, with the pairs that are left, are those of all
abbrev pub invariant-loop-pair : goal.invariant-loop-pair
invariant-loop-pair l = names_from l.names l.old l.new (drop l.pair-index l.pairs) ≡ names_from [] l.old l.new l.pairs
