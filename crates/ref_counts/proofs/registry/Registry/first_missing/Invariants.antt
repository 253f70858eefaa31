use Rattle.std.proofs.Common.{◌≡◌, drop}
use Rattle.ref_counts.specs.Registry.{first_not_live}
use Rattle.ref_counts.proofs.registry.Registry.first_missing.Given as goal

-- the rows of the keys so far are live
abbrev pub invariant-loop-key : goal.invariant-loop-key
invariant-loop-key l = first_not_live l.self (drop l.key-index l.keys) ≡ first_not_live l.self l.keys
