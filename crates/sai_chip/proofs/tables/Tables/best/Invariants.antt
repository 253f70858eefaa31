use Rattle.std.proofs.Common.{◌≡◌}
use Rattle.chip_names.specs.Naming.{numbered}
use Rattle.sai_chip.specs.Tables.{best_key, keyed, longer_key}
use Rattle.sai_chip.proofs.tables.Tables.best.Given as goal

-- the better of the best so far and of the best that is left is the best of all
abbrev pub invariant-loop-vr : goal.invariant-loop-vr
invariant-loop-vr l = longer_key l.best (best_key (numbered l.bodies) l.packet (keyed l.vr-iterator)) ≡ best_key (numbered l.bodies) l.packet l.self
