use Rattle.std.proofs.Common.{◌≤◌, drop, length}
use Rattle.table_schema.specs.Fields.{HasRisingNames}
use Rattle.table_schema.proofs.few.have_rising_names.Given as goal

-- the names from here on rise
abbrev pub invariant-loop-at : goal.invariant-loop-at
invariant-loop-at l = (l.at ≤ length l.pairs) × HasRisingNames (drop l.at l.pairs)

abbrev pub decreases-loop-at : goal.decreases-loop-at
decreases-loop-at l = l.at
