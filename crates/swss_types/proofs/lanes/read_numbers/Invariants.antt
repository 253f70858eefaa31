use Rattle.std.proofs.Common.{◌≡◌, ◌++◌, option_map}
use Rattle.swss_types.specs.Lanes.{lanes_in}
use Rattle.swss_types.specs.Parts.{parts_at}
use Rattle.swss_types.proofs.Lists.{left_in, left_len}
use Rattle.swss_types.proofs.lanes.read_numbers.Given as goal

-- the numbers so far, with those that are left, are those of the text
abbrev pub invariant-loop-left : goal.invariant-loop-left
invariant-loop-left l = option_map (λ rest. l.numbers.items ++ rest) (left_in l.left) ≡ lanes_in (parts_at 44 l.text)

abbrev pub decreases-loop-left : goal.decreases-loop-left
decreases-loop-left l = left_len l.left
