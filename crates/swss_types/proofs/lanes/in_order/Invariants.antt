use Rattle.std.proofs.Common.{◌≡◌, [], drop}
use Rattle.swss_types.specs.Lanes.{rising}
use Rattle.swss_types.proofs.lanes.in_order.Given as goal

-- the lanes so far, with the numbers that are left, are those of all numbers
abbrev pub invariant-loop-number : goal.invariant-loop-number
invariant-loop-number l = rising l.lanes.items (drop l.number-index l.numbers) ≡ rising [] l.numbers
