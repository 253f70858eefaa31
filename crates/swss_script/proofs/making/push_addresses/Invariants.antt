use Rattle.std.proofs.Common.{◌≡◌, ◌-◌, ◌++◌}
use Rattle.swss_script.specs.Generated.{each_from, address_row}
use Rattle.swss_script.proofs.making.push_addresses.Given as goal

-- the rows so far, with those that are left, are all of them behind the first acts
abbrev pub invariant-loop-k : goal.invariant-loop-k
invariant-loop-k l = l.acts ++ each_from address_row l.k (64 - l.k) ≡ l.fn.acts ++ each_from address_row 0 64
