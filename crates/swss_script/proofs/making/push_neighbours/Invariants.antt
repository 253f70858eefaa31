use Rattle.std.proofs.Common.{◌≡◌, ◌-◌, ◌++◌}
use Rattle.swss_script.specs.Generated.{each_from, neighbour_row}
use Rattle.swss_script.proofs.making.push_neighbours.Given as goal

-- the rows so far, with those that are left, are all of them behind the first acts
abbrev pub invariant-loop-j : goal.invariant-loop-j
invariant-loop-j l = l.acts ++ each_from neighbour_row l.j (256 - l.j) ≡ l.fn.acts ++ each_from neighbour_row 0 256
