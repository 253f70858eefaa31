use Rattle.std.proofs.Common.{◌≡◌, ◌++◌, map}
use Rattle.swss_script.specs.Behind.{row_act}
use Rattle.swss_script.proofs.opening.row_acts.Given as goal

-- the acts so far, with those of the rows that are left, are those of all rows
abbrev pub invariant-loop-key : goal.invariant-loop-key
invariant-loop-key l = l.acts ++ map row_act l.key-iterator ≡ map row_act l.fn.image
