-- What is below a node of a tree. Own.
use Rattle.std.specs.Prelude.{Bool, true, false, Option, Some, None}
use Rattle.lpm_table.specs.declared.below.Below.{Below}
use Rattle.lpm_table.specs.declared.below.Below.TheVariants.{Neither, Zeros, Ones, Both}

-- what is on a side: that of the ones, or that of the zeros
abbrev pub side : {T : Type 0} → Bool → Below T → Option T
side true Neither = None
side true (Zeros zeros) = None
side true (Ones ones) = Some ones
side true (Both zeros ones) = Some ones
side false Neither = None
side false (Zeros zeros) = Some zeros
side false (Ones ones) = None
side false (Both zeros ones) = Some zeros
