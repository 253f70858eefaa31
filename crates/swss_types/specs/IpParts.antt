-- What the private functions that read an address compute.
use Rattle.std.specs.Prelude.{ℕ, ◌+◌, nat_le, List, length, Option, Some, None, if◌then◌else◌}
use Rattle.swss_types.specs.Ip.{joined}

-- the number that groups make behind the count groups that made n, and how many they are then, where they are not too many
abbrev pub made : ℕ → ℕ → Option (List ℕ) → Option (ℕ × ℕ)
made n count None = None
made n count (Some groups) =
    if nat_le (count + length groups) 8
    then Some (joined 65536 n groups, count + length groups)
    else None
