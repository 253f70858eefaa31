use Rattle.std.proofs.Common.{◌≡◌, ◌≤◌, ◌++◌, length, take, option_map}
use Rattle.swss_types.specs.Hex.{hex_within}
use Rattle.swss_types.specs.Parts.{parts_at, each_of}
use Rattle.swss_types.proofs.Each.{each_left, left_len}
use Rattle.swss_types.proofs.mac.read_pairs.Given as goal

-- the bytes so far, with those that are left, are those of the text
abbrev pub invariant-loop-left : goal.invariant-loop-left
invariant-loop-left l =
    (option_map (λ rest. take l.count l.bytes ++ rest) (each_left (hex_within 2 2) 58 l.left) ≡ each_of (hex_within 2 2) (parts_at 58 l.text))
    × (l.count ≤ length l.bytes)

abbrev pub decreases-loop-left : goal.decreases-loop-left
decreases-loop-left l = left_len l.left
