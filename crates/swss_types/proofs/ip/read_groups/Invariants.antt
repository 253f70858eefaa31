use Rattle.std.proofs.Common.{◌≡◌, ◌≤◌, ◌<◌, ◌^◌}
use Rattle.swss_types.specs.Hex.{hex_within}
use Rattle.swss_types.specs.Ip.{groups_of}
use Rattle.swss_types.specs.IpParts.{made}
use Rattle.swss_types.proofs.Each.{each_left, left_len}
use Rattle.swss_types.proofs.ip.read_groups.Given as goal

-- what was made so far, with the groups that are left, is what the whole text makes
abbrev pub invariant-loop-left : goal.invariant-loop-left
invariant-loop-left l =
    (made l.bits l.count (each_left (hex_within 1 4) 58 l.left) ≡ made 0 0 (groups_of l.text))
    × (l.count ≤ 8) × (l.bits < 65536 ^ l.count)

abbrev pub decreases-loop-left : goal.decreases-loop-left
decreases-loop-left l = left_len l.left
