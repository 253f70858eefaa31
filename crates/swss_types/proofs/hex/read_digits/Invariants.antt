use Rattle.std.proofs.Common.{◌≡◌, ◌^◌, ◌<◌, drop}
use Rattle.swss_types.specs.Hex.{hex_behind}
use Rattle.swss_types.proofs.hex.read_digits.Given as goal

-- the number so far, with the digits that are left behind it, is the number of all digits
abbrev pub invariant-loop-byte : goal.invariant-loop-byte
invariant-loop-byte l = (hex_behind l.value (drop l.byte-index l.digits) ≡ hex_behind 0 l.digits) × (l.value < 16 ^ l.byte-index)
