use Rattle.std.proofs.Common.{◌≡◌, ◌≤◌, drop}
use Rattle.swss_types.specs.Number.{value_behind}
use Rattle.sai_record.proofs.words.read_digits.Given as goal

-- the number so far, with the digits that are left behind it, is the number of all digits
abbrev pub invariant-loop-byte : goal.invariant-loop-byte
invariant-loop-byte l = (value_behind l.value (drop l.byte-index l.digits) ≡ value_behind 0 l.digits) × (l.value ≤ 18446744073709551615)
