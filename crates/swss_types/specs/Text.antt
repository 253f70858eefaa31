-- The bytes of a text, in the value itself or in an allocation. Own.
use Rattle.std.specs.Prelude.{ℕ, ◌≤◌, List, take}
use Rattle.swss_types.specs.declared.text.Bytes.{Bytes}
use Rattle.swss_types.specs.declared.text.Bytes.TheVariants as bytes

-- the bytes
abbrev pub bytes_in : Bytes → List ℕ
bytes_in (bytes.Short len places) = take len places
bytes_in (bytes.Long long) = long.items

-- no more stand in the value than it has places for
abbrev pub IsHeld : Bytes → Type 0
IsHeld (bytes.Short len places) = len ≤ 30
IsHeld (bytes.Long long) = Unit {0}
