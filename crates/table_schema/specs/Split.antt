-- Texts that are split at a byte.
use Rattle.std.specs.Prelude.{ℕ, ◌+◌, ◌==◌, List, take, drop, Option, option_map}
use Rattle.std.specs.List.{position}

-- what stands before the first such byte, and what stands behind it
abbrev pub split_once : ℕ → List ℕ → Option (List ℕ × List ℕ)
split_once byte text = option_map (λ at. (take at text, drop (at + 1) text)) (position (λ b. b == byte) text)
