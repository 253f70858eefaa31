-- The bits of an address in words. Own.
use Rattle.std.specs.Prelude.{ℕ, ◌+◌, ◌*◌, ◌^◌}

-- the number with these words of 32 bits, the highest first
abbrev pub of_words : ℕ → ℕ → ℕ → ℕ → ℕ
of_words first second third fourth = ((first * 2 ^ 32 + second) * 2 ^ 32 + third) * 2 ^ 32 + fourth
