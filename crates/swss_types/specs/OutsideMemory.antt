-- What contracts see of the source and the sink in memory. Own rules.
use Rattle.std.specs.Prelude.{ℕ, ◌+◌, ◌^◌, ◌-◌, min, List, Contains}

-- a source: what it still gives, the most that it gives in a call, the numbers of the calls that fail, the calls so far, and how many failed
pub record Supply : Type 0 where
  pub left : List ℕ
  pub piece : ℕ
  pub fails : List ℕ
  pub calls : ℕ
  pub faults : ℕ

-- a sink: what it took, the most that it takes in a call, and the same three
pub record Store : Type 0 where
  pub held : List ℕ
  pub piece : ℕ
  pub fails : List ℕ
  pub calls : ℕ
  pub faults : ℕ

-- the count of calls after one more; it stays at its type's end
abbrev pub called : ℕ → ℕ
called calls = min (calls + 1) (2 ^ 64 - 1)

-- the next call is one that fails
abbrev pub IsFailing : List ℕ → ℕ → Type 0
IsFailing fails calls = Contains fails (called calls)
