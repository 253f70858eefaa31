-- Lists of sent writes, by who sent them. Own.
use Rattle.std.specs.Prelude.{◌≡◌, ℕ, ◌+◌, ◌<◌, ◌⊎◌, ⊤, List, [], ◌∷◌}
use Rattle.table_schema.specs.SentBy.{sent_of}
use Rattle.table_schema.specs.declared.write.Sent.{Sent}

-- the writes are numbered from n on
abbrev pub IsNumbered : ℕ → List Sent → Type 0
IsNumbered n [] = ⊤
IsNumbered n (w ∷ ws) = (w.number ≡ n) × IsNumbered (n + 1) ws

-- the writes of each sender are numbered from 0
abbrev pub AreNumbered : List Sent → Type 0
AreNumbered writes = (p : ℕ) → IsNumbered 0 (sent_of p writes)

-- a sender that is none of the producers 1 to n
abbrev pub IsOther : ℕ → ℕ → Type 0
IsOther n p = (p ≡ 0) ⊎ (n < p)
