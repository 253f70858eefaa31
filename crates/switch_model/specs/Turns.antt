-- What turns over the keys to sync come to. Own.
use Rattle.std.specs.Prelude.{◌≡◌, ◌⊎◌, ℕ, zero, suc, ◌<◌, List, [], ◌∷◌, length, if◌then◌else◌}
use Rattle.std.specs.BTreeMap.{is_at}
use Rattle.table_schema.specs.Key.{key_cmp}
use Rattle.table_schema.specs.Plan.{Ports}
use Rattle.table_schema.specs.declared.key.Key.{Key}
use Rattle.switch_model.specs.Good.{TypedRows}
use Rattle.switch_model.specs.Marks.{IsTrueReason}
use Rattle.switch_model.specs.declared.wait.Wait.{Wait}

-- some reason to wait is true of the key
abbrev pub HasReason : Ports → List ℕ → TypedRows → TypedRows → Key → Type 0
HasReason plan capacities good applied k = (w : Wait) × IsTrueReason plan capacities good applied k w

-- the applied rows, and of one key its good row
abbrev pub with_good : TypedRows → TypedRows → Key → TypedRows
with_good good applied k q = if is_at (key_cmp k) q then good q else applied q

-- a turn over these keys, in their order: a key of which a reason is true, with the rows that are applied by then, is left; any other key leaves, and its applied row becomes its good row or none
abbrev pub IsTurn : Ports → List ℕ → TypedRows → TypedRows → List Key → TypedRows → List Key → Type 0
IsTurn plan capacities good applied [] applied' left = (applied' ≡ applied) × (left ≡ [])
IsTurn plan capacities good applied (k ∷ ks) applied' left =
    (HasReason plan capacities good applied k × (rest : List Key) × (left ≡ k ∷ rest) × IsTurn plan capacities good applied ks applied' rest)
    ⊎ ((¬ (HasReason plan capacities good applied k)) × IsTurn plan capacities good (with_good good applied k) ks applied' left)

-- so many turns: none where there is no key; else one, after which no more are made where it took no key away, and the others where it did
abbrev pub TakeTurns : Ports → List ℕ → TypedRows → ℕ → TypedRows → List Key → TypedRows → List Key → Type 0
TakeTurns plan capacities good zero applied keys applied' left = (keys ≡ []) × (applied' ≡ applied) × (left ≡ [])
TakeTurns plan capacities good (suc n) applied keys applied' left =
    (0 < length keys) × (mid : TypedRows) × (rest : List Key) × IsTurn plan capacities good applied keys mid rest
    × (((length rest ≡ length keys) × (n ≡ 0) × (applied' ≡ mid) × (left ≡ rest)) ⊎ ((length rest < length keys) × TakeTurns plan capacities good n mid rest applied' left))
