-- What becomes of names when an operation ends. Own.
use Rattle.std.specs.Prelude.{◌≡◌, ℕ, true, List, [], ◌∷◌, Option, Some, None}
use Rattle.table_schema.specs.declared.key.Key.{Key}
use Rattle.switch_model.specs.Placed.{Placed as Row}
use Rattle.orch_flight.specs.Needing.{row_names}
use Rattle.ref_counts.specs.declared.name.Name.{Name}
use Rattle.ref_counts.specs.declared.name.Name.TheVariants as name
use Rattle.ref_counts.specs.declared.name.NameState.{NameState}
use Rattle.ref_counts.specs.declared.name.NameState.TheVariants as state
use Rattle.ref_counts.specs.Registered.{made_live, without_user}
use Rattle.ref_counts.specs.Registry.{Names, all_released, changed, finished_in, gone_from, ids_of, state_of}

-- what a key's row names, where it has one
abbrev pub named_by : Key → Option Row → List Key
named_by k None = []
named_by k (Some r) = row_names k r

-- the key uses the names of these rows no more
abbrev pub users_dropped : Names → Key → List Key → Names
users_dropped names k [] = names
users_dropped names k (p ∷ ps) = users_dropped (changed names (name.Row p) (without_user k)) k ps

-- the name of a row that is to be: what a worker took away comes back, and what it built comes to be live, with no identifier; any other stays as it is
abbrev pub come_to_be : NameState → Names → Name → Names
come_to_be (state.Retiring worker) names n = changed names n (made_live [])
come_to_be stage names n = finished_in stage names n

-- the key's own name: gone with its row, or live, also where its objects have no identifier
abbrev pub with_own_ended : Names → Key → Option Row → Names
with_own_ended names k None = gone_from names (name.Row k)
with_own_ended names k (Some r) = come_to_be (state_of names (name.Row k)) names (name.Row k)

-- the key no longer uses what its old row named, and from now on what its new row names
abbrev pub users_passed : Names → ℕ → Key → Option Row → Names
users_passed names worker k old = all_released worker true (users_dropped names k (named_by k old))

abbrev pub ended_names : Names → ℕ → Key → Option Row → Option Row → Names
ended_names names worker k old new = with_own_ended (users_passed names worker k old) k new

-- an operation can end: where its row is to be and its name is being taken away still, this worker does it, and the name has no identifier
abbrev pub MayEnd : Names → ℕ → Key → Option Row → Type 0
MayEnd names worker k None = Unit {0}
MayEnd names worker k (Some r) = (v : ℕ) → state_of names (name.Row k) ≡ state.Retiring v → (v ≡ worker) × (ids_of names (name.Row k) ≡ [])
