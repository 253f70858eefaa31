-- What is known of all names, and what each call makes of it. Own.
use Rattle.std.specs.Prelude.{◌≡◌, ℕ, Bool, true, false, ◌&&◌, List, [], ◌∷◌, map, Option, Some, None, option_and_then, if◌then◌else◌, Vec}
use Rattle.std.specs.BTreeMap.{is_at}
use Rattle.std.specs.List.{AllByRecursion, list_any}
use Rattle.std.specs.Map.{lookup, remove_entry}
use Rattle.std.specs.declared.alloc.Global.{Global}
use Rattle.std.specs.Ordering.{nat_cmp}
use Rattle.std.specs.declared.cmp.Ordering.{Ordering}
use Rattle.table_schema.specs.declared.key.Key.{Key}
use Rattle.sai_types.specs.declared.ids.Vid.{Vid}
use Rattle.switch_model.specs.declared.wait.Wait.{Wait}
use Rattle.ref_counts.specs.contracts.name.NameOrd.TheImpl as name_ord
use Rattle.ref_counts.specs.declared.name.Name.{Name}
use Rattle.ref_counts.specs.declared.name.Name.TheVariants as name
use Rattle.ref_counts.specs.declared.name.NameState.{NameState}
use Rattle.ref_counts.specs.declared.name.NameState.TheVariants as state
use Rattle.ref_counts.specs.Registered.{Registered, made_live, released, retire_refusal, with_pin}

-- by what they name, rows first, and then by their parts
abbrev pub registered_name_cmp : Name → Name → Ordering
registered_name_cmp = name_ord.ghosts.cmp

-- the names that are not absent, in order, each once
abbrev pub Names : Type 0
Names = List (Name × Registered)

abbrev pub registered_at : Names → Name → Option Registered
registered_at names n = lookup (is_at (registered_name_cmp n)) names

abbrev pub state_in : Option Registered → NameState
state_in None = state.Absent
state_in (Some r) = r.state

-- how a name stands
abbrev pub state_of : Names → Name → NameState
state_of names n = state_in (registered_at names n)

abbrev pub ids_by : NameState → List Vid → List Vid
ids_by (state.Building worker) ids = []
ids_by _ ids = ids

abbrev pub ids_in : Option Registered → List Vid
ids_in None = []
ids_in (Some r) = ids_by r.state r.ids

-- its identifiers, where it is live or retiring
abbrev pub ids_of : Names → Name → List Vid
ids_of names n = ids_in (registered_at names n)

abbrev pub places_in : Option Registered → ℕ
places_in None = 0
places_in (Some r) = r.places

-- for how many identifiers there are places
abbrev pub places_of : Names → Name → ℕ
places_of names n = places_in (registered_at names n)

abbrev pub users_at : Option Registered → List Key
users_at None = []
users_at (Some r) = r.users

-- the keys that use it, in order
abbrev pub users_of : Names → Name → List Key
users_of names n = users_at (registered_at names n)

abbrev pub is_live : NameState → Bool
is_live state.Live = true
is_live _ = false

-- what can have users
abbrev pub takes_users : NameState → Bool
takes_users state.Live = true
takes_users (state.Building worker) = true
takes_users _ = false

abbrev pub is_retiring : NameState → Bool
is_retiring (state.Retiring worker) = true
is_retiring _ = false

-- the worker whose operation builds it or takes it away
abbrev pub owner_in : NameState → Option ℕ
owner_in (state.Building worker) = Some worker
owner_in (state.Retiring worker) = Some worker
owner_in _ = None

abbrev pub changed_at : Name → (Registered → Registered) → Name × Registered → Name × Registered
changed_at n f e = if is_at (registered_name_cmp n) e.0 then (e.0, f e.1) else e

-- a change of what is known of one name
abbrev pub changed : Names → Name → (Registered → Registered) → Names
changed names n f = map (changed_at n f) names

-- a name that a worker builds comes to be live, with no identifier, and any other stays as it is
abbrev pub finished_in : NameState → Names → Name → Names
finished_in (state.Building worker) names n = changed names n (made_live [])
finished_in _ names n = names

-- the first of some keys whose row is not live
abbrev pub first_not_live : Names → List Key → Option Key
first_not_live names [] = None
first_not_live names (k ∷ ks) = if is_live (state_of names (name.Row k)) then first_not_live names ks else Some k

-- all these names are live
abbrev pub are_live : Names → List Name → Bool
are_live names [] = true
are_live names (n ∷ ns) = is_live (state_of names n) && are_live names ns

-- a worker pins the rows of some keys for a user
abbrev pub pinned : Names → ℕ → Key → List Key → Names
pinned names worker user [] = names
pinned names worker user (k ∷ ks) = pinned (changed names (name.Row k) (with_pin worker user)) worker user ks

-- a worker gives up all its pins
abbrev pub all_released : ℕ → Bool → Names → Names
all_released worker used names = map (λ e. (e.0, released worker used e.1)) names

-- why a worker may not take a name away
abbrev pub retire_refusal_at : Names → ℕ → Name → Option Wait
retire_refusal_at names worker n = option_and_then (retire_refusal worker) (registered_at names n)

-- a name that was retiring is absent
abbrev pub gone_from : Names → Name → Names
gone_from names n = if is_retiring (state_of names n) then remove_entry (is_at (registered_name_cmp n)) names else names

-- the names that each worker pins, as they are noted, with names that it no longer pins among them
abbrev pub Noted : Type 0
Noted = List (ℕ × Vec Name Global)

abbrev pub items_in : Option (Vec Name Global) → List Name
items_in None = []
items_in (Some v) = v.items

abbrev pub noted_by : Noted → ℕ → List Name
noted_by noted worker = items_in (lookup (is_at (nat_cmp worker)) noted)

abbrev pub is_among : Name → List Name → Bool
is_among n names = list_any (λ other. is_at (registered_name_cmp other) n) names

-- each pin of what is known of a name is noted under its worker
abbrev pub IsNoted : Noted → Name × Registered → Type 0
IsNoted noted e = AllByRecursion (λ p. is_among e.0 (noted_by noted p.worker) ≡ true) e.1.pins

abbrev pub AreNoted : Noted → Names → Type 0
AreNoted noted names = AllByRecursion (IsNoted noted) names

-- a worker gives up its pins of these names
abbrev pub each_released : Names → ℕ → Bool → List Name → Names
each_released names worker used [] = names
each_released names worker used (n ∷ ns) = each_released (changed names n (released worker used)) worker used ns
