-- Users beside places that are kept for keys that may come to be users.
use Rattle.std.specs.Prelude.{◌≡◌, ◌<◌, true, Bool, not, ◌||◌, List, [], ◌∷◌, ◌++◌, Option, Some, None, false, if◌then◌else◌}
use Rattle.std.specs.BTreeMap.{is_at}
use Rattle.std.specs.List.{AllByRecursion, list_any}
use Rattle.std.specs.Map.{lookup}
use Rattle.std.specs.Option.{is_some}
use Rattle.late_maps.specs.Segments.{renamed}
use Rattle.table_schema.specs.Key.{key_cmp, table_place}
use Rattle.table_schema.specs.declared.key.Key.{Key}
use Rattle.ref_counts.specs.declared.pin.Pin.{Pin}
use Rattle.ref_counts.specs.declared.destination.Destination.{Destination}
use Rattle.ref_counts.specs.Parted.{place_of_routes, route_key}
use Rattle.ref_counts.specs.Registered.{IsReadable}

-- keys, each with whether it is a user whatever pins there are: the others are users where no pin is for them
abbrev pub Kept : Type 0
Kept = List (Key × Bool)

-- keys before those of the routes: all readable keys but those of the routes
abbrev pub ComesBeforeRoutes : Key → Type 0
ComesBeforeRoutes k = table_place k < place_of_routes

-- keys before those of the routes, and then the routes
abbrev pub with_routes : Kept → List (Destination × Bool) → Kept
with_routes rows routes = rows ++ renamed route_key routes

abbrev pub marked_in : Kept → List Key
marked_in [] = []
marked_in (e ∷ es) = if e.1 then e.0 ∷ marked_in es else marked_in es

abbrev pub is_pinned : List Pin → Key → Bool
is_pinned pins user = list_any (λ p. is_at (key_cmp user) p.user) pins

-- keys, each with whether it is a user, where some keys wait for their pins
abbrev pub settled : (Key → Bool) → Kept → Kept
settled waits [] = []
settled waits (e ∷ es) = (e.0, e.1 || not (waits e.0)) ∷ settled waits es

abbrev pub users_in : Kept → List Pin → List Key
users_in kept pins = marked_in (settled (is_pinned pins) kept)

-- whether a place is for a key that is a user only where no pin is for it
abbrev pub is_waiting : Option Bool → Bool
is_waiting (Some uses) = not uses
is_waiting None = false

-- there is a place for the key
abbrev pub HasKeptPlace : Kept → Key → Type 0
HasKeptPlace kept user = is_some (lookup (is_at (key_cmp user)) kept) ≡ true

-- the key of each pin has a place
abbrev pub HavePlaces : Kept → List Pin → Type 0
HavePlaces kept pins = AllByRecursion (λ p. HasKeptPlace kept p.user) pins

abbrev pub AreReadable : Kept → Type 0
AreReadable kept = AllByRecursion (λ e. IsReadable e.0) kept
