-- The applied rows as they are kept: with places for those of keys that are to have one. Own.
use Rattle.std.specs.Prelude.{◌≡◌, cond, List, Option, Some, None, IsSome}
use Rattle.std.specs.BTreeMap.{is_at}
use Rattle.std.specs.Map.{lookup}
use Rattle.table_schema.specs.Key.{key_cmp}
use Rattle.table_schema.specs.declared.key.Key.{Key}
use Rattle.table_schema.specs.declared.row.Row.{Row}
use Rattle.switch_model.specs.Placed.{Placed, placed_rows, router_in}
use Rattle.orch_flight.specs.Starting.{in_place}

-- keys with their rows, or with a place alone
abbrev pub Entries : Type 0
Entries = List (Key × Option Row)

-- what stands in a key's place
abbrev pub place_at : Entries → Key → Option (Option Row)
place_at entries k = lookup (is_at (key_cmp k)) entries

-- the row in a place, where there are both
abbrev pub row_in : Option (Option Row) → Option Row
row_in None = None
row_in (Some o) = o

-- the applied row of a key
abbrev pub row_at : Entries → Key → Option Row
row_at entries k = row_in (place_at entries k)

-- the applied row of a key in its place
abbrev pub placed_at : Entries → Key → Option Placed
placed_at entries k = placed_rows (row_at entries) k

-- and a row that the key is to have: an address in the router of its interface's applied row
abbrev pub placed_for : Entries → Key → Option Row → Option Placed
placed_for entries k new = in_place (router_in (row_at entries) k) new

-- a key has a place, with a row in it or none
abbrev pub HasPlace : Entries → Key → Type 0
HasPlace entries k = IsSome (place_at entries k)

-- the rows stay
abbrev pub HasSameRows : Entries → Entries → Type 0
HasSameRows old new = (q : Key) → row_at new q ≡ row_at old q

-- the rows and places of other keys stay
pub record KeepsOthers (k : Key) (old new : Entries) : Type 0 where
  pub rows : (q : Key) → (q ≡ k → ⊥) → row_at new q ≡ row_at old q
  pub places : (q : Key) → (q ≡ k → ⊥) → HasPlace old q → HasPlace new q

-- what stands in a key's place becomes w, and other keys keep theirs
abbrev pub SetsPlace : Key → Option (Option Row) → Entries → Entries → Type 0
SetsPlace k w old new = (q : Key) → place_at new q ≡ cond (is_at (key_cmp k) q) w (place_at old q)
