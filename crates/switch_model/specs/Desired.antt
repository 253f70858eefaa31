-- Which rows are to stand on the chip, and what is to stand there then. Own: a row is ready where all that it names is ready.
use Rattle.std.specs.Prelude.{◌≡◌, ℕ, zero, suc, Bool, true, ◌&&◌, List, [], ◌∷◌, Option, Some, None, if◌then◌else◌}
use Rattle.std.specs.Option.{is_some}
use Rattle.table_schema.specs.declared.key.Key.{Key}
use Rattle.table_schema.specs.declared.row.Row.{Row}
use Rattle.table_schema.specs.Names.{names_of}
use Rattle.table_schema.specs.Plan.{Ports}
use Rattle.sai_types.specs.declared.thing.Thing.{Thing}
use Rattle.sai_types.specs.Alike.{IsIn}
use Rattle.switch_model.specs.Good.{TypedRows, good_rows}
use Rattle.table_schema.specs.Rows.{Rows}
use Rattle.switch_model.specs.Placed.{place, router_in}
use Rattle.switch_model.specs.Things.{things_of}

-- whether each of these keys has a row
abbrev pub have_rows : TypedRows → List Key → Bool
have_rows rows [] = true
have_rows rows (key ∷ keys) = is_some (rows key) && have_rows rows keys

abbrev pub where_named : TypedRows → Key → Option Row → Option Row
where_named ready key None = None
where_named ready key (Some row) = if have_rows ready (names_of key row) then Some row else None

-- the ready rows of the lowest levels
abbrev pub ready_below : ℕ → TypedRows → TypedRows
ready_below zero rows key = None
ready_below (suc level) rows key = where_named (ready_below level rows) key (rows key)

-- the ready rows, taken level by level: ports, VLANs and virtual routers; members and interfaces; addresses and neighbours; routes
abbrev pub ready_rows : TypedRows → TypedRows
ready_rows rows = ready_below 4 rows

-- rows are closed where each of them names only rows that are among them
abbrev pub IsClosed : TypedRows → Type 0
IsClosed rows = (key : Key) (row : Row) → rows key ≡ Some row → have_rows rows (names_of key row) ≡ true

-- the things that a row of this key has among these rows: an address is in the router of its interface's row
abbrev pub placed_things : Ports → TypedRows → Key → Row → List Thing
placed_things plan rows key row = things_of plan key (place (router_in rows key) row)

-- the things of rows, as a set
abbrev pub IsThingOf : Ports → TypedRows → Thing → Type 0
IsThingOf plan rows thing = (key : Key) × (row : Row) × (rows key ≡ Some row) × IsIn thing (placed_things plan rows key row)

-- the desired view of the tables: the things of the ready good rows
abbrev pub desired_view : Ports → Rows → Thing → Type 0
desired_view plan rows = IsThingOf plan (ready_rows (good_rows plan rows))
