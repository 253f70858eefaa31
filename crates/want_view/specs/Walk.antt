-- Rows gone over in key order, with the keys that are ready so far and the things of their rows. Own.
use Rattle.std.specs.Prelude.{Bool, List, [], ◌∷◌, Option, Some, None, if◌then◌else◌}
use Rattle.std.specs.BTreeMap.{is_at}
use Rattle.std.specs.BTreeSet.{insert_key}
use Rattle.std.specs.List.{list_all, list_any}
use Rattle.swss_types.specs.declared.vrf.Vrf.{Vrf}
use Rattle.table_schema.specs.Key.{key_cmp}
use Rattle.table_schema.specs.Names.{names_of}
use Rattle.table_schema.specs.Plan.{Ports}
use Rattle.table_schema.specs.Rows.{Rows}
use Rattle.table_schema.specs.declared.key.Key.{Key}
use Rattle.table_schema.specs.declared.row.Row.{Row}
use Rattle.sai_types.specs.declared.thing.Thing.{Thing}
use Rattle.sai_types.specs.Order.{thing_cmp}
use Rattle.switch_model.specs.Good.{TypedRows, good_row}
use Rattle.switch_model.specs.Placed.{place, router_in}
use Rattle.switch_model.specs.Things.{things_of}

-- things with these put among them, each in its place
abbrev pub with_things : List Thing → List Thing → List Thing
with_things things [] = things
with_things things (t ∷ ts) = with_things (insert_key thing_cmp things t) ts

-- whether a key is ready
abbrev pub is_ready : List Key → Key → Bool
is_ready ready k = list_any (is_at (key_cmp k)) ready

-- a row that reads is ready where all that it names is, and has its things then, in this router where it is an address
abbrev pub after_row : Ports → Vrf → Key → Option Row → (List Key × List Thing) → (List Key × List Thing)
after_row plan v k None so_far = so_far
after_row plan v k (Some r) so_far =
    if list_all (is_ready so_far.0) (names_of k r) then (insert_key key_cmp so_far.0 k, with_things so_far.1 (things_of plan k (place v r))) else so_far

-- row after row, an address in the router of its interface's good row
abbrev pub walk : Ports → TypedRows → Rows → (List Key × List Thing) → (List Key × List Thing)
walk plan good [] so_far = so_far
walk plan good (row ∷ rows) so_far = walk plan good rows (after_row plan (router_in good row.0) row.0 (good_row plan row.0 (Some row.1)) so_far)
