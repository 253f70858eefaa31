-- Rows as they were read. Own.
use Rattle.std.specs.Prelude.{◌≡◌, Bool, true, false, List, Option, Some, None, if◌then◌else◌}
use Rattle.std.specs.BTreeMap.{is_at}
use Rattle.std.specs.Map.{lookup}
use Rattle.table_schema.specs.Key.{key_cmp}
use Rattle.table_schema.specs.Plan.{Ports}
use Rattle.table_schema.specs.Rows.{Rows, fields_at}
use Rattle.table_schema.specs.declared.key.Key.{Key}
use Rattle.table_schema.specs.declared.key.Key.TheVariants as key
use Rattle.table_schema.specs.declared.row.Row.{Row}
use Rattle.switch_model.specs.Good.{good_row}

abbrev pub read_at : List (Key × Row) → Key → Option Row
read_at read key = lookup (is_at (key_cmp key)) read

-- each is the row that its key has, whatever the port plan
abbrev pub AreRead : Rows → List (Key × Row) → Type 0
AreRead rows read = (key : Key) (row : Row) → read_at read key ≡ Some row → (plan : Ports) → good_row plan key (fields_at rows key) ≡ Some row

-- this key has none, and each other key what it had
abbrev pub IsKeyForgotten : List (Key × Row) → Key → List (Key × Row) → Type 0
IsKeyForgotten old key new = (other : Key) → read_at new other ≡ (if is_at (key_cmp other) key then None else read_at old other)

-- the tables whose rows do not depend on the port plan, of those whose rows take long to read
abbrev pub is_plan_free : Key → Bool
is_plan_free (key.Port port) = false
is_plan_free (key.Vlan vlan) = false
is_plan_free (key.Vrf n) = false
is_plan_free (key.Member vlan port) = false
is_plan_free (key.Intf on) = false
is_plan_free (key.Addr on ip len) = false
is_plan_free (key.Neigh on ip) = true
is_plan_free (key.Route v prefix) = true
is_plan_free (key.Other text) = false
