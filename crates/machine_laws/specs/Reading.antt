-- What each key that was read is. Own.
use Rattle.std.specs.Prelude.{◌≡◌, Some}
use Rattle.swss_types.specs.Address.{IsProperPrefix}
use Rattle.table_schema.specs.KeyText.{on_switch}
use Rattle.table_schema.specs.declared.key.Key.{Key}
use Rattle.table_schema.specs.declared.key.Key.TheVariants as key

-- a neighbour is on an interface of the switch, not on a loopback one, and a route's prefix is proper: each key that a text is is so
abbrev pub IsOnSwitch : Key → Type 0
IsOnSwitch (key.Neigh on ip) = on_switch (Some on) ≡ Some on
IsOnSwitch (key.Route v prefix) = IsProperPrefix prefix
IsOnSwitch _ = Unit {0}
