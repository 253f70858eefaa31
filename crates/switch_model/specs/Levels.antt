-- Levels of keys: a row names only keys of lower levels, and lower levels come first in the order of keys. Own.
use Rattle.std.specs.Prelude.{ℕ}
use Rattle.table_schema.specs.declared.key.Key.{Key}
use Rattle.table_schema.specs.declared.key.Key.TheVariants as key

-- ports, VLANs and virtual routers; members and interfaces; addresses and neighbours; routes, and keys that do not read
abbrev pub level_of : Key → ℕ
level_of (key.Port port) = 0
level_of (key.Vlan vlan) = 0
level_of (key.Vrf n) = 0
level_of (key.Member vlan port) = 1
level_of (key.Intf on) = 1
level_of (key.Addr on ip len) = 2
level_of (key.Neigh on ip) = 2
level_of (key.Route v prefix) = 3
level_of (key.Other text) = 3
