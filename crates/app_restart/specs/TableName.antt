-- The name of a key's table (SWSS schema), and what it parts rows and writes into.
use Rattle.std.specs.Prelude.{◌≡◌, Bool, not, ◌==◌, ℕ, List, bytes_eq, codes, filter}
use Rattle.std.specs.List.{AllByRecursion, before_first}
use Rattle.table_schema.specs.Rows.{Rows}
use Rattle.table_schema.specs.declared.key.Key.{Key}
use Rattle.table_schema.specs.declared.key.Key.TheVariants as key
use Rattle.table_schema.specs.declared.write.Write.{Write}
use Rattle.table_schema.specs.declared.write.Write.TheVariants as write

-- what stands before the first colon, and all where there is none
abbrev pub before_colon : List ℕ → List ℕ
before_colon text = before_first (λ b. b == 58) text

-- the name of a key's table; of a key that does not read, what stands before its first colon
abbrev pub table_name : Key → List ℕ
table_name (key.Port port) = codes "PORT_TABLE"
table_name (key.Vlan vlan) = codes "VLAN_TABLE"
table_name (key.Vrf n) = codes "VRF_TABLE"
table_name (key.Member vlan port) = codes "VLAN_MEMBER_TABLE"
table_name (key.Intf on) = codes "INTF_TABLE"
table_name (key.Addr on ip len) = codes "INTF_TABLE"
table_name (key.Neigh on ip) = codes "NEIGH_TABLE"
table_name (key.Route v prefix) = codes "ROUTE_TABLE"
table_name (key.Other text) = before_colon text

-- the key is of this table
abbrev pub is_on : List ℕ → Key → Bool
is_on table k = bytes_eq (table_name k) table

-- the rows of a table
abbrev pub rows_of_table : List ℕ → Rows → Rows
rows_of_table table rows = filter (λ row. is_on table row.0) rows

-- the rows of all other tables
abbrev pub rows_elsewhere : List ℕ → Rows → Rows
rows_elsewhere table rows = filter (λ row. not (is_on table row.0)) rows

-- the key of a write
abbrev pub key_of_write : Write → Key
key_of_write (write.Set k fields) = k
key_of_write (write.Del k) = k

-- each of the writes is of a key of this table
abbrev pub AreOn : List ℕ → List Write → Type 0
AreOn table writes = AllByRecursion (λ w. table_name (key_of_write w) ≡ table) writes
