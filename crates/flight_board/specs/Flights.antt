-- The operation of a row's flight. Own.
use Rattle.std.specs.Prelude.{◌≡◌, ℕ, List, Option, Some, None, Box, option_map}
use Rattle.std.specs.declared.alloc.Global.{Global}
use Rattle.swss_types.specs.declared.vrf.Vrf.{Vrf}
use Rattle.swss_types.specs.declared.vrf.Vrf.TheVariants as vrf
use Rattle.table_schema.specs.declared.key.Key.{Key}
use Rattle.table_schema.specs.declared.key.Key.TheVariants as key
use Rattle.table_schema.specs.declared.row.Row.{Row}
use Rattle.sai_types.specs.declared.weight.WHop.{WHop}
use Rattle.switch_model.specs.Placed.{bare}
use Rattle.row_layout.specs.Rows.{Group, Owner}
use Rattle.ref_counts.specs.declared.name.Name.{Name}
use Rattle.ref_counts.specs.declared.name.Name.TheVariants as name
use Rattle.orch_flight.specs.Grouping.{GroupOperation}
use Rattle.orch_flight.specs.Operation.{Operation}
use Rattle.flight_board.specs.declared.row_flight.RowFlight.{RowFlight}
use Rattle.flight_board.specs.declared.row_flight.RowFlight.TheVariants as flight

-- the operation of a row's flight, of whichever table
abbrev pub operation_of : RowFlight → Operation
operation_of (flight.Port f row) = f
operation_of (flight.Vlan f row) = f
operation_of (flight.Intf f row) = f
operation_of (flight.Neigh f row) = f
operation_of (flight.Route f) = f.operation

-- the group that its new row shares: only routes share groups
abbrev pub shared_group : RowFlight → Option (List WHop)
shared_group (flight.Route f) = f.group
shared_group r = None

-- the operation of a group, where there is a box of it
abbrev pub unboxed : Option (Box GroupOperation Global) → Option GroupOperation
unboxed o = option_map (λ b. b.value) o

-- the key is to have this row
abbrev pub HasRow : RowFlight → Option Row → Type 0
HasRow (flight.Port f row) new = row ≡ new
HasRow (flight.Vlan f row) new = row ≡ new
HasRow (flight.Intf f row) new = row ≡ new
HasRow (flight.Neigh f row) new = row ≡ new
HasRow (flight.Route f) new = option_map bare f.operation.new ≡ new

-- what is left or taken away is no group
abbrev pub IsNoGroup : Option Owner → Type 0
IsNoGroup (Some (Group hops)) = ⊥
IsNoGroup o = Unit {0}

-- an operation that has to do with no group
abbrev pub IsUngrouped : Operation → Type 0
IsUngrouped f = IsNoGroup f.leaves × IsNoGroup f.retires

-- routes alone have to do with groups
abbrev pub HasGroupsOnly : RowFlight → Type 0
HasGroupsOnly (flight.Route f) = Unit {0}
HasGroupsOnly r = IsUngrouped (operation_of r)

-- a key that is no interface's
abbrev pub IsNoIntf : Key → Type 0
IsNoIntf (key.Intf n) = ⊥
IsNoIntf k = Unit {0}

-- interfaces have operations of their table
abbrev pub HasTable : RowFlight → Type 0
HasTable (flight.Intf f row) = Unit {0}
HasTable r = IsNoIntf (operation_of r).key

-- the virtual router in which a key's row is placed: the default one, but for an address
abbrev pub IsPlaceOf : Key → Vrf → Type 0
IsPlaceOf (key.Addr n ip len) v = Unit {0}
IsPlaceOf k v = v ≡ vrf.Default

-- an operation of this worker, of the key with this name, with the row that the key is to have
pub record IsFlightOf (worker : ℕ) (n : Name) (r : RowFlight) : Type 0 where
  pub worker_is : (operation_of r).worker ≡ worker
  pub named : n ≡ name.Row (operation_of r).key
  pub row : HasRow r (option_map bare (operation_of r).new)
  pub groups : HasGroupsOnly r
  pub table : HasTable r
