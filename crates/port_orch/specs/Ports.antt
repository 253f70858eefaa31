-- The operation of a port, as far as it is made: its row is made, its values are set one after the other, or it is removed. The order of calls is that of SONiC's orchestration agent.
use Rattle.std.specs.Prelude.{◌≡◌, ℕ, ◌==◌, Bool, true, false, List, [], ◌∷◌, Option, Some, None, option_map, if◌then◌else◌}
use Rattle.table_schema.specs.declared.key.Key.{Key}
use Rattle.table_schema.specs.declared.key.Key.TheVariants as key
use Rattle.table_schema.specs.declared.row.PortRow.{PortRow}
use Rattle.switch_model.specs.Placed.{Placed as Row}
use Rattle.switch_model.specs.Placed as row
use Rattle.sai_types.specs.declared.ids.Vid.{Vid}
use Rattle.sai_types.specs.declared.body.Attr.{Attr}
use Rattle.sai_types.specs.declared.body.Attr.TheVariants as attr
use Rattle.sai_types.specs.declared.body.Body.{Body}
use Rattle.sai_types.specs.declared.body.Body.TheVariants as body
use Rattle.sai_types.specs.declared.thing.Thing.{Thing}
use Rattle.sai_types.specs.Named.{first_lane}
use Rattle.sai_types.specs.Names as name
use Rattle.row_layout.specs.Operations.{Change, Make, Take, thing_of_port, set_to}
use Rattle.orch_flight.specs.Operation.{Operation}

abbrev pub IsPortKey : Key → Type 0
IsPortKey (key.Port port) = Unit {0}
IsPortKey _ = ⊥

abbrev pub port_thing : PortRow → Thing
port_thing r = thing_of_port r.lanes r.speed r.mtu r.up

abbrev pub port_body : PortRow → Body Vid
port_body r = body.Port r.lanes r.speed r.mtu r.up

-- from one row to another: the speed, the mtu and whether it is up, each where it differs
abbrev pub port_sets : PortRow → PortRow → List Change
port_sets a r =
    set_to (thing_of_port a.lanes a.speed a.mtu a.up) (thing_of_port a.lanes r.speed a.mtu a.up)
    (set_to (thing_of_port a.lanes r.speed a.mtu a.up) (thing_of_port a.lanes r.speed r.mtu a.up)
    (set_to (thing_of_port a.lanes r.speed r.mtu a.up) (thing_of_port a.lanes r.speed r.mtu r.up) []))

-- what is due for a port whose things stand as for the first row, and that is to have the second
abbrev pub port_due : Bool → Option PortRow → Option PortRow → List Change
port_due true now new = []
port_due false None None = []
port_due false None (Some r) = Make (port_thing r) ∷ []
port_due false (Some a) (Some r) = port_sets a r
port_due false (Some a) None = Take (name.Port (first_lane a.lanes)) ∷ []

abbrev pub port_operation : ℕ → ℕ → Bool → Option PortRow → Option PortRow → Operation
port_operation worker port done now new = record { worker = worker; key = key.Port port; now = option_map row.Port now; new = option_map row.Port new; due = port_due done now new; leaves = None; retires = None }

abbrev pub are_alike : Bool → Bool → Bool
are_alike true b = b
are_alike false true = false
are_alike false false = true

-- the first value that differs
abbrev pub first_attr : PortRow → PortRow → Option (Attr Vid)
first_attr a r = if a.speed == r.speed then (if a.mtu == r.mtu then (if are_alike a.up r.up then None else Some (attr.Up r.up)) else Some (attr.Mtu r.mtu)) else Some (attr.Speed r.speed)

-- a row with that value set
abbrev pub stepped : PortRow → PortRow → PortRow
stepped a r = if a.speed == r.speed then (if a.mtu == r.mtu then record a { up = r.up } else record a { mtu = r.mtu }) else record a { speed = r.speed }

-- a row is a port's, where there is one
abbrev pub IsPortRow : Option Row → Type 0
IsPortRow None = Unit {0}
IsPortRow (Some (row.Port r)) = Unit {0}
IsPortRow (Some _) = ⊥

-- an operation of which nothing is made
abbrev pub IsPortStart : ℕ → Key → Option Row → Option Row → Operation → Type 0
IsPortStart worker k old new operation = (port : ℕ) × (now : Option PortRow) × (next : Option PortRow) × (k ≡ key.Port port) × (old ≡ option_map row.Port now) × (new ≡ option_map row.Port next) × (operation ≡ port_operation worker port false now next)
