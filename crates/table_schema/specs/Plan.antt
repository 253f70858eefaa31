-- The port plan: ports by their numbers, with their lanes. Own.
use Rattle.std.specs.Prelude.{◌≡◌, ℕ, ◌+◌, ◌≤◌, ◌==◌, nat_lt, Bool, true, false, ◌||◌, List, [], ◌∷◌, length, slice_index, Option, Some, None, is_some, Result, Ok, Err, if◌then◌else◌}
use Rattle.std.specs.BTreeMap.{insert_entry, is_at}
use Rattle.std.specs.List.{AllByRecursion, list_any}
use Rattle.std.specs.Map.{lookup}
use Rattle.std.specs.Ordering.{nat_cmp}
use Rattle.swss_types.specs.Interface.{if_name_of}
use Rattle.swss_types.specs.Lanes.{lanes_of, IsLaneList}
use Rattle.swss_types.specs.declared.interface.IfName.{IfName}
use Rattle.swss_types.specs.declared.interface.IfName.TheVariants as name
use Rattle.table_schema.specs.Fields.{HasRisingKeys}
use Rattle.table_schema.specs.Split.{split_once}
use Rattle.table_schema.specs.declared.plan.TheConstants.{MOST_PORTS}
use Rattle.table_schema.specs.declared.plan.PlanWhy.{PlanWhy}
use Rattle.table_schema.specs.declared.plan.PlanWhy.TheVariants.{BadName, BadLanes, LaneTwice, NameTwice, TooManyPorts}

-- each port's number and lanes, in the order of the numbers
abbrev pub Ports : Type 0
Ports = List (ℕ × List ℕ)

-- the lane is one of these
abbrev pub has : List ℕ → ℕ → Bool
has lanes lane = list_any (λ l. l == lane) lanes

-- some port has the lane
abbrev pub has_lane : Ports → ℕ → Bool
has_lane [] lane = false
has_lane (p ∷ ps) lane = has p.1 lane || has_lane ps lane

-- the first of these lanes that some port has
abbrev pub first_taken : Ports → List ℕ → Option ℕ
first_taken ports [] = None
first_taken ports (lane ∷ lanes) = if has_lane ports lane then Some lane else first_taken ports lanes

-- the port whose first lane it is
abbrev pub port_named : Ports → ℕ → Option ℕ
port_named [] lane = None
port_named (p ∷ ps) lane = if slice_index p.1 0 == lane then Some p.0 else port_named ps lane

-- the lanes of a port
abbrev pub lanes_in_plan : Ports → ℕ → Option (List ℕ)
lanes_in_plan ports port = lookup (is_at (nat_cmp port)) ports

-- no lane is in two ports
abbrev pub HaveOwnLanes : Ports → Type 0
HaveOwnLanes [] = Unit {0}
HaveOwnLanes (p ∷ ps) = ((lane : ℕ) → has p.1 lane ≡ true → has_lane ps lane ≡ false) × HaveOwnLanes ps

-- what holds of every port plan
pub record IsPlan (ports : Ports) : Type 0 where
  pub few : length ports ≤ MOST_PORTS
  pub rising : HasRisingKeys nat_cmp ports
  pub lanes : AllByRecursion (λ p. IsLaneList p.1) ports
  pub apart : HaveOwnLanes ports

-- the number of a port's name
abbrev pub port_of : Option IfName → Option ℕ
port_of None = None
port_of (Some (name.Ethernet port)) = Some port
port_of (Some (name.Vlan vlan)) = None
port_of (Some (name.Loopback number)) = None

-- a port and its lanes
abbrev pub port_with : Option ℕ → Option (List ℕ) → Result (ℕ × List ℕ) PlanWhy
port_with None lanes = Err BadName
port_with (Some port) None = Err BadLanes
port_with (Some port) (Some lanes) = Ok (port, lanes)

-- a line without a space has a name alone
abbrev pub line_parts : List ℕ → Option (List ℕ × List ℕ) → Result (ℕ × List ℕ) PlanWhy
line_parts line None = port_with (port_of (if_name_of line)) None
line_parts line (Some parts) = port_with (port_of (if_name_of parts.0)) (lanes_of parts.1)

-- the port of a line: a name, a space and lanes
abbrev pub line_of : List ℕ → Result (ℕ × List ℕ) PlanWhy
line_of line = line_parts line (split_once 32 line)

abbrev pub lane_fault : ℕ → Option ℕ → Option PlanWhy
lane_fault ports (Some lane) = Some (LaneTwice lane)
lane_fault ports None = if nat_lt ports MOST_PORTS then None else Some TooManyPorts

-- why a port cannot be added to a plan: its name is there, or its first lane that is there, or the plan is full
abbrev pub port_fault : Ports → (ℕ × List ℕ) → Option PlanWhy
port_fault ports port = if is_some (lanes_in_plan ports port.0) then Some NameTwice else lane_fault (length ports) (first_taken ports port.1)

abbrev pub unless : Option PlanWhy → Ports → Result Ports PlanWhy
unless None ports = Ok ports
unless (Some why) ports = Err why

abbrev pub with_line : Ports → Result (ℕ × List ℕ) PlanWhy → Result Ports PlanWhy
with_line ports (Err why) = Err why
with_line ports (Ok port) = unless (port_fault ports port) (insert_entry nat_cmp ports port.0 port.1)

-- a plan with the port of a line more, or the line's first fault
abbrev pub plan_step : Ports → List ℕ → Result Ports PlanWhy
plan_step ports line = with_line ports (line_of line)

-- a fault with the number of its line
abbrev pub fault_numbered : ℕ → PlanWhy → Result Ports (ℕ × PlanWhy)
fault_numbered number why = Err (number, why)

-- the plan of the lines behind a plan, the first of them with this number
abbrev pub plan_from : Result Ports PlanWhy → ℕ → List (List ℕ) → Result Ports (ℕ × PlanWhy)
plan_from (Err why) number lines = fault_numbered number why
plan_from (Ok ports) number [] = Ok ports
plan_from (Ok ports) number (line ∷ lines) = plan_from (plan_step ports line) (number + 1) lines

-- the plan of lines that are numbered from 1, or the number of the first faulty line and its fault
abbrev pub plan_of : List (List ℕ) → Result Ports (ℕ × PlanWhy)
plan_of lines = plan_from (Ok []) 0 lines
