-- What a worker has under way, and what is due for it. Own.
use Rattle.std.specs.Prelude.{◌==◌, ◌&&◌, ◌++◌, ℕ, Bool, true, false, List, [], ◌∷◌, Option, Some, None, if◌then◌else◌}
use Rattle.table_schema.specs.Plan.{Ports}
use Rattle.sai_types.specs.declared.kind.Kind.{Kind}
use Rattle.sai_types.specs.declared.kind.Kind.TheVariants as kind
use Rattle.sai_types.specs.declared.weight.WHop.{WHop}
use Rattle.sai_types.specs.Objects.{level}
use Rattle.row_layout.specs.Operations.{Change, uses_of}
use Rattle.row_layout.specs.Rows.{Group, Owner}
use Rattle.switch_machine.specs.Flights.{MachineFlight, goes_over}
use Rattle.switch_machine.specs.Places.{sum_below}
use Rattle.ref_counts.specs.declared.name.Name.TheVariants as name
use Rattle.ref_counts.specs.declared.name.NameState.{NameState}
use Rattle.ref_counts.specs.declared.name.NameState.TheVariants as state
use Rattle.ref_counts.specs.Registry.{Names, state_of}
use Rattle.orch_flight.specs.Grouping.{GroupOperation, first_group_due}
use Rattle.orch_flight.specs.Operation.{Operation, is_between}
use Rattle.orch_flight.specs.Taking.{to_list}

-- the operation of a row, and that of a group, while one is built before the row's or taken away after it
pub record Flown : Type 0 where
  pub operation : Operation
  pub group : Option GroupOperation

-- an operation, as the machine has it: its applied row goes where there is no new one, or an interface in another router
abbrev pub flight_of : Operation → MachineFlight
flight_of f = record { key = f.key; new = f.new; leaves = f.leaves; retires = f.retires; goes = goes_over f.key f.now f.new }

-- the group among what is shared
abbrev pub group_in : List Owner → Option (List WHop)
group_in [] = None
group_in (Group hops ∷ os) = Some hops
group_in (o ∷ os) = group_in os

abbrev pub is_built_by : ℕ → NameState → Bool
is_built_by worker (state.Building other) = other == worker
is_built_by worker _ = false

abbrev pub built_in : Names → ℕ → Option (List WHop) → Option (List WHop)
built_in names worker None = None
built_in names worker (Some hops) = if is_built_by worker (state_of names (name.Group hops)) then Some hops else None

-- the group that the worker builds for the new row, and the one that it takes away
abbrev pub group_to_build : Ports → Names → Operation → Option (List WHop)
group_to_build plan names f = built_in names f.worker (group_in (uses_of plan f.key f.new))

abbrev pub group_to_take : Operation → Option (List WHop)
group_to_take f = group_in (to_list f.retires)

abbrev pub whole_group : Option (List WHop) → Option (List WHop) → List Change
whole_group (Some hops) other = first_group_due hops true
whole_group None (Some hops) = first_group_due hops false
whole_group None None = []

abbrev pub left_of_group : Option GroupOperation → List Change → List Change
left_of_group None whole = whole
left_of_group (Some g) whole = g.due

-- the changes of a group that are due: those that its operation has left, or all of them, where that has not begun
abbrev pub group_changes : Ports → Names → Flown → List Change
group_changes plan names x = left_of_group x.group (whole_group (group_to_build plan names x.operation) (group_to_take x.operation))

-- all that is due for the worker: a group is built before the row's own changes, and goes after them
abbrev pub due_for : Ports → Names → Flown → List Change
due_for plan names x = group_changes plan names x ++ x.operation.due

-- ---- places

-- what counts as still there though it is not: the router interface of an operation that stands between its removal and its creation
abbrev pub still_there : Kind → Option Flown → ℕ
still_there k None = 0
still_there k (Some x) = if is_between x.operation && (level kind.Rif == level k) then 1 else 0

-- and of all four workers
abbrev pub still_there_in_all : (ℕ → Option Flown) → Kind → ℕ
still_there_in_all flown k = sum_below 4 (λ w. still_there k (flown w))
