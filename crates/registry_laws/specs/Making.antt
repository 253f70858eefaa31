-- The next call for what a worker has under way, and what becomes of that when the call has taken effect. Own.
use Rattle.std.specs.Prelude.{◌≡◌, ℕ, true, false, List, [], ◌∷◌, Option, Some, None, if◌then◌else◌}
use Rattle.table_schema.specs.Plan.{Ports}
use Rattle.sai_types.specs.declared.body.Call.{Call}
use Rattle.sai_types.specs.declared.weight.WHop.{WHop}
use Rattle.sai_types.specs.declared.ids.Vid.{Vid}
use Rattle.row_layout.specs.Operations.{Change}
use Rattle.ref_counts.specs.declared.next.Next.TheVariants as next
use Rattle.ref_counts.specs.Registry.{Names}
use Rattle.orch_flight.specs.Calling.{IsNextOf, KnowsIds}
use Rattle.orch_flight.specs.Grouping.{GroupOperation, IsGroupNextOf, IsGroupTook, KnowsGroupIds, MayTakeGroup, first_group}
use Rattle.orch_flight.specs.Operation.{Operation}
use Rattle.orch_flight.specs.Taking.{IsTook, MayTake}
use Rattle.registry_laws.specs.Flown.{Flown, group_to_build, group_to_take}

-- the operation of a group that is due begins
abbrev pub group_begun : Ports → ℕ → Option (List WHop) → Option (List WHop) → Option GroupOperation
group_begun plan worker (Some hops) other = Some (first_group plan worker hops true)
group_begun plan worker None (Some hops) = Some (first_group plan worker hops false)
group_begun plan worker None None = None

abbrev pub group_or : Option GroupOperation → Option GroupOperation → Option GroupOperation
group_or None other = other
group_or (Some g) other = Some g

abbrev pub with_group_begun : Ports → Names → Flown → Flown
with_group_begun plan names x = record { operation = x.operation; group = group_or x.group (group_begun plan x.operation.worker (group_to_build plan names x.operation) (group_to_take x.operation)) }

-- ---- the next call: of the group, or else of the row's operation

-- the registry knows the identifiers that it needs
abbrev pub KnowsNext : Names → Operation → Option GroupOperation → Type 0
KnowsNext names f None = KnowsIds names f
KnowsNext names f (Some g) = KnowsGroupIds names g

abbrev pub IsNextCall : Ports → Names → Operation → Option GroupOperation → Call Vid → Type 0
IsNextCall plan names f None c = IsNextOf plan names f (next.Call c)
IsNextCall plan names f (Some g) c = IsGroupNextOf plan names g (next.Call c)

-- ---- its effect

abbrev pub MayTakeFor : Operation → Option GroupOperation → Option Vid → Names → Type 0
MayTakeFor f None made names = MayTake f made names
MayTakeFor f (Some g) made names = MayTakeGroup g made names

-- what is left of a group's operation: nothing once the group is built; one that is taken away is over with the row's
abbrev pub left_of_group_by : GroupOperation → List Change → Option GroupOperation
left_of_group_by g [] = if g.builds then None else Some g
left_of_group_by g (c ∷ cs) = Some g

abbrev pub TookFor : Operation → Option GroupOperation → Option Vid → Names → Flown → Names → Type 0
TookFor f None made names x names' = (f' : Operation) × IsTook f made names f' names' × (x ≡ record { operation = f'; group = None })
TookFor f (Some g) made names x names' = (g' : GroupOperation) × IsGroupTook g made names g' names' × (x ≡ record { operation = f; group = left_of_group_by g' g'.due })
