-- When the registry's identifiers are those of the objects that stand. Own.
use Rattle.std.specs.Prelude.{◌≡◌, ◌⊎◌, ◌++◌, ℕ, suc, Bool, true, false, List, [], length, Option, Some, None}
use Rattle.swss_types.specs.declared.interface.IfName.{IfName}
use Rattle.table_schema.specs.Plan.{Ports}
use Rattle.table_schema.specs.declared.key.Key.TheVariants as key
use Rattle.sai_types.specs.declared.weight.WHop.{WHop}
use Rattle.sai_types.specs.declared.ids.Rid.{Rid}
use Rattle.sai_types.specs.declared.ids.Vid.{Vid}
use Rattle.sai_types.specs.declared.thing.PortThing.{PortThing}
use Rattle.sai_types.specs.declared.thing.Thing.{Thing}
use Rattle.sai_types.specs.declared.thing.Thing.TheVariants as thing
use Rattle.sai_types.specs.Alike.{IsIn}
use Rattle.sai_types.specs.Names as thing_name
use Rattle.sai_types.specs.Names.{name_of}
use Rattle.chip_layout.specs.Layout.{has_number}
use Rattle.row_layout.specs.Operations.{Change, Make, Set, Take, make_all}
use Rattle.row_layout.specs.Rows.{Group, Owner}
use Rattle.row_layout.specs.Shared.{shared_things}
use Rattle.switch_machine.specs.Flights.{Machine, StandsIn, own_of}
use Rattle.ref_counts.specs.declared.name.Name.TheVariants as name
use Rattle.ref_counts.specs.declared.name.NameState.{NameState}
use Rattle.ref_counts.specs.declared.name.NameState.TheVariants as state
use Rattle.ref_counts.specs.Registry.{Names, ids_of, state_of}
use Rattle.orch_flight.specs.Calling.{HasVid}
use Rattle.orch_flight.specs.Grouping.{GroupOperation, HasGroupVid}
use Rattle.orch_flight.specs.Needing.{name_for}
use Rattle.orch_flight.specs.Operation.{Operation}
use Rattle.orch_flight.specs.Starting.{ids_for_row}
use Rattle.registry_laws.specs.Flown.{Flown}

-- no object of a chip has the number 0
abbrev pub rid_or_zero : Option Rid → Rid
rid_or_zero None = record { 0 = 0 }
rid_or_zero (Some i) = i

-- the chip's identifier to which an identifier is tied
abbrev pub tie_by : (Vid → Option Rid) → Vid → Rid
tie_by rid v = rid_or_zero (rid v)

-- the operation of a group that a worker has under way
abbrev pub IsUnderWay : (ℕ → Option Flown) → ℕ → GroupOperation → Type 0
IsUnderWay flown worker g = (x : Flown) × (flown worker ≡ Some x) × (x.group ≡ Some g)

-- an operation that builds a group has made the identifier of what has this name
pub record IsVidOfBuilt (plan : Ports) (names : Names) (flown : ℕ → Option Flown) (n : thing_name.ThingName) (v : Vid) : Type 0 where
  pub worker : ℕ
  pub group : GroupOperation
  pub under_way : IsUnderWay flown worker group
  pub builds : group.builds ≡ true
  pub of : HasGroupVid plan names group n v

-- the identifier of what has this name: the registry's; while a group is built its operation has those of the group and of its members
abbrev pub IsVidOf : Ports → Names → (ℕ → Option Flown) → thing_name.ThingName → Vid → Type 0
IsVidOf plan names flown n v = HasVid plan names n v ⊎ IsVidOfBuilt plan names flown n v

-- each object that stands and has an identifier of the chip has one of the service, which is tied to it
pub record Identified (plan : Ports) (names : Names) (rid : Vid → Option Rid) (flown : ℕ → Option Flown) (stands : List (Rid × Thing)) : Type 0 where
  pub each : (i : Rid) (t : Thing) → IsIn (i, t) stands → has_number t ≡ true → (v : Vid) × IsVidOf plan names flown (name_of t) v × (rid v ≡ Some i)

-- of a group that a worker's operation builds the registry knows that the worker builds it
pub record BuildsGroups (names : Names) (flown : ℕ → Option Flown) : Type 0 where
  pub building : (w : ℕ) (g : GroupOperation) → IsUnderWay flown w g → g.builds ≡ true → state_of names (name.Group g.hops) ≡ state.Building w

-- a port among the things stands with the values that it has there, where an attribute of it is set
abbrev pub PortsStand : Machine → List Thing → Change → Type 0
PortsStand m things (Set u) = (p : PortThing) → IsIn (thing.Port p) things → name_of (thing.Port p) ≡ name_of u → StandsIn m (thing.Port p)
PortsStand m things c = Unit {0}

-- a port for which the operation's key has a row now stands so, while the key is to have a row
abbrev pub HoldsPort : Ports → Machine → Operation → Type 0
HoldsPort plan m f = (p : PortThing) → IsIn (thing.Port p) (own_of plan f.key f.now) → (f.new ≡ None → ⊥) → StandsIn m (thing.Port p)

-- a group's name has no identifier, or one of the group and one of each member
pub record HasWholeGroups (names : Names) : Type 0 where
  pub each : (hops : List WHop) → (ids_of names (name.Group hops) ≡ []) ⊎ (length (ids_of names (name.Group hops)) ≡ suc (length hops))

-- a name is live, or goes
abbrev pub is_live_or_going : NameState → Bool
is_live_or_going state.Live = true
is_live_or_going (state.Retiring worker) = true
is_live_or_going _ = false

-- the name of an interface that is live or goes has the identifier of its router interface, and that of a Loopback has none
pub record HasWholeInterfaces (names : Names) : Type 0 where
  pub each : (n : IfName) → is_live_or_going (state_of names (name.Row (key.Intf n))) ≡ true → length (ids_of names (name.Row (key.Intf n))) ≡ ids_for_row (key.Intf n)

-- ---- what keeps identifiers

-- each name has the identifiers that it had
abbrev pub HaveSameIds : Names → Names → Type 0
HaveSameIds names names' = (o : Owner) → ids_of names' (name_for o) ≡ ids_of names (name_for o)

-- each group that is built is still under way, as it was
abbrev pub KeepsBuilds : (ℕ → Option Flown) → (ℕ → Option Flown) → Type 0
KeepsBuilds flown flown' = (w : ℕ) (g : GroupOperation) → IsUnderWay flown w g → g.builds ≡ true → IsUnderWay flown' w g

-- each identifier is tied as it was
abbrev pub KeepsTies : (Vid → Option Rid) → (Vid → Option Rid) → Type 0
KeepsTies rid rid' = (v : Vid) (i : Rid) → rid v ≡ Some i → rid' v ≡ Some i

-- how identifiers are tied once a change has taken effect, which may have made this one for that of the chip: one that was made is tied, and one of what was taken away need not be any more
abbrev pub TiesAfter : Ports → Names → (Vid → Option Rid) → (Vid → Option Rid) → Change → Option Vid → Rid → Type 0
TiesAfter plan names rid rid' (Make t) made i = KeepsTies rid rid' × (has_number t ≡ true → (v : Vid) × (made ≡ Some v) × (rid' v ≡ Some i))
TiesAfter plan names rid rid' (Set u) made i = KeepsTies rid rid'
TiesAfter plan names rid rid' (Take n) made i = (v : Vid) (j : Rid) → (HasVid plan names n v → ⊥) → rid v ≡ Some j → rid' v ≡ Some j

-- ---- a group that is built

-- the things of the group that are still due are the last of all, and the identifiers made are those of the others
pub record IsPartlyBuilt (g : GroupOperation) : Type 0 where
  pub before : List Thing
  pub after : List Thing
  pub things : shared_things (Group g.hops) ≡ before ++ after
  pub made : length g.made ≡ length before
  pub due : g.due ≡ make_all after []

-- once a change of the group has taken effect the other workers' operations are under way, and its own, while more is due
pub record FliesOn (flown flown' : ℕ → Option Flown) (worker : ℕ) (g : GroupOperation) : Type 0 where
  pub others : (v : ℕ) (h : GroupOperation) → (v ≡ worker → ⊥) → IsUnderWay flown v h → IsUnderWay flown' v h
  pub own : (g.due ≡ [] → ⊥) → IsUnderWay flown' worker g
