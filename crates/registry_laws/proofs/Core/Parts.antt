-- groups that are under way are partly built
use Rattle.std.proofs.Common.{◌≡◌, ◌⊎◌, ◌∷◌, ◌++◌, ◌∙◌, inl, inr, ℕ, suc, true, false, List, [], length, Option, Some, refl, sym, ap}
use Rattle.table_schema.specs.Plan.{Ports}
use Rattle.sai_types.specs.declared.thing.Thing.{Thing}
use Rattle.row_layout.specs.Operations.{Change, make_all, uses_of}
use Rattle.row_layout.specs.Rows as owner
use Rattle.row_layout.specs.Shared.{shared_things}
use Rattle.switch_machine.specs.Flights.{Machine}
use Rattle.ref_counts.specs.declared.name.Name.TheVariants as name
use Rattle.ref_counts.specs.declared.name.NameState.TheVariants as state
use Rattle.ref_counts.specs.Registry.{Names, state_of}
use Rattle.ref_counts.specs.Room.{RoomState}
use Rattle.orch_flight.specs.Grouping.{GroupOperation, first_group_due}
use Rattle.orch_flight.specs.Operation.{Operation}
use Rattle.registry_laws.specs.Flown.{Flown, group_in, group_to_build, group_to_take}
use Rattle.registry_laws.specs.Flying.{IsGroupFlown, KnowsBoard}
use Rattle.registry_laws.proofs.Aside.{built_state}
use Rattle.registry_laws.proofs.Grouped.{taken_group}
use Rattle.registry_laws.proofs.Replied.{same_rest}
use Rattle.registry_laws.specs.Identified.{BuildsGroups, IsPartlyBuilt, IsUnderWay}

-- the changes that are left of those that make some things
record IsLeft (things : List Thing) (before due : List Change) : Type 0 where
  first : List Thing
  last : List Thing
  both : things ≡ first ++ last
  count : length before ≡ length first
  left : due ≡ make_all last []

left_of : (things : List Thing) (before due : List Change) → make_all things [] ≡ before ++ due → IsLeft things before due
left_of things [] due e = record { first = []; last = things; both = refl; count = refl; left = sym e }
left_of [] (c ∷ cs) due e = absurd cc
left_of (t ∷ ts) (c ∷ cs) due e =
    let rest = left_of ts cs due (same_rest _ c (make_all ts []) (cs ++ due) e) in
    record { first = t ∷ rest.first; last = rest.last; both = ap (λ l. t ∷ l) rest.both; count = ap suc rest.count; left = rest.left }

module _ (plan : Ports) (names : Names) (f : Operation) (g : GroupOperation) (z : IsGroupFlown plan names f g) where
  pub to_be_built : g.builds ≡ true → group_to_build plan names f ≡ Some g.hops
  to_be_built builds = by z.is
    where
      by : ((g.builds ≡ true) × (group_to_build plan names f ≡ Some g.hops)) ⊎ ((g.builds ≡ false) × (group_to_take f ≡ Some g.hops)) → group_to_build plan names f ≡ Some g.hops
      by (inl h) = h.1
      by (inr h) = let e : true ≡ false = sym builds ∙ h.0 in absurd cc

  pub retired_group : g.builds ≡ false → f.retires ≡ Some (owner.Group g.hops)
  retired_group goes = by z.is
    where
      by : ((g.builds ≡ true) × (group_to_build plan names f ≡ Some g.hops)) ⊎ ((g.builds ≡ false) × (group_to_take f ≡ Some g.hops)) → f.retires ≡ Some (owner.Group g.hops)
      by (inl h) = let e : true ≡ false = sym h.0 ∙ goes in absurd cc
      by (inr h) = taken_group f.retires g.hops h.1

  pub built_part : g.builds ≡ true → IsPartlyBuilt g
  built_part builds =
      let x = left_of (shared_things (owner.Group g.hops)) z.rest.0 g.due (ap (first_group_due g.hops) (sym builds) ∙ z.rest.1) in
      record { before = x.first; after = x.last; things = x.both; made = sym (z.rest.2 builds) ∙ x.count; due = x.left }

-- the name of a group that is built under way says so
pub builds_groups : (plan : Ports) (capacities : List ℕ) (names : Names) (room : RoomState) (flown : ℕ → Option Flown) (m : Machine) → KnowsBoard plan capacities names room flown m → BuildsGroups names flown
builds_groups plan capacities names room flown m board = record { building = building }
  where
    building : (w : ℕ) (g : GroupOperation) → IsUnderWay flown w g → g.builds ≡ true → state_of names (name.Group g.hops) ≡ state.Building w
    building w g (x, at, has) builds =
        let y = board.flying w x at in
        (built_state names x.operation.worker (group_in (uses_of plan x.operation.key x.operation.new)) g.hops (to_be_built plan names x.operation g (y.group g has) builds)).1 ∙ ap state.Building y.worker
