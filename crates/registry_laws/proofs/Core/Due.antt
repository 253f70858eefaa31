-- the next call of what a worker has under way is due for it
use Rattle.std.proofs.Common.{◌≡◌, ◌∷◌, ◌++◌, ◌∙◌, ℕ, true, List, Option, None, Some, refl, sym, ap, subst}
use Rattle.table_schema.specs.Plan.{IsPlan, Ports}
use Rattle.sai_types.specs.declared.body.Call.{Call}
use Rattle.sai_types.specs.declared.ids.Rid.{Rid}
use Rattle.sai_types.specs.declared.ids.Vid.{Vid}
use Rattle.sai_types.specs.declared.thing.Thing.{Thing}
use Rattle.sai_types.specs.declared.thing.Thing.TheVariants as thing
use Rattle.sai_types.specs.Alike.{IsIn}
use Rattle.sai_types.specs.Names.{ThingName, name_kind}
use Rattle.chip_layout.specs.Bodies.{is_numbered}
use Rattle.chip_layout.specs.Layout.{Has, listed}
use Rattle.chip_layout.specs.Renamed.{call_renamed}
use Rattle.row_layout.specs.Operations.{Change, Make, Set, Take}
use Rattle.row_layout.specs.Rows as owner
use Rattle.row_layout.specs.Shared.{shared_things}
use Rattle.switch_machine.specs.Changes.{IsCall}
use Rattle.switch_machine.specs.Events.{IsDueCall, SwitchState}
use Rattle.switch_machine.specs.Flights.{Machine}
use Rattle.ref_counts.specs.Registry.{Names}
use Rattle.ref_counts.specs.Room.{RoomState}
use Rattle.orch_flight.specs.Calling.{HasVid, IsCallFor, things_held}
use Rattle.orch_flight.specs.Grouping.{GroupOperation, HasGroupVid}
use Rattle.orch_flight.specs.Operation.{Operation}
use Rattle.registry_laws.specs.Flown.{Flown, flight_of}
use Rattle.registry_laws.specs.Making.{IsNextCall}
use Rattle.registry_laws.proofs.Taking.{held_stands}
use Rattle.registry_laws.specs.Identified.{IsVidOf, PortsStand, tie_by}
use Rattle.registry_laws.proofs.Identifier.Due.{group_ports, is_due}
use Rattle.registry_laws.proofs.Identifier.Known.{group_vid_one, vid_one}
use Rattle.registry_laws.specs.Calls.{IsTiedBy, ids_of_call}
use Rattle.registry_laws.specs.Standing.{HasBegun, StandsFor}
use Rattle.registry_laws.proofs.Core.Nexts.{below, builds, group_due_is, its, no_group, row_due_is}
use Rattle.registry_laws.proofs.Core.Tied.{call_tied}

module _ (plan : Ports) (is : IsPlan plan) (capacities : List ℕ) (names : Names) (room : RoomState) (flown : ℕ → Option Flown) (rid : Vid → Option Rid) (s : SwitchState) (stands : StandsFor plan capacities names room flown rid s) (w : ℕ) (x : Flown) (at : flown w ≡ Some x) (c : Call Vid) where
  abbrev f : Operation
  f = x.operation

  abbrev m : Machine
  m = s.machine

  abbrev pub call : Call Rid
  call = call_renamed (tie_by rid) c

  -- what stands has one identifier, which is tied
  tied_by : (has : ThingName → Vid → Type 0) → ((n : ThingName) (v u : Vid) → has n v → IsVidOf plan names flown n u → v ≡ u) → (n : ThingName) (v : Vid) (i : Rid) → is_numbered (name_kind n) ≡ true → Has (listed m.stands) n i → has n v → IsTiedBy rid v
  tied_by has one n v i numbered (t, there, same) told =
      let y = stands.identified.each i t there (ap (λ z. is_numbered (name_kind z)) same ∙ numbered) in
      (i, ap rid (one n v y.0 told (subst (λ z. IsVidOf plan names flown z y.0) same y.1)) ∙ y.2)

  -- a call that is due for the worker
  pub record IsNext (has : ThingName → Vid → Type 0) (things : List Thing) : Type 0 where
    pub change : Change
    pub rest : List Change
    pub due : m.due w ≡ change ∷ rest
    pub told : IsCallFor has things change c
    pub of : IsCall (listed m.stands) change call

  module _ (has : ThingName → Vid → Type 0) (one : (n : ThingName) (v u : Vid) → has n v → IsVidOf plan names flown n u → v ≡ u) (things : List Thing) (change : Change) (rest : List Change) (due : m.due w ≡ change ∷ rest) (ports : PortsStand m things change) (told : IsCallFor has things change c) where
    next : IsNext has things
    next =
        let y = is_due plan is 4 capacities s stands.safe names rid flown stands.identified w (flight_of f) (its plan is capacities names room flown rid s stands w x at).flying change rest due has one things ports c (below plan is capacities names room flown rid s stands w x at) told in
        record { change = change; rest = rest; due = due; told = told; of = subst (λ d. IsCall (listed m.stands) d call) y.2 y.0.of }

    next_tied : (v : Vid) → IsIn v (ids_of_call c) → IsTiedBy rid v
    next_tied v h = call_tied rid (listed m.stands) s.objects stands.safe.laid has (tied_by has one) things next.change c call next.told next.of v h

  -- ---- of a row

  module _ (begun : HasBegun plan names x) (none : x.group ≡ None) (told : IsNextCall plan names f None c) where
    ports : (d : Change) → f.due ≡ d ∷ told.1 → PortsStand m (things_held plan f) d
    ports (Make t) e = tt
    ports (Set u) e = λ p i same. held_stands plan is capacities names room flown m stands.safe.sound stands.board w x at (Set u) told.1 none (no_group plan is capacities names room flown rid s stands w x at begun none).0 (no_group plan is capacities names room flown rid s stands w x at begun none).1 e (thing.Port p) i (sym same)
    ports (Take n) e = tt

    due_row : m.due w ≡ told.0 ∷ told.1
    due_row = row_due_is plan is capacities names room flown rid s stands w x at begun none ∙ told.2

    pub row_next : IsNext (HasVid plan names) (things_held plan f)
    row_next = next (HasVid plan names) (vid_one plan names flown (builds plan is capacities names room flown rid s stands w x at)) (things_held plan f) told.0 told.1 due_row (ports told.0 told.2) told.3

    pub row_tied : (v : Vid) → IsIn v (ids_of_call c) → IsTiedBy rid v
    row_tied = next_tied (HasVid plan names) (vid_one plan names flown (builds plan is capacities names room flown rid s stands w x at)) (things_held plan f) told.0 told.1 due_row (ports told.0 told.2) told.3

  -- ---- of a group

  module _ (g : GroupOperation) (has : x.group ≡ Some g) (told : IsNextCall plan names f (Some g) c) where
    due_group : m.due w ≡ told.0 ∷ (told.1 ++ f.due)
    due_group = group_due_is plan is capacities names room flown rid s stands w x at g has ∙ ap (λ l. l ++ f.due) told.2

    one_vid : (n : ThingName) (v u : Vid) → HasGroupVid plan names g n v → IsVidOf plan names flown n u → v ≡ u
    one_vid = group_vid_one plan names flown (builds plan is capacities names room flown rid s stands w x at) w g (x, at, has)

    pub group_next : IsNext (HasGroupVid plan names g) (shared_things (owner.Group g.hops))
    group_next = next (HasGroupVid plan names g) one_vid (shared_things (owner.Group g.hops)) told.0 (told.1 ++ f.due) due_group (group_ports m g.hops told.0) told.3

    pub group_tied : (v : Vid) → IsIn v (ids_of_call c) → IsTiedBy rid v
    group_tied = next_tied (HasGroupVid plan names g) one_vid (shared_things (owner.Group g.hops)) told.0 (told.1 ++ f.due) due_group (group_ports m g.hops told.0) told.3

  -- ---- both

  due_of : (has : ThingName → Vid → Type 0) (things : List Thing) → IsNext has things → (y : IsDueCall 4 call s) × (y.worker ≡ w)
  due_of has things y = (record { worker = w; below = below plan is capacities names room flown rid s stands w x at; flight = flight_of f; change = y.change; rest = y.rest; flying = (its plan is capacities names room flown rid s stands w x at).flying; due = y.due; of = y.of }, refl)

  module _ (begun : HasBegun plan names x) (told : IsNextCall plan names f x.group c) where
    pub next_due : (y : IsDueCall 4 call s) × (y.worker ≡ w)
    next_due = by x.group refl
      where
        by : (g : Option GroupOperation) → x.group ≡ g → (y : IsDueCall 4 call s) × (y.worker ≡ w)
        by None e = due_of (HasVid plan names) (things_held plan f) (row_next begun e (subst (λ g. IsNextCall plan names f g c) e told))
        by (Some g) e = due_of (HasGroupVid plan names g) (shared_things (owner.Group g.hops)) (group_next g e (subst (λ g. IsNextCall plan names f g c) e told))

    pub names_tied : (v : Vid) → IsIn v (ids_of_call c) → IsTiedBy rid v
    names_tied = by x.group refl
      where
        by : (g : Option GroupOperation) → x.group ≡ g → (v : Vid) → IsIn v (ids_of_call c) → IsTiedBy rid v
        by None e = row_tied begun e (subst (λ g. IsNextCall plan names f g c) e told)
        by (Some g) e = group_tied g e (subst (λ g. IsNextCall plan names f g c) e told)
