-- what workers have under way stands for the machine when an operation has begun
use Rattle.std.proofs.Common.{◌≡◌, ◌<◌, ◌∙◌, ℕ, true, List, [], Option, None, Some, Ok, refl, sym, subst, option_map, ap}
use Rattle.table_schema.specs.Plan.{IsPlan, Ports}
use Rattle.table_schema.specs.declared.key.Key.{Key}
use Rattle.switch_model.specs.Desired.{have_rows}
use Rattle.switch_model.specs.Placed.{Placed as Row, bare, bare_rows, router_in}
use Rattle.switch_machine.specs.Consistent.{IsConsistent}
use Rattle.switch_machine.specs.Events.{HasLeft, IsBegin, IsSafe, SwitchState, placed_good}
use Rattle.switch_machine.specs.Flights.{Fits, IsResting, Machine, put}
use Rattle.switch_machine.specs.Operations.{MayBegin}
use Rattle.switch_machine.specs.Places.{HasRoomFor}
use Rattle.switch_machine.specs.Steps.{started}
use Rattle.switch_machine.specs.Written.{good_of}
use Rattle.ref_counts.specs.Registry.{Names}
use Rattle.ref_counts.specs.Room.{GivesBack, RoomState}
use Rattle.orch_flight.specs.Needing.{row_names}
use Rattle.orch_flight.specs.Operation.{Operation}
use Rattle.orch_flight.specs.Starting.{IsStartedBy, begun_names, first_due, leaving}
use Rattle.registry_laws.specs.Ending.{ended_names}
use Rattle.registry_laws.specs.Flown.{Flown, due_for}
use Rattle.registry_laws.specs.Flying.{KnowsBoard, flown_as, with_machine}
use Rattle.registry_laws.specs.Registers.{AreUsed, Registers, beginning, due_first}
use Rattle.registry_laws.proofs.Aside.{IsAside, aside_started, aside_then, board_with, board_without}
use Rattle.registry_laws.proofs.Between.{due_started}
use Rattle.registry_laws.proofs.Fine.{AreFine, begun_fine, fine_of}
use Rattle.registry_laws.proofs.Launched as launched
use Rattle.registry_laws.proofs.Launched.{started_is, started_names_is}
use Rattle.registry_laws.proofs.Settled.{Both, IsLater, both, settled, settled_names}
use Rattle.registry_laws.proofs.Starting.{registers_started}
use Rattle.registry_laws.proofs.Waiting.{begins_by, room_by}
use Rattle.registry_laws.proofs.Inside.{placed_none}

module _ (plan : Ports) (is : IsPlan plan) (capacities : List ℕ) (s : SwitchState) (kept : IsSafe plan 4 capacities s) (names : Names) (room room' : RoomState) (numbers : List ℕ) (flown : ℕ → Option Flown) (board : KnowsBoard plan capacities names room flown s.machine) (are : AreUsed s.machine s.objects numbers) (w : ℕ) (less : w < 4) (free : flown w ≡ None) (k : Key) (rests : IsResting s.machine.board k) (differs : option_map bare (s.machine.board.applied k) ≡ good_of plan s.written k → ⊥) (fits : (r : Row) → placed_good plan s.machine.board s.written k ≡ Some r → have_rows (bare_rows s.machine.board.applied) (row_names k r) ≡ true → Fits plan k r) (later : List Key) (left : HasLeft k s.to_sync later) (f : Operation) (names' : Names) (starts : IsStartedBy plan names room numbers w k (s.machine.board.applied k) (placed_good plan s.machine.board s.written k) (Ok f) names' room') where
  abbrev m : Machine
  m = s.machine

  abbrev old : Option Row
  old = m.board.applied k

  abbrev new : Option Row
  new = placed_good plan s.machine.board s.written k

  begins : MayBegin plan m w (beginning plan k old new) (due_first plan names k old new)
  begins = begins_by plan is 4 capacities s kept names room board.registers board.busy numbers are w (board.idle w free) k rests fits new refl starts.0

  has_room : HasRoomFor 4 capacities s.objects m (due_first plan names k old new)
  has_room = room_by plan is 4 capacities s kept names room board.registers board.busy numbers are w (board.idle w free) k rests fits new refl starts.0

  some : old ≡ None → new ≡ None → ⊥
  some a b = differs (ap (option_map bare) a ∙ sym (placed_none (router_in (bare_rows m.board.applied) k) (good_of plan s.written k) b))

  abbrev begun : Names
  begun = begun_names plan names w k old new

  abbrev opened : Machine
  opened = started m w (beginning plan k old new) (due_first plan names k old new)

  now : Registers plan 4 capacities begun room' opened
  now = registers_started plan is 4 capacities m kept.sound kept.covered names room room' board.registers w k new less begins some starts.3

  abbrev first : Operation
  first = record { worker = w; key = k; now = old; new = new; due = first_due plan names k old new; leaves = leaving plan k old new; retires = None }

  fine : AreFine begun
  fine = begun_fine plan names w k old new (fine_of names board.rising board.placed board.there)

  abbrev Begins : Machine → Type 0
  Begins t = (b : IsBegin plan 4 capacities s (with_machine s t later)) × (b.worker ≡ w) × (b.flight.key ≡ k)

  abbrev OnAs : Operation → Names → Type 0
  OnAs g ns = (due_for plan ns (flown_as g None) ≡ [] → ⊥) → (t : Machine) × Begins t × KnowsBoard plan capacities ns room' (put w (Some (flown_as g None)) flown) t × (t.stands ≡ m.stands)

  abbrev OverAs : Operation → Names → Type 0
  OverAs g ns = (room'' : RoomState) → due_for plan ns (flown_as g None) ≡ [] → GivesBack room' w room'' → (t : Machine) × Begins t × KnowsBoard plan capacities (ended_names ns w k old new) room'' (put w None flown) t × (t.stands ≡ m.stands)

  sound' : IsConsistent plan opened
  sound' = launched.sound' plan is capacities m kept.sound names room room' board.registers w k new begins now some

  its : OnAs (settled begun first) (settled_names begun first) × OverAs (settled begun first) (settled_names begun first)
  its = by (both plan is capacities opened sound' begun room' now fine first (due_started m w (beginning plan k old new) (due_first plan names k old new) board.busy) (launched.first_flown plan is capacities m kept.sound names room room' board.registers w k new begins now some))
    where
      begin : (t : Machine) (ns : Names) (r : RoomState) → IsLater plan capacities w opened t ns r → Begins t
      begin t ns r x = (
        record {
          worker = w;
          below = less;
          flight = beginning plan k old new;
          due = due_first plan names k old new;
          new = refl;
          begins = begins;
          room = has_room;
          follows = x.follows;
          written = refl;
          made = refl;
          objects = refl;
          to_sync = left;
        },
        refl,
        refl,
      )

      aside : (t : Machine) (ns : Names) (r : RoomState) → IsLater plan capacities w opened t ns r → IsAside plan w m t
      aside t ns r x = aside_then plan w m opened t (aside_started plan w m (beginning plan k old new) (due_first plan names k old new)) x.aside

      by : Both plan is capacities opened sound' begun room' now fine first (due_started m w (beginning plan k old new) (due_first plan names k old new) board.busy) (launched.first_flown plan is capacities m kept.sound names room room' board.registers w k new begins now some) (settled begun first) (settled_names begun first) → OnAs (settled begun first) (settled_names begun first) × OverAs (settled begun first) (settled_names begun first)
      by (on, over) = (
        (λ some_due.
            let x = on some_due in
            let ns = settled_names begun first in (
              x.0,
              begin x.0 ns room' x.1,
              board_with plan is capacities names room m board.registers kept.sound w x.0 x.1.sound (aside x.0 ns room' x.1) ns room' x.1.known flown board.idle board.flying x.1.busy x.1.fine (flown_as (settled begun first) None) x.2,
              x.1.stands,
            )),
        (λ room'' empty gives.
            let x = over room'' empty gives in
            let ns = ended_names (settled_names begun first) w k old new in (
              x.0,
              begin x.0 ns room'' x.1,
              board_without plan is capacities names room m board.registers kept.sound w x.0 x.1.sound (aside x.0 ns room'' x.1) ns room'' x.1.known flown board.idle board.flying x.1.busy x.1.fine x.2,
              x.1.stands,
            )),
      )

  operation_is : settled begun first ≡ f
  operation_is = sym (starts.1 ∙ started_is begun w k old new (first_due plan names k old new) (leaving plan k old new))

  names_are : settled_names begun first ≡ names'
  names_are = sym (starts.2 ∙ started_names_is begun w k old new (first_due plan names k old new) (leaving plan k old new))

  pub goes_on : OnAs f names'
  goes_on = subst (λ g. OnAs g names') operation_is (subst (OnAs (settled begun first)) names_are its.0)

  pub ends : OverAs f names'
  ends = subst (λ g. OverAs g names') operation_is (subst (OverAs (settled begun first)) names_are its.1)
