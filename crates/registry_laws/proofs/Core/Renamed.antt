-- all stands for a view when what stands in it has the identifiers of the chip
use Rattle.std.proofs.Common.{inl, inr, ℕ, List, Option}
use Rattle.table_schema.specs.Plan.{IsPlan, Ports}
use Rattle.table_schema.specs.declared.key.Key.{Key}
use Rattle.sai_types.specs.declared.ids.Rid.{Rid}
use Rattle.sai_types.specs.declared.ids.Vid.{Vid}
use Rattle.sai_types.specs.declared.thing.Thing.{Thing}
use Rattle.sai_types.specs.Alike.{IsIn}
use Rattle.sai_types.specs.Made.{IsWhole}
use Rattle.sai_types.specs.Objects.{Objects}
use Rattle.chip_layout.specs.Layout.{IsLaidOut, listed}
use Rattle.row_layout.specs.Rows.{Owner}
use Rattle.switch_machine.specs.Events.{SwitchState}
use Rattle.switch_machine.specs.Flights.{Machine, StandsIn}
use Rattle.switch_machine.proofs.Renaming.{kept-renamed}
use Rattle.ref_counts.specs.declared.name.NameState.{NameState}
use Rattle.ref_counts.specs.declared.name.NameState.TheVariants as state
use Rattle.ref_counts.specs.Registered.{Registered}
use Rattle.ref_counts.specs.Registry.{Names, state_in}
use Rattle.ref_counts.specs.Room.{RoomState}
use Rattle.registry_laws.specs.Flown.{Flown}
use Rattle.registry_laws.specs.Flying.{IsFlown, KnowsBoard}
use Rattle.registry_laws.specs.Known.{IsKnownRow, IsKnownShared, RowStands, SharedStands}
use Rattle.registry_laws.specs.Registers.{Registers}
use Rattle.registry_laws.specs.Standing.{AreRetied, StandsFor, over_chip}

-- a machine with other identifiers of the things that stand
module _ (m : Machine) (later : List (Rid × Thing)) (into : (u : Thing) → StandsIn m u → (j : Rid) × IsIn (j, u) later) where
  abbrev t : Machine
  t = record { board = m.board; due = m.due; reserved = m.reserved; stands = later }

  row_stands : (k : Key) (st : NameState) → RowStands m k st → RowStands t k st
  row_stands k state.Absent h = h
  row_stands k (state.Building w) h = h
  row_stands k state.Live (inl firm) = inl firm
  row_stands k state.Live (inr x) = inr (record { worker = x.worker; flight = x.flight; flying = x.flying; key = x.key; row = x.row; new = x.new; done = x.done })
  row_stands k (state.Retiring w) x = record { flight = x.flight; flying = x.flying; key = x.key; goes = x.goes; row = x.row; applied = x.applied }

  row_known : (k : Key) (o : Option Registered) → IsKnownRow m k o → IsKnownRow t k o
  row_known k o x = record { stands = row_stands k (state_in o) x.stands; users = x.users; pins = x.pins; rising = x.rising }

  module _ (plan : Ports) (capacities : List ℕ) (names : Names) (room : RoomState) where
    shared_stands : (o : Owner) (st : NameState) → SharedStands plan m o st → SharedStands plan t o st
    shared_stands o state.Absent h = h
    shared_stands o (state.Building w) h = h
    shared_stands o state.Live h = h
    shared_stands o (state.Retiring w) h = h

    shared_known : (o : Owner) (r : Option Registered) → IsKnownShared plan m o r → IsKnownShared plan t o r
    shared_known o r x = record { stands = shared_stands o (state_in r) x.stands; users = x.users; pins = x.pins; rising = x.rising }

    registers_retied : Registers plan 4 capacities names room m → Registers plan 4 capacities names room t
    registers_retied x = record {
      names_known = record { rows = λ k. row_known k _ (x.names_known.rows k); shared = λ o h. shared_known o _ (x.names_known.shared o h) };
      room_known = record { capacities_are = x.room_known.capacities_are; places = x.room_known.places };
      few = x.few;
      below = x.below;
      retiring = x.retiring;
    }

    flown_retied : (w : ℕ) (x : Flown) → IsFlown plan names m w x → IsFlown plan names t w x
    flown_retied w x y = record {
      flying = y.flying;
      worker = y.worker;
      due = y.due;
      over = y.over;
      some = y.some;
      rest = y.rest;
      between = y.between;
      standing = λ u c i j e. into u (y.standing u c i j e);
      later = y.later;
      group = y.group;
      beyond = y.beyond;
      reserves = y.reserves;
    }

    board_retied : (flown : ℕ → Option Flown) → KnowsBoard plan capacities names room flown m → KnowsBoard plan capacities names room flown t
    board_retied flown x = record {
      registers = registers_retied x.registers;
      rising = x.rising;
      busy = x.busy;
      idle = x.idle;
      flying = λ w y at. flown_retied w y (x.flying w y at);
      placed = x.placed;
      there = x.there;
    }

module _ (plan : Ports) (is : IsPlan plan) (capacities : List ℕ) (names : Names) (room : RoomState) (flown : ℕ → Option Flown) (rid rid' : Vid → Option Rid) (s : SwitchState) (stands : StandsFor plan capacities names room flown rid s) (later : List (Rid × Thing)) (ties : AreRetied rid rid' s.machine.stands later) (made : ℕ) (objects : Objects) (whole : IsWhole made objects) (laid : IsLaidOut (listed later) objects) where
  into : (u : Thing) → StandsIn s.machine u → (j : Rid) × IsIn (j, u) later
  into u h = ties.into h.0 u h.1

  pub stands_over_chip : StandsFor plan capacities names room flown rid' (over_chip s later made objects)
  stands_over_chip = record {
    safe = kept-renamed plan is 4 capacities s stands.safe later (record { into = λ u c h. into u h; back = λ u c h. let x = ties.back h.0 u h.1 in (x.0, x.1) }) made objects whole laid;
    board = board_retied s.machine later into plan capacities names room flown stands.board;
    identified = record { each = λ j u h numbered. let x = ties.back j u h in let y = stands.identified.each x.0 u x.1 numbered in (y.0, y.1, x.2 numbered y.0 y.2) };
    whole = stands.whole;
    interfaces = stands.interfaces;
  }
