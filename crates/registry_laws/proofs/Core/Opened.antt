-- all stands for the state when an operation has begun
use Rattle.std.proofs.Common.{◌≡◌, ◌<◌, ◌∷◌, ◌∙◌, inr, ℕ, true, List, [], Option, None, Some, Ok, sym, subst, option_map}
use Rattle.table_schema.specs.Plan.{IsPlan, Ports}
use Rattle.table_schema.specs.declared.key.Key.{Key}
use Rattle.sai_types.specs.declared.ids.Rid.{Rid}
use Rattle.sai_types.specs.declared.ids.Vid.{Vid}
use Rattle.switch_model.specs.Desired.{have_rows}
use Rattle.switch_model.specs.Placed.{Placed as Row, bare, bare_rows}
use Rattle.row_layout.specs.Operations.{Change}
use Rattle.row_layout.specs.Rows.{Owner}
use Rattle.switch_machine.specs.Events.{HasLeft, IsBegin, IsSafe, SwitchState, placed_good}
use Rattle.switch_machine.specs.Flights.{Fits, IsResting, Machine, put}
use Rattle.switch_machine.specs.Written.{good_of}
use Rattle.switch_machine.proofs.Kept.{kept-event}
use Rattle.ref_counts.specs.Registry.{Names}
use Rattle.ref_counts.specs.Room.{GivesBack, RoomState}
use Rattle.orch_flight.specs.Needing.{row_names}
use Rattle.orch_flight.specs.Operation.{Operation}
use Rattle.orch_flight.specs.Sharing.{MayStart}
use Rattle.orch_flight.specs.Starting.{IsStartedBy, begun_names, first_due, leaving, started_names, started_names_by}
use Rattle.registry_laws.specs.Ending.{ended_names, MayEnd}
use Rattle.registry_laws.specs.Flown.{Flown, due_for}
use Rattle.registry_laws.specs.Flying.{flown_as, with_machine}
use Rattle.registry_laws.specs.Registers.{AreUsed}
use Rattle.registry_laws.proofs.Allowed.{may_start}
use Rattle.registry_laws.proofs.Fine.{AreFine, begun_fine, fine_of, left_fine}
use Rattle.registry_laws.proofs.Listing.{not_some}
use Rattle.registry_laws.proofs.Opened as opened
use Rattle.registry_laws.specs.Identified.{HasWholeGroups, HaveSameIds, Identified, KeepsBuilds, HasWholeInterfaces}
use Rattle.registry_laws.proofs.Identifier.Starting.{ids_started}
use Rattle.registry_laws.proofs.Identifier.Staying.{flown_identified, puts_kept, same_identified}
use Rattle.registry_laws.proofs.Identifier.Whole.{whole_ended, whole_same}
use Rattle.registry_laws.specs.Standing.{StandsFor}
use Rattle.registry_laws.proofs.Core.Ended.{ended_identified, passed_rising}
use Rattle.registry_laws.proofs.Core.Resting.{differing_reads}
use Rattle.registry_laws.proofs.Identifier.Interfaces.{interfaces_ended, interfaces_started}

started_fine : (plan : Ports) (names : Names) (w : ℕ) (k : Key) (old new : Option Row) → AreFine names → AreFine (started_names plan names w k old new)
started_fine plan names w k old new fine = by (first_due plan names k old new) (leaving plan k old new)
  where
    begun : AreFine (begun_names plan names w k old new)
    begun = begun_fine plan names w k old new fine

    by : (due : List Change) (leaves : Option Owner) → AreFine (started_names_by (begun_names plan names w k old new) w k due leaves)
    by [] (Some o) = left_fine (begun_names plan names w k old new) w k o begun
    by [] None = begun
    by (c ∷ cs) leaves = begun

module _ (plan : Ports) (is : IsPlan plan) (capacities : List ℕ) (names : Names) (room : RoomState) (flown : ℕ → Option Flown) (rid : Vid → Option Rid) (s : SwitchState) (stands : StandsFor plan capacities names room flown rid s) (room' : RoomState) (numbers : List ℕ) (are : AreUsed s.machine s.objects numbers) (w : ℕ) (less : w < 4) (free : flown w ≡ None) (k : Key) (rests : IsResting s.machine.board k) (differs : option_map bare (s.machine.board.applied k) ≡ good_of plan s.written k → ⊥) (fits : (r : Row) → placed_good plan s.machine.board s.written k ≡ Some r → have_rows (bare_rows s.machine.board.applied) (row_names k r) ≡ true → Fits plan k r) (later : List Key) (left : HasLeft k s.to_sync later) (f : Operation) (names' : Names) (starts : IsStartedBy plan names room numbers w k (s.machine.board.applied k) (placed_good plan s.machine.board s.written k) (Ok f) names' room') where
  abbrev old : Option Row
  old = s.machine.board.applied k

  abbrev new : Option Row
  new = placed_good plan s.machine.board s.written k

  may : MayStart plan names w k old new
  may = may_start plan is capacities s stands.safe names room flown stands.board w free k rests less (differing_reads plan s stands.safe.sound k differs) differs fits

  same : HaveSameIds names names'
  same = subst (HaveSameIds names) (sym starts.2) (ids_started plan is names w k old new may)

  fine : AreFine names'
  fine = subst AreFine (sym starts.2) (started_fine plan names w k old new (fine_of names stands.board.rising stands.board.placed stands.board.there))

  whole : HasWholeGroups names'
  whole = whole_same names names' same stands.whole

  interfaces : HasWholeInterfaces names'
  interfaces = subst HasWholeInterfaces (sym starts.2) (interfaces_started plan is names w k old new may stands.interfaces)

  -- the worker had nothing under way
  nothing : (y : Option Flown) → KeepsBuilds flown (put w y flown)
  nothing y = puts_kept flown w y (λ g at builds. not_some at.0 (sym free ∙ at.1))

  identified : (y : Option Flown) (t : Machine) → t.stands ≡ s.machine.stands → Identified plan names' rid (put w y flown) t.stands
  identified y t there = subst (Identified plan names' rid (put w y flown)) (sym there) (flown_identified plan names' rid flown s.machine.stands (same_identified plan names rid flown s.machine.stands stands.identified names' same) (put w y flown) (nothing y))

  abbrev Begins : Machine → Type 0
  Begins t = (b : IsBegin plan 4 capacities s (with_machine s t later)) × (b.worker ≡ w) × (b.flight.key ≡ k)

  safe : (t : Machine) → Begins t → IsSafe plan 4 capacities (with_machine s t later)
  safe t b = kept-event plan is 4 capacities s (with_machine s t later) None stands.safe (inr (inr (inr b.0)))

  pub goes_on : (due_for plan names' (flown_as f None) ≡ [] → ⊥) → (t : Machine) × Begins t × StandsFor plan capacities names' room' (put w (Some (flown_as f None)) flown) rid (with_machine s t later)
  goes_on some =
      let x = opened.goes_on plan is capacities s stands.safe names room room' numbers flown stands.board are w less free k rests differs fits later left f names' starts some in
      (x.0, x.1, record { safe = safe x.0 x.1; board = x.2; identified = identified (Some (flown_as f None)) x.0 x.3; whole = whole; interfaces = interfaces })

  pub ends : (given : RoomState) → MayEnd names' w k new → due_for plan names' (flown_as f None) ≡ [] → GivesBack room' w given → (t : Machine) × Begins t × StandsFor plan capacities (ended_names names' w k old new) given (put w None flown) rid (with_machine s t later)
  ends given may_end empty gives =
      let x = opened.ends plan is capacities s stands.safe names room room' numbers flown stands.board are w less free k rests differs fits later left f names' starts given empty gives in (
        x.0,
        x.1,
        record {
          safe = safe x.0 x.1;
          board = x.2;
          identified = ended_identified plan x.0 (safe x.0 x.1).sound names' fine w k old rid (put w None flown) (identified None x.0 x.3) new may_end x.2.registers.names_known;
          whole = whole_ended names' w k old new whole;
          interfaces = interfaces_ended plan is x.0 (safe x.0 x.1).sound x.2.busy names' w k old new rid (put w None flown) may_end interfaces (identified None x.0 x.3) (passed_rising names' w k old fine) x.2.registers.names_known;
        },
      )
