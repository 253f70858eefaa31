-- before the first event, and events that leave the machine as it is
use Rattle.std.proofs.Common.{◌≡◌, ◌⊎◌, inl, inr, ℕ, List, [], Option, None, refl, sym, subst}
use Rattle.std.proofs.lemmas.Bool.{false≢true}
use Rattle.table_schema.specs.Plan.{IsPlan, Ports}
use Rattle.table_schema.specs.declared.key.Key.{Key}
use Rattle.sai_types.specs.declared.ids.Rid.{Rid}
use Rattle.sai_types.specs.declared.ids.Vid.{Vid}
use Rattle.sai_types.specs.Alike.{IsIn}
use Rattle.switch_machine.specs.Events.{IsDrop, IsPop, IsSafe, IsTake, SwitchState, empty_switch, fresh_view}
use Rattle.switch_machine.specs.Flights.{Machine}
use Rattle.switch_machine.specs.Written.{HasWrittenRows, IsTold, Written}
use Rattle.switch_machine.proofs.Kept.{kept-event}
use Rattle.switch_machine.proofs.Runs.{kept-empty, safe-fresh}
use Rattle.ref_counts.specs.Registry.{Names}
use Rattle.ref_counts.specs.Room.{RoomState, all_free}
use Rattle.registry_laws.specs.Flown.{Flown}
use Rattle.registry_laws.specs.Flying.{KnowsBoard}
use Rattle.registry_laws.proofs.Grouped.{board_nothing}
use Rattle.registry_laws.specs.Identified.{Identified}
use Rattle.registry_laws.specs.Standing.{StandsFor}

module _ (plan : Ports) (is : IsPlan plan) (capacities : List ℕ) (rid : Vid → Option Rid) where
  nothing_with : (written : Written) (keys : List Key) → IsSafe plan 4 capacities (fresh_view written keys) → StandsFor plan capacities [] (all_free capacities) (λ w. None) rid (fresh_view written keys)
  nothing_with written keys safe = record {
    safe = safe;
    board = board_nothing plan capacities;
    identified = record { each = λ i t h. elim h [ ] };
    whole = record { each = λ hops. inl refl };
    interfaces = record { each = λ n there. absurd (false≢true there) };
  }

  pub stands_first : StandsFor plan capacities [] (all_free capacities) (λ w. None) rid empty_switch
  stands_first = nothing_with empty_switch.written empty_switch.to_sync (kept-empty plan is 4 capacities)

  pub stands_fresh : (written : Written) (keys : List Key) → IsTold written → HasWrittenRows written → ((k : Key) → (written.rows k ≡ None) ⊎ IsIn k keys) → StandsFor plan capacities [] (all_free capacities) (λ w. None) rid (fresh_view written keys)
  stands_fresh written keys told rows queued = nothing_with written keys (safe-fresh plan is 4 capacities written keys told rows queued)

module _ (plan : Ports) (is : IsPlan plan) (capacities : List ℕ) (names : Names) (room : RoomState) (flown : ℕ → Option Flown) (rid : Vid → Option Rid) (s t : SwitchState) (stands : StandsFor plan capacities names room flown rid s) where
  -- a safe state with the same machine
  same_machine : t.machine ≡ s.machine → IsSafe plan 4 capacities t → StandsFor plan capacities names room flown rid t
  same_machine same safe = record {
    safe = safe;
    board = subst (KnowsBoard plan capacities names room flown) (sym same) stands.board;
    identified = subst (λ (m : Machine). Identified plan names rid flown m.stands) (sym same) stands.identified;
    whole = stands.whole;
    interfaces = stands.interfaces;
  }

  pub stands_taken : IsTake s t → StandsFor plan capacities names room flown rid t
  stands_taken x = same_machine x.machine (kept-event plan is 4 capacities s t None stands.safe (inl x))

  pub stands_popped : IsPop s t → StandsFor plan capacities names room flown rid t
  stands_popped x = same_machine x.machine (kept-event plan is 4 capacities s t None stands.safe (inr (inl x)))

  pub stands_dropped : IsDrop plan s t → StandsFor plan capacities names room flown rid t
  stands_dropped x = same_machine x.machine (kept-event plan is 4 capacities s t None stands.safe (inr (inr (inl x))))
