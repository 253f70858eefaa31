-- the start of a row that comes in the place of an applied row that goes
use Rattle.std.proofs.Common.{◌≡◌, ℕ, true, List, [], ◌++◌, map, Option, Some, None, option_map, option_and_then, Result, Ok, Err, OnOk, OnErr, IfErr, if◌then◌else◌, refl, sym, ap, ◌∙◌, append-nil}
use Rattle.table_schema.specs.Plan.{Ports}
use Rattle.table_schema.specs.declared.key.Key.{Key}
use Rattle.switch_model.specs.Placed.{Placed as Row}
use Rattle.switch_model.specs.declared.wait.Wait.{Wait}
use Rattle.switch_model.specs.declared.wait.Wait.TheVariants as wait
use Rattle.row_layout.specs.Operations.{own_changes}
use Rattle.row_layout.specs.Shared.{uses}
use Rattle.ref_counts.specs.declared.name.Name.TheVariants as name
use Rattle.ref_counts.specs.Registered.{Registered, begun_to_go, first_of, held_or, least_worker, pins_but, retire_refusal}
use Rattle.ref_counts.specs.Registry.{Names, changed, pinned, registered_at, retire_refusal_at, users_at, users_of}
use Rattle.ref_counts.specs.Room.{RoomState, lacking}
use Rattle.switch_machine.specs.Flights.{goes_over}
use Rattle.switch_machine.specs.Operations.{built_first}
use Rattle.orch_flight.specs.Needing.{first_absent, first_unapplied, least_of, least_with, moved_reason, name_for, or_else, pinning, places_for, refusal_with, row_names, wait_of, workers_on}
use Rattle.orch_flight.specs.Starting.{IsBegunBy, begun_names, first_due, first_left, started_names, started_names_by, used_by, with_building}
use Rattle.orch_flight.proofs.Begins.{lacking-no_need, names-plain, no_places, reserves-none}

or_nothing : (o : Option Wait) → or_else o None ≡ o
or_nothing None = refl
or_nothing (Some w) = refl

-- why a name may not go, with the workers that are in the way otherwise
refused_with : (worker : ℕ) (o : Option Registered) (least : Option ℕ) → or_else (option_map wait.Held (first_of (users_at o))) (or_else (option_map wait.Busy (least_with (pinning worker o) least)) None) ≡ refusal_with (option_and_then (retire_refusal worker) o) least
refused_with worker None least = or_nothing (option_map wait.Busy least)
refused_with worker (Some r) least = by (first_of r.users) (least_worker (pins_but worker r.pins))
  where
    by : (u : Option Key) (w : Option ℕ) → or_else (option_map wait.Held u) (or_else (option_map wait.Busy (least_with w least)) None) ≡ refusal_with (held_or u w) least
    by None None = or_nothing (option_map wait.Busy least)
    by None (Some w) = refl
    by (Some u) w = refl

module _ (plan : Ports) (names : Names) (worker : ℕ) (k : Key) (a r : Row) (goes : goes_over k (Some a) (Some r) ≡ true) (shares : uses plan k r ≡ []) where
  abbrev ks : List Key
  ks = row_names k r

  moved_waits : (room : RoomState) (used : List ℕ) → places_for (own_changes plan k (Some a) (Some r)) ≡ no_places → wait_of plan names room used worker k (Some a) (Some r) ≡ moved_reason names worker k ks
  moved_waits room used places =
      let missing = option_map wait.Missing (first_unapplied names ks) in
      let held = option_map wait.Held (first_of (users_of names (name.Row k))) in
      let pin = pinning worker (registered_at names (name.Row k)) in
      let own = own_changes plan k (Some a) (Some r) in
      ap (λ b. or_else missing (or_else (if b then held else None) (or_else (option_map wait.Busy (least_with (if b then pin else None) (least_of (workers_on names (map name.Row ks ++ map name_for (uses plan k r)))))) (option_map wait.NoRoom (lacking room (places_for (built_first (first_absent names (uses plan k r)) own)) used))))) goes
      ∙ ap (λ us. or_else missing (or_else held (or_else (option_map wait.Busy (least_with pin (least_of (workers_on names (map name.Row ks ++ map name_for us))))) (option_map wait.NoRoom (lacking room (places_for (built_first (first_absent names us) own)) used))))) shares
      ∙ ap (λ ns. or_else missing (or_else held (or_else (option_map wait.Busy (least_with pin (least_of (workers_on names ns)))) (option_map wait.NoRoom (lacking room (places_for own) used))))) (append-nil (map name.Row ks))
      ∙ ap (λ o. or_else missing (or_else held (or_else (option_map wait.Busy (least_with pin (least_of (workers_on names (map name.Row ks))))) (option_map wait.NoRoom o)))) (lacking-no_need room (places_for own) used places)
      ∙ ap (or_else missing) (refused_with worker (registered_at names (name.Row k)) (least_of (workers_on names (map name.Row ks))))

  moved_names : uses plan k a ≡ [] → started_names plan names worker k (Some a) (Some r) ≡ changed (pinned names worker k ks) (name.Row k) (begun_to_go worker)
  moved_names old =
      let begun = begun_names plan names worker k (Some a) (Some r) in
      let due = first_due plan names k (Some a) (Some r) in
      let pins = pinned names worker k ks in
      ap (λ us. started_names_by begun worker k due (first_left (uses plan k r) us)) old
      ∙ names-plain begun worker k due
      ∙ ap (λ us. used_by (with_building (if goes_over k (Some a) (Some r) then changed pins (name.Row k) (begun_to_go worker) else pins) worker (first_absent names us)) k us) shares
      ∙ ap (λ b. if b then changed pins (name.Row k) (begun_to_go worker) else pins) goes

  -- its operation begins, but for the operation itself
  pub moved-begins : (room : RoomState) (used : List ℕ) (names' : Names) (begun : Result (Unit {0}) Wait)
      → uses plan k a ≡ []
      → places_for (own_changes plan k (Some a) (Some r)) ≡ no_places
      → OnOk begun (moved_reason names worker k ks ≡ None)
      → OnOk begun (names' ≡ changed (pinned names worker k ks) (name.Row k) (begun_to_go worker))
      → IfErr begun (λ w. moved_reason names worker k ks ≡ Some w)
      → OnErr begun (names' ≡ names)
      → IsBegunBy plan names room used worker k (Some a) (Some r) begun names' room
  moved-begins room used names' (Ok x) old places free is waits same =
      let own = own_changes plan k (Some a) (Some r) in
      (moved_waits room used places ∙ free, is ∙ sym (moved_names old), reserves-none room worker (places_for (built_first (first_absent names (uses plan k r)) own)) (ap (λ us. places_for (built_first (first_absent names us) own)) shares ∙ places))
  moved-begins room used names' (Err w) old places free is waits same = (moved_waits room used places ∙ waits, same, refl)
