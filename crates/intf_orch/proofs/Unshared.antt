-- the start of the operation of a row that shares nothing with others
use Rattle.std.proofs.Common.{◌≡◌, ℕ, true, false, List, [], Option, Some, None, is_some, Result, Ok, OnOk, OnErr, IfErr, refl, sym, ap, ◌∙◌}
use Rattle.std.specs.Result.{result_and}
use Rattle.table_schema.specs.Plan.{Ports}
use Rattle.table_schema.specs.declared.key.Key.{Key}
use Rattle.switch_model.specs.Placed.{Placed as Row}
use Rattle.switch_model.specs.declared.wait.Wait.{Wait}
use Rattle.row_layout.specs.Operations.{own_changes, uses_of}
use Rattle.row_layout.specs.Shared.{uses}
use Rattle.ref_counts.specs.declared.name.Name.TheVariants as name
use Rattle.ref_counts.specs.Registered.{begun_to_go}
use Rattle.ref_counts.specs.Registry.{Names, changed, pinned, retire_refusal_at}
use Rattle.ref_counts.specs.Room.{Reserves, RoomState}
use Rattle.switch_machine.specs.Flights.{Fits, goes_over}
use Rattle.switch_machine.specs.Operations.{built_first}
use Rattle.orch_flight.specs.Needing.{first_absent, moved_reason, places_for, row_names, row_reason, to_build}
use Rattle.orch_flight.specs.Sharing.{MayStart, begun_by}
use Rattle.orch_flight.specs.Starting.{built_here, first_due, first_left, leaving, started_names_by}
use Rattle.orch_flight.proofs.Begins.{begun-removal, names-plain, no_places}
use Rattle.orch_flight.proofs.Moves.{moved-begins}
use Rattle.orch_flight.proofs.Rows.{removal-starts, row-begins, row-starts}
use Rattle.intf_orch.specs.Interfaces.{due_of, intf_operation, retires_of, row_where, subject_key, subject_new, subject_old}
use Rattle.intf_orch.specs.declared.stage.Subject.{Subject}
use Rattle.intf_orch.proofs.Operations.{Starts, operation-plain}

module _ (plan : Ports) (names : Names) (room : RoomState) (used : List ℕ) (worker : ℕ) (s : Subject) (shares : (r : Row) → uses plan (subject_key s) r ≡ []) (keeps : retires_of s ≡ None) where
  abbrev own_key : Key
  own_key = subject_key s

  leaves-nothing : (old new : Option Row) → leaving plan own_key old new ≡ None
  leaves-nothing None new = refl
  leaves-nothing (Some a) new = ap (first_left (uses_of plan own_key new)) (shares a)

  builds-nothing : (r : Row) → to_build plan names own_key (Some r) ≡ None
  builds-nothing r = ap (first_absent names) (shares r)

  -- a row that is to be applied, where this is due of its key's own
  pub row-started : (old : Option Row) (r : Row) (need : List ℕ) (names' : Names) (room' : RoomState) (begun : Result (Unit {0}) Wait) (answer : Result Subject Wait)
      → answer ≡ result_and begun (Ok s)
      → need ≡ places_for (due_of s)
      → MayStart plan names worker own_key old (Some r)
      → goes_over own_key old (Some r) ≡ false
      → row_where (is_some old) (subject_old s) ≡ old
      → (Fits plan own_key r → row_where true (subject_new s) ≡ Some r)
      → (Fits plan own_key r → own_changes plan own_key old (Some r) ≡ due_of s)
      → OnOk begun (row_reason names room used (row_names own_key r) [] need ≡ None)
      → OnOk begun (names' ≡ begun_by names worker own_key (row_names own_key r) (is_some old) None false)
      → OnOk begun (Reserves room worker need room')
      → IfErr begun (λ w. row_reason names room used (row_names own_key r) [] need ≡ Some w)
      → OnErr begun (names' ≡ names)
      → OnErr begun (room' ≡ room)
      → Starts plan names room used worker answer names' room' own_key old (Some r)
  row-started old r need names' room' begun answer is needs may stays there row_is due free begins reserves waits same same_room =
      let own = own_changes plan own_key old (Some r) in
      row-starts plan names room used worker own_key old r (intf_operation worker (is_some old) true) s names' room' begun answer is
      (λ none. let fits = may.new_fits r refl none in operation-plain plan names worker s old (Some r) there (row_is fits) (sym (ap (λ o. built_here o own) (builds-nothing r) ∙ due fits)) keeps (leaves-nothing old (Some r)))
      (row-begins plan names room used worker own_key old r None need names' room' (Ok begun) (shares r) stays (λ none. leaves-nothing old (Some r))
      (λ none. ap (λ o. places_for (built_first o own)) (builds-nothing r) ∙ ap places_for (due (may.new_fits r refl none)) ∙ sym needs) free begins reserves waits same same_room)

  -- and one that is to go
  pub removal-started : (a : Row) (names' : Names) (begun : Result (Unit {0}) Wait) (answer : Result Subject Wait)
      → answer ≡ result_and begun (Ok s)
      → places_for (due_of s) ≡ no_places
      → row_where true (subject_old s) ≡ Some a
      → own_changes plan own_key (Some a) None ≡ due_of s
      → OnOk begun (retire_refusal_at names worker (name.Row own_key) ≡ None)
      → OnOk begun (names' ≡ changed names (name.Row own_key) (begun_to_go worker))
      → IfErr begun (λ w. retire_refusal_at names worker (name.Row own_key) ≡ Some w)
      → OnErr begun (names' ≡ names)
      → Starts plan names room used worker answer names' room own_key (Some a) None
  removal-started a names' begun answer is places there due free begins waits same =
      let later = changed names (name.Row own_key) (begun_to_go worker) in
      let first = first_due plan names own_key (Some a) None in
      removal-starts plan names room used worker own_key (Some a) (intf_operation worker true false) s names' room begun answer is
      (operation-plain plan names worker s (Some a) None there refl (sym due) keeps (leaves-nothing (Some a) None))
      (begun-removal plan names room used worker own_key (Some a) names' (Ok begun) (ap places_for due ∙ places)
      (ap (started_names_by later worker own_key first) (leaves-nothing (Some a) None) ∙ names-plain later worker own_key first) free begins waits same)

  -- and one that comes in the place of an applied row that goes
  pub moved-started : (a r : Row) (names' : Names) (begun : Result (Unit {0}) Wait) (answer : Result Subject Wait)
      → answer ≡ result_and begun (Ok s)
      → goes_over own_key (Some a) (Some r) ≡ true
      → places_for (due_of s) ≡ no_places
      → row_where true (subject_old s) ≡ Some a
      → row_where true (subject_new s) ≡ Some r
      → own_changes plan own_key (Some a) (Some r) ≡ due_of s
      → OnOk begun (moved_reason names worker own_key (row_names own_key r) ≡ None)
      → OnOk begun (names' ≡ changed (pinned names worker own_key (row_names own_key r)) (name.Row own_key) (begun_to_go worker))
      → IfErr begun (λ w. moved_reason names worker own_key (row_names own_key r) ≡ Some w)
      → OnErr begun (names' ≡ names)
      → Starts plan names room used worker answer names' room own_key (Some a) (Some r)
  moved-started a r names' begun answer is goes places was row_is due free begins waits same =
      row-starts plan names room used worker own_key (Some a) r (intf_operation worker true true) s names' room begun answer is
      (λ none. operation-plain plan names worker s (Some a) (Some r) was row_is (sym (ap (λ o. built_here o (own_changes plan own_key (Some a) (Some r))) (builds-nothing r) ∙ due)) keeps (leaves-nothing (Some a) (Some r)))
      (moved-begins plan names worker own_key a r goes (shares r) room used names' begun (shares a) (ap places_for due ∙ places) free begins waits same)
