-- the start of an interface's operation
use Rattle.std.proofs.Common.{◌≡◌, ℕ, Bool, true, false, not, List, [], ◌∷◌, Option, Some, None, is_some, Result, Ok, OnOk, OnErr, IfErr, if◌then◌else◌, refl, sym, ap, subst, ◌∙◌, append-nil}
use Rattle.std.specs.Result.{result_and}
use Rattle.std.proofs.lemmas.Bool.{false≢true}
use Rattle.swss_types.specs.declared.interface.IfName.{IfName}
use Rattle.swss_types.specs.declared.vrf.Vrf.{Vrf}
use Rattle.swss_types.specs.Vrf.{same_vrf}
use Rattle.table_schema.specs.Names.{base_names, intf_names}
use Rattle.table_schema.specs.Plan.{Ports}
use Rattle.table_schema.specs.declared.key.Key.{Key}
use Rattle.table_schema.specs.declared.key.Key.TheVariants as key
use Rattle.table_schema.specs.declared.row.Row.{Row as BareRow}
use Rattle.table_schema.specs.declared.row.Row.TheVariants as bare_row
use Rattle.sai_types.specs.declared.hop.Base.{Base}
use Rattle.sai_types.specs.declared.thing.Thing.TheVariants as thing
use Rattle.switch_model.specs.Placed as row
use Rattle.switch_model.specs.Placed.{Placed as Row, place, router_of_row}
use Rattle.switch_model.specs.Things.{base_of}
use Rattle.switch_model.specs.declared.wait.Wait.{Wait}
use Rattle.row_layout.specs.Operations.{Change, make_all, own_changes, take_all}
use Rattle.row_layout.specs.Rows.{from}
use Rattle.ref_counts.specs.declared.name.Name.TheVariants as name
use Rattle.ref_counts.specs.Registered as registered
use Rattle.ref_counts.specs.Registry.{Names, changed, pinned, retire_refusal_at}
use Rattle.ref_counts.specs.Room.{Reserves, RoomState}
use Rattle.switch_machine.specs.Flights.{Fits, goes_over}
use Rattle.orch_flight.specs.Needing.{moved_reason, places_for, row_names, row_reason}
use Rattle.orch_flight.specs.Sharing.{MayStart, begun_by}
use Rattle.orch_flight.proofs.Begins.{no_places}
use Rattle.intf_orch.specs.Interfaces.{coming, rif_due, rif_going, rif_moving, row_where}
use Rattle.intf_orch.specs.declared.stage.RifStage.{RifStage}
use Rattle.intf_orch.specs.declared.stage.RifStage.TheVariants as rif
use Rattle.intf_orch.specs.declared.stage.Subject.{Subject}
use Rattle.intf_orch.specs.declared.stage.Subject.TheVariants as subject
use Rattle.intf_orch.proofs.Operations.{Starts}
use Rattle.intf_orch.proofs.Unshared.{moved-started, removal-started, row-started}

due-comes : (w : Vrf) (o : Option Base) → make_all (from o (λ b. thing.Rif b w ∷ [])) [] ≡ rif_due w (coming o)
due-comes w None = refl
due-comes w (Some b) = refl

due-goes : (v w : Vrf) (o : Option Base) → take_all (from o (λ b. thing.Rif b v ∷ [])) [] ≡ rif_due w (rif_going o)
due-goes v w None = refl
due-goes v w (Some b) = refl

due-moves : (v w : Vrf) (o : Option Base) → take_all (from o (λ b. thing.Rif b v ∷ [])) (make_all (from o (λ b. thing.Rif b w ∷ [])) []) ≡ rif_due w (rif_moving o)
due-moves v w None = refl
due-moves v w (Some b) = refl

removed-places : (w : Vrf) (o : Option Base) → places_for (rif_due w (rif_going o)) ≡ no_places
removed-places w None = refl
removed-places w (Some b) = refl

moved-places : (w : Vrf) (o : Option Base) → places_for (rif_due w (rif_moving o)) ≡ no_places
moved-places w None = refl
moved-places w (Some b) = refl

is_same : (b : Bool) → not b ≡ false → b ≡ true
is_same true h = refl
is_same false h = cc

is_other : (b : Bool) → not b ≡ true → b ≡ false
is_other true h = cc
is_other false h = refl

-- the virtual router of a row
abbrev router : BareRow → Vrf
router r = router_of_row (Some r)

module _ (plan : Ports) (n : IfName) (p : Vrf) where
  row-is : (r : BareRow) → Fits plan (key.Intf n) (place p r) → row_where true (row.Intf (router r)) ≡ Some (place p r)
  row-is (bare_row.Intf w) fits = refl
  row-is _ fits = elim fits [ ]

  names-are : (r : BareRow) → row_names (key.Intf n) (place p r) ≡ intf_names n (router r)
  names-are (bare_row.Intf w) = refl
  names-are _ = sym (append-nil (base_names n))

  none-over : (r : Row) → goes_over (key.Intf n) None (Some r) ≡ false
  none-over (row.Intf w) = refl
  none-over _ = refl

  -- what is due of an interface's own
  added-due : (r : BareRow) → Fits plan (key.Intf n) (place p r) → own_changes plan (key.Intf n) None (Some (place p r)) ≡ rif_due (router r) (coming (base_of plan n))
  added-due (bare_row.Intf w) fits = due-comes w (base_of plan n)
  added-due _ fits = elim fits [ ]

  -- an interface from the one router to the other
  abbrev over : Vrf → Vrf → List Change
  over v w = take_all (from (base_of plan n) (λ b. thing.Rif b v ∷ [])) (make_all (from (base_of plan n) (λ b. thing.Rif b w ∷ [])) [])

  kept-due : (a r : BareRow) → Fits plan (key.Intf n) (place p a) → Fits plan (key.Intf n) (place p r) → goes_over (key.Intf n) (Some (place p a)) (Some (place p r)) ≡ false → own_changes plan (key.Intf n) (Some (place p a)) (Some (place p r)) ≡ []
  kept-due (bare_row.Intf v) (bare_row.Intf w) old fits stays = ap (λ b. if b then [] else over v w) (is_same (same_vrf v w) stays)
  kept-due (bare_row.Intf v) _ old fits stays = elim fits [ ]
  kept-due _ r old fits stays = elim old [ ]

  removed-due : (a : BareRow) → Fits plan (key.Intf n) (place p a) → own_changes plan (key.Intf n) (Some (place p a)) None ≡ rif_due (router a) (rif_going (base_of plan n))
  removed-due (bare_row.Intf v) fits = due-goes v v (base_of plan n)
  removed-due _ fits = elim fits [ ]

  module _ (names : Names) (room : RoomState) (used : List ℕ) (worker : ℕ) where
    -- what is told of a start by the names that a row of an interface has
    abbrev IsTold : List Key → Option Row → List ℕ → Names → Result (Unit {0}) Wait → Type 0
    IsTold ks old need names' begun = OnOk begun (row_reason names room used ks [] need ≡ None) × OnOk begun (names' ≡ begun_by names worker (key.Intf n) ks (is_some old) None false) × IfErr begun (λ w. row_reason names room used ks [] need ≡ Some w)

    told-by : (old : Option Row) (r : BareRow) (need : List ℕ) (names' : Names) (begun : Result (Unit {0}) Wait) → IsTold (intf_names n (router r)) old need names' begun → IsTold (row_names (key.Intf n) (place p r)) old need names' begun
    told-by old r need names' begun = subst (λ ks. IsTold ks old need names' begun) (sym (names-are r))

    pub interface-added : (r : BareRow) (base : Option Base) (stage : RifStage) (need : List ℕ) (names' : Names) (room' : RoomState) (begun : Result (Unit {0}) Wait) (answer : Result Subject Wait)
        → base ≡ base_of plan n
        → stage ≡ coming base
        → need ≡ places_for (rif_due (router r) (coming base))
        → answer ≡ result_and begun (Ok (subject.Intf n (router r) (router r) stage))
        → MayStart plan names worker (key.Intf n) None (Some (place p r))
        → OnOk begun (row_reason names room used (intf_names n (router r)) [] need ≡ None)
        → OnOk begun (names' ≡ begun_by names worker (key.Intf n) (intf_names n (router r)) false None false)
        → OnOk begun (Reserves room worker need room')
        → IfErr begun (λ w. row_reason names room used (intf_names n (router r)) [] need ≡ Some w)
        → OnErr begun (names' ≡ names)
        → OnErr begun (room' ≡ room)
        → Starts plan names room used worker answer names' room' (key.Intf n) None (Some (place p r))
    interface-added r base stage need names' room' begun answer on comes needs is may free begins reserves waits =
        let s = subject.Intf n (router r) (router r) stage in
        let told = told-by None r need names' begun (free, begins, waits) in
        row-started plan names room used worker s (λ r. refl) refl None (place p r) need names' room' begun answer is (needs ∙ ap (λ x. places_for (rif_due (router r) x)) (sym comes)) may (none-over (place p r)) refl (row-is r)
        (λ fits. added-due r fits ∙ ap (λ o. rif_due (router r) (coming o)) (sym on) ∙ ap (rif_due (router r)) (sym comes)) told.0 told.1 reserves told.2

    pub interface-kept : (a r : BareRow) (names' : Names) (room' : RoomState) (begun : Result (Unit {0}) Wait) (answer : Result Subject Wait)
        → answer ≡ result_and begun (Ok (subject.Intf n (router a) (router r) rif.Stays))
        → MayStart plan names worker (key.Intf n) (Some (place p a)) (Some (place p r))
        → goes_over (key.Intf n) (Some (place p a)) (Some (place p r)) ≡ false
        → OnOk begun (row_reason names room used (intf_names n (router r)) [] no_places ≡ None)
        → OnOk begun (names' ≡ begun_by names worker (key.Intf n) (intf_names n (router r)) true None false)
        → OnOk begun (Reserves room worker no_places room')
        → IfErr begun (λ w. row_reason names room used (intf_names n (router r)) [] no_places ≡ Some w)
        → OnErr begun (names' ≡ names)
        → OnErr begun (room' ≡ room)
        → Starts plan names room used worker answer names' room' (key.Intf n) (Some (place p a)) (Some (place p r))
    interface-kept a r names' room' begun answer is may stays free begins reserves waits =
        let s = subject.Intf n (router a) (router r) rif.Stays in
        let old = may.old_fits (place p a) refl in
        let told = told-by (Some (place p a)) r no_places names' begun (free, begins, waits) in
        row-started plan names room used worker s (λ r. refl) refl (Some (place p a)) (place p r) no_places names' room' begun answer is refl may stays (row-is a old) (row-is r) (λ fits. kept-due a r old fits stays) told.0 told.1 reserves told.2

    pub interface-removed : (a : BareRow) (base : Option Base) (stage : RifStage) (names' : Names) (begun : Result (Unit {0}) Wait) (answer : Result Subject Wait)
        → base ≡ base_of plan n
        → stage ≡ rif_going base
        → answer ≡ result_and begun (Ok (subject.Intf n (router a) (router a) stage))
        → MayStart plan names worker (key.Intf n) (Some (place p a)) None
        → OnOk begun (retire_refusal_at names worker (name.Row (key.Intf n)) ≡ None)
        → OnOk begun (names' ≡ changed names (name.Row (key.Intf n)) (registered.begun_to_go worker))
        → IfErr begun (λ w. retire_refusal_at names worker (name.Row (key.Intf n)) ≡ Some w)
        → OnErr begun (names' ≡ names)
        → Starts plan names room used worker answer names' room (key.Intf n) (Some (place p a)) None
    interface-removed a base stage names' begun answer on goes is may free begins waits same =
        let fits = may.old_fits (place p a) refl in
        removal-started plan names room used worker (subject.Intf n (router a) (router a) stage) (λ r. refl) refl (place p a) names' begun answer is (ap (λ x. places_for (rif_due (router a) x)) goes ∙ removed-places (router a) base) (row-is a fits)
        (removed-due a fits ∙ ap (λ o. rif_due (router a) (rif_going o)) (sym on) ∙ ap (rif_due (router a)) (sym goes)) free begins waits same

    pub interface-moved : (a r : BareRow) (base : Option Base) (stage : RifStage) (names' : Names) (begun : Result (Unit {0}) Wait) (answer : Result Subject Wait)
        → base ≡ base_of plan n
        → stage ≡ rif_moving base
        → answer ≡ result_and begun (Ok (subject.Intf n (router a) (router r) stage))
        → goes_over (key.Intf n) (Some (place p a)) (Some (place p r)) ≡ true
        → OnOk begun (moved_reason names worker (key.Intf n) (intf_names n (router r)) ≡ None)
        → OnOk begun (names' ≡ changed (pinned names worker (key.Intf n) (intf_names n (router r))) (name.Row (key.Intf n)) (registered.begun_to_go worker))
        → IfErr begun (λ w. moved_reason names worker (key.Intf n) (intf_names n (router r)) ≡ Some w)
        → OnErr begun (names' ≡ names)
        → Starts plan names room used worker answer names' room (key.Intf n) (Some (place p a)) (Some (place p r))
    interface-moved (bare_row.Intf v) (bare_row.Intf w) base stage names' begun answer on moves is goes free begins waits same =
        moved-started plan names room used worker (subject.Intf n v w stage) (λ r. refl) refl (row.Intf v) (row.Intf w) names' begun answer is goes (ap (λ x. places_for (rif_due w x)) moves ∙ moved-places w base) refl refl
        (ap (λ b. if b then [] else over v w) (is_other (same_vrf v w) goes) ∙ due-moves v w (base_of plan n) ∙ ap (λ o. rif_due w (rif_moving o)) (sym on) ∙ ap (rif_due w) (sym moves)) free begins waits same
    interface-moved (bare_row.Intf v) _ base stage names' begun answer on moves is goes free begins waits same = absurd (false≢true goes)
    interface-moved _ r base stage names' begun answer on moves is goes free begins waits same = absurd (false≢true goes)
