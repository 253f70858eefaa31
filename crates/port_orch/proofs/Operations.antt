-- the operation with which a port's start leaves
use Rattle.std.proofs.Common.{◌≡◌, ℕ, false, List, [], ◌∷◌, Option, Some, None, option_map, Result, Ok, Err, refl, sym, ap, subst, ◌∙◌, Bor}
use Rattle.table_schema.specs.Plan.{Ports, lanes_in_plan}
use Rattle.table_schema.specs.declared.key.Key.{Key}
use Rattle.table_schema.specs.declared.key.Key.TheVariants as key
use Rattle.table_schema.specs.declared.row.PortRow.{PortRow}
use Rattle.table_schema.specs.declared.row.Row.{Row as BareRow}
use Rattle.switch_model.specs.Placed.{Placed as Row}
use Rattle.switch_model.specs.Placed as row
use Rattle.sai_types.specs.Named.{first_lane}
use Rattle.switch_model.specs.declared.wait.Wait.{Wait}
use Rattle.row_layout.specs.Operations.{make_all, take_all}
use Rattle.row_layout.specs.Rows.{from}
use Rattle.ref_counts.specs.Registry.{Names}
use Rattle.ref_counts.specs.Room.{RoomState}
use Rattle.switch_machine.specs.Flights.{Fits}
use Rattle.orch_flight.specs.Needing.{first_unapplied, row_names}
use Rattle.orch_flight.specs.Operation.{Operation}
use Rattle.orch_flight.specs.Sharing.{MayStart}
use Rattle.orch_flight.specs.Starting.{IsBegunBy, IsStartedBy, begun_names, first_due, leaving, started_by, started_operation, flown, in_default}
use Rattle.orch_flight.proofs.Begins.{started-plain}
use Rattle.port_orch.specs.Ports.{IsPortStart, IsPortKey, IsPortRow, port_due, port_operation, port_thing}

-- the port's lanes are those of the plan, where there is a row
abbrev pub IsPlannedAs : Ports → ℕ → Option PortRow → Type 0
IsPlannedAs plan p None = Unit {0}
IsPlannedAs plan p (Some r) = lanes_in_plan plan p ≡ Some r.lanes

due-first : (plan : Ports) (names : Names) (p : ℕ) (now next : Option PortRow) → IsPlannedAs plan p now → IsPlannedAs plan p next → first_due plan names (key.Port p) (option_map row.Port now) (option_map row.Port next) ≡ port_due false now next
due-first plan names p None None a b = refl
due-first plan names p None (Some r) a b = ap (λ o. make_all (from (option_map first_lane o) (λ lane. port_thing r ∷ [])) []) b
due-first plan names p (Some r) None a b = ap (λ o. take_all (from (option_map first_lane o) (λ lane. port_thing r ∷ [])) []) a
due-first plan names p (Some r) (Some s) a b = refl

leaves-nothing : (plan : Ports) (p : ℕ) (now next : Option PortRow) → leaving plan (key.Port p) (option_map row.Port now) (option_map row.Port next) ≡ None
leaves-nothing plan p None None = refl
leaves-nothing plan p None (Some r) = refl
leaves-nothing plan p (Some r) None = refl
leaves-nothing plan p (Some r) (Some s) = refl

operation-first : (plan : Ports) (names : Names) (worker p : ℕ) (now next : Option PortRow) → IsPlannedAs plan p now → IsPlannedAs plan p next → started_operation plan names worker (key.Port p) (option_map row.Port now) (option_map row.Port next) ≡ port_operation worker p false now next
operation-first plan names worker p now next a b =
    let k = key.Port p in
    let old = option_map row.Port now in
    let new = option_map row.Port next in
    let later = begun_names plan names worker k old new in
    ap (started_by later worker k old new (first_due plan names k old new)) (leaves-nothing plan p now next)
    ∙ started-plain later worker k old new (first_due plan names k old new)
    ∙ ap (λ d. record { worker = worker; key = k; now = old; new = new; due = d; leaves = None; retires = None }) (due-first plan names p now next a b)

-- what began, with the operation
pub started : (plan : Ports) (names : Names) (room : RoomState) (used : List ℕ) (worker p : ℕ) (now next : Option PortRow) (names' : Names) (room' : RoomState) (res : Result (Unit {0}) Wait) → IsPlannedAs plan p now → IsPlannedAs plan p next
    → IsBegunBy plan names room used worker (key.Port p) (option_map row.Port now) (option_map row.Port next) res names' room'
    → IsStartedBy plan names room used worker (key.Port p) (option_map row.Port now) (option_map row.Port next) (flown (port_operation worker p false now next) res) names' room'
started plan names room used worker p now next names' room' (Ok x) a b (free, is, places) = (free, sym (operation-first plan names worker p now next a b), is, places)
started plan names room used worker p now next names' room' (Err w) a b h = h

fits_as_planned : (plan : Ports) (p : ℕ) (o : Option PortRow) → ((r : Row) → option_map row.Port o ≡ Some r → Fits plan (key.Port p) r) → IsPlannedAs plan p o
fits_as_planned plan p None fits = tt
fits_as_planned plan p (Some r) fits = fits (row.Port r) refl

module _ (plan : Ports) (names : Names) (room : RoomState) (used : List ℕ) (worker : ℕ) where
  -- what began is the start of this operation, where the rows fit
  abbrev Turns : Names → RoomState → Result (Unit {0}) Wait → Key → Option Row → Option Row → Operation → Type 0
  Turns names' room' res k o n f = ((r : Row) → o ≡ Some r → Fits plan k r) → ((r : Row) → n ≡ Some r → Fits plan k r) → IsBegunBy plan names room used worker k o n res names' room' → IsStartedBy plan names room used worker k o n (flown f res) names' room'

  turned : (names' : Names) (room' : RoomState) (res : Result (Unit {0}) Wait) (k : Key) (old new : Option Row) (flight : Operation) → IsPortStart worker k old new flight → Turns names' room' res k old new flight
  turned names' room' res k old new flight (p, now, next, is_key, is_old, is_new, is) =
      subst (λ z. Turns names' room' res z old new flight) (sym is_key)
      (subst (λ z. Turns names' room' res (key.Port p) z new flight) (sym is_old)
      (subst (λ z. Turns names' room' res (key.Port p) (option_map row.Port now) z flight) (sym is_new)
      (subst (Turns names' room' res (key.Port p) (option_map row.Port now) (option_map row.Port next)) (sym is)
      (λ of_old of_new begun. started plan names room used worker p now next names' room' res (fits_as_planned plan p now of_old) (fits_as_planned plan p next of_new) begun))))

  names-none : (k : Key) (old new : Option Row) (flight : Operation) → IsPortStart worker k old new flight → (r : Row) → first_unapplied names (row_names k r) ≡ None
  names-none k old new flight (p, now, next, is_key, is_old, is_new, is) r = ap (λ z. first_unapplied names (row_names z r)) is_key

  -- the same, for the rows that are given
  pub started-as : (k : Key) (old new old' new' : Option Row) (flight : Operation) (res : Result (Unit {0}) Wait) (answer : Result Operation Wait) (names' : Names) (room' : RoomState)
      → IsPortStart worker k old new flight → old ≡ old' → new ≡ new' → answer ≡ flown flight res → MayStart plan names worker k old new
      → IsBegunBy plan names room used worker k old' new' res names' room' → IsStartedBy plan names room used worker k old new answer names' room'
  started-as k old new old' new' flight res answer names' room' first same_old same_new gave may begun =
      subst (λ a. IsStartedBy plan names room used worker k old new a names' room') (sym gave)
      (turned names' room' res k old new flight first may.old_fits (λ r e. may.new_fits r e (names-none k old new flight first r))
      (subst (λ z. IsBegunBy plan names room used worker k z new res names' room') (sym same_old) (subst (λ z. IsBegunBy plan names room used worker k old' z res names' room') (sym same_new) begun)))

-- a row that fits the key of a port is a port's
pub port-row : (plan : Ports) (k : Key) (o : Option Row) → IsPortKey k → ((r : Row) → o ≡ Some r → Fits plan k r) → IsPortRow o
port-row plan k None is fits = tt
port-row plan (key.Port p) (Some (row.Port r)) is fits = tt
port-row plan (key.Port p) (Some r) is fits = elim (fits r refl) [ ]
port-row plan k (Some r) is fits = elim is [ ]

pub may-as : (plan : Ports) (names : Names) (worker : ℕ) (k : Key) (old new old' new' : Option Row) → old ≡ old' → new ≡ new' → MayStart plan names worker k old new → MayStart plan names worker k old' new'
may-as plan names worker k old new old' new' o n may = subst (λ z. MayStart plan names worker k old' z) n (subst (λ z. MayStart plan names worker k z new) o may)

-- the rows behind references, in their places
abbrev pub rows : Option (Bor BareRow) → Option Row
rows o = in_default (option_map (λ r. r.now) o)
