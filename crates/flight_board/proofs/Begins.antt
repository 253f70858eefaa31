-- how the operation of a row's flight begins
use Rattle.std.proofs.Common.{◌≡◌, ℕ, List, Option, option_map, Result, Ok, sym, ap, subst, ◌∙◌}
use Rattle.swss_types.specs.declared.vrf.Vrf.{Vrf}
use Rattle.swss_types.specs.declared.vrf.Vrf.TheVariants as vrf
use Rattle.table_schema.specs.Plan.{Ports}
use Rattle.table_schema.specs.declared.key.Key.{Key}
use Rattle.table_schema.specs.declared.row.Row.{Row as BareRow}
use Rattle.switch_model.specs.Placed.{Placed as Row, bare}
use Rattle.switch_model.specs.declared.wait.Wait.{Wait}
use Rattle.ref_counts.specs.declared.name.Name.{Name}
use Rattle.ref_counts.specs.declared.name.Name.TheVariants as name
use Rattle.ref_counts.specs.Registry.{Names}
use Rattle.ref_counts.specs.Room.{RoomState}
use Rattle.orch_flight.specs.Operation.{Operation}
use Rattle.orch_flight.specs.Starting.{IsStartedBy, in_default, in_place}
use Rattle.flight_board.specs.Flights.{HasGroupsOnly, HasRow, HasTable, IsFlightOf, operation_of}
use Rattle.flight_board.specs.declared.row_flight.RowFlight.{RowFlight}
use Rattle.flight_board.proofs.Events.{operation-is}

-- what a start tells, of the new row and the answer as they are known
pub told-of : (plan : Ports) (names : Names) (room : RoomState) (used : List ℕ) (w : ℕ) (k : Key) (old seen new : Option Row) (names' : Names) (room' : RoomState) (a a' : Result Operation Wait) → seen ≡ new → a ≡ a' → IsStartedBy plan names room used w k old seen a names' room' → IsStartedBy plan names room used w k old new a' names' room'
told-of plan names room used w k old seen new names' room' a a' same is h = subst (λ z. IsStartedBy plan names room used w k old new z names' room') is (subst (λ o. IsStartedBy plan names room used w k old o a names' room') same h)

pub is-flight : (plan : Ports) (names : Names) (room : RoomState) (used : List ℕ) (w : ℕ) (k : Key) (new : Option Row) (names' : Names) (room' : RoomState) (old : Option Row) (n : Name) (r : RowFlight) → n ≡ name.Row k → IsStartedBy plan names room used w k old new (Ok (operation_of r)) names' room' → HasGroupsOnly r → HasTable r → HasRow r (option_map bare new) → IsFlightOf w n r
is-flight plan names room used w k new names' room' old n r named h groups table row =
    let is = operation-is plan names room used w k new names' room' old (operation_of r) h in
    record { worker_is = is.worker; named = named ∙ ap name.Row (sym is.key); row = subst (λ o. HasRow r (option_map bare o)) (sym is.row) row; groups = groups; table = table }

-- a key whose row is placed in the default router
module _ (plan : Ports) (names : Names) (room : RoomState) (used : List ℕ) (w : ℕ) (k : Key) (v : Vrf) (is : v ≡ vrf.Default) (old seen new : Option BareRow) (same : seen ≡ new) where
  pub told-default : (names' : Names) (room' : RoomState) (a a' : Result Operation Wait) → a ≡ a' → IsStartedBy plan names room used w k (in_default old) (in_default seen) a names' room' → IsStartedBy plan names room used w k (in_place v old) (in_place v new) a' names' room'
  told-default names' room' a a' gave h =
      subst (λ u. IsStartedBy plan names room used w k (in_place u old) (in_place u new) a' names' room') (sym is) (told-of plan names room used w k (in_default old) (in_default seen) (in_default new) names' room' a a' (ap in_default same) gave h)

-- what a start tells, of the new row as it is known
pub told-seen : (plan : Ports) (names : Names) (room : RoomState) (used : List ℕ) (w : ℕ) (k : Key) (v : Vrf) (old seen new : Option BareRow) (names' : Names) (room' : RoomState) (a a' : Result Operation Wait) → seen ≡ new → a ≡ a' → IsStartedBy plan names room used w k (in_place v old) (in_place v seen) a names' room' → IsStartedBy plan names room used w k (in_place v old) (in_place v new) a' names' room'
told-seen plan names room used w k v old seen new names' room' a a' same gave h = told-of plan names room used w k (in_place v old) (in_place v seen) (in_place v new) names' room' a a' (ap (in_place v) same) gave h
