-- what follows in an event
use Rattle.std.proofs.Common.{◌≡◌, inl, inr, ℕ, ◌<◌, true, List, [], length, Option, None, Some, option_map, Result, Ok, Err, refl, sym, ap, subst, ◌∙◌}
use Rattle.std.specs.Prelude.{set}
use Rattle.table_schema.specs.declared.key.Key.{Key}
use Rattle.table_schema.specs.Plan.{Ports}
use Rattle.table_schema.specs.declared.row.Row.{Row as BareRow}
use Rattle.swss_types.specs.declared.vrf.Vrf.{Vrf}
use Rattle.sai_types.specs.declared.ids.Vid.{Vid}
use Rattle.switch_model.specs.Placed.{Placed as Row, bare, router_in}
use Rattle.switch_model.specs.declared.wait.Wait.{Wait}
use Rattle.orch_flight.specs.Needing.{busy_for, crowded_for, holder_of, or_else}
use Rattle.orch_flight.specs.Operation.{Operation}
use Rattle.orch_flight.specs.Starting.{IsStartedBy, answered, begun_names, first_due, in_place, leaving}
use Rattle.ref_counts.specs.Registry.{Names, all_released}
use Rattle.ref_counts.specs.Room.{GivesBack, RoomState}
use Rattle.registry_laws.specs.Ending.{ended_names, users_dropped, with_own_ended}
use Rattle.registry_laws.specs.Flown.{Flown, due_for}
use Rattle.registry_laws.specs.Making.{TookFor, with_group_begun}
use Rattle.flight_board.specs.Applied.{Entries, HasSameRows, KeepsOthers, placed_at, placed_for, row_at}
use Rattle.flight_board.specs.Board.{AreCountedWith, BoardState, FlightState, BoardFollows, IsBegunFor, IsHeldUp, IsPrepared, IsTakenFor, IsUnflown, StartsOn, flight_at, flight_on, flown_at, operation_in, with_group}
use Rattle.flight_board.proofs.Counted.{all-counts, all_counted}
use Rattle.flight_board.proofs.Kept.{IsOperationOf, same-named, starts-as}
use Rattle.flight_board.proofs.Places.{Under, on-other, on-same, same-flown}

-- ---- a group's operation begins

begun-flown : (plan : Ports) (names : Names) (o : Option FlightState) → option_map (λ f. f.flown) (option_map (with_group plan names) o) ≡ option_map (with_group_begun plan names) (option_map (λ f. f.flown) o)
begun-flown plan names None = refl
begun-flown plan names (Some f) = refl

pub prepared : (b : BoardState) (w : ℕ) (fs : Under) → w < length b.flights → fs ≡ set b.flights w (option_map (with_group b.plan b.names) (flight_at b w)) → IsPrepared b w (record { plan = b.plan; names = b.names; room = b.room; applied = b.applied; flights = fs })
prepared b w fs below is =
    let begun = option_map (with_group b.plan b.names) (flight_at b w) in record {
      plan = refl;
      names = refl;
      room = refl;
      applied = refl;
      own = ap (λ l. option_map (λ f. f.flown) (flight_on l w)) is ∙ ap (λ o. option_map (λ f. f.flown) o) (on-same b.flights w begun below) ∙ begun-flown b.plan b.names (flight_at b w);
      others = λ v apart. ap (λ l. flight_on l v) is ∙ on-other b.flights w v begun apart;
    }

-- ---- what follows

-- an end drops what the old row names, which no virtual router tells
ended-same : (names : Names) (w : ℕ) (k : Key) (o p : Option BareRow) (u v : Vrf) (new : Option Row) → o ≡ p → ended_names names w k (in_place u o) new ≡ ended_names names w k (in_place v p) new
ended-same names w k o p u v new same = ap (λ ks. with_own_ended (all_released w true (users_dropped names k ks)) k new) (same-named k u v o p same)

-- what follows from a board follows from one with the same rows and the same operations of other workers
pub follows-from : (w : ℕ) (x : Flown) (names : Names) (room : RoomState) (old mid new : BoardState) → mid.plan ≡ old.plan → HasSameRows old.applied mid.applied → ((v : ℕ) → (v ≡ w → ⊥) → flight_at mid v ≡ flight_at old v) → BoardFollows w x names room mid new → BoardFollows w x names room old new
follows-from w x names room old mid new plan rows flights h =
    let k = x.operation.key in record {
      others = record {
        plan = h.others.plan ∙ plan;
        flights = λ v apart. h.others.flights v apart ∙ flights v apart;
        rows = λ q apart. h.others.rows q apart ∙ rows q;
      };
      more = λ some.
          let g = h.more (λ none. some (subst (λ p. due_for p names x ≡ []) plan none)) in
          record { row = g.row ∙ rows k; flying = g.flying; names_are = g.names_are; room_is = g.room_is };
      over = λ none.
          let e = h.over (subst (λ p. due_for p names x ≡ []) (sym plan) none) in
          record { row = e.row; none = e.none; names_are = e.names_are ∙ ended-same names w k (row_at mid.applied k) (row_at old.applied k) (router_in (row_at mid.applied) k) (router_in (row_at old.applied) k) x.operation.new (rows k); room_is = e.room_is };
    }

module _ (b : BoardState) (w : ℕ) (f : FlightState) where
  abbrev x : Flown
  x = f.flown

  -- an operation ends
  pub ends : (fs : Under) (names : Names) (room : RoomState) (applied : Entries) → w < length b.flights → fs ≡ set b.flights w None → due_for b.plan b.names x ≡ [] → x.operation.worker ≡ w → names ≡ ended_names b.names x.operation.worker x.operation.key (placed_at b.applied x.operation.key) x.operation.new → GivesBack b.room x.operation.worker room → row_at applied x.operation.key ≡ option_map bare x.operation.new → KeepsOthers x.operation.key b.applied applied → BoardFollows w x b.names b.room b (record { plan = b.plan; names = names; room = room; applied = applied; flights = fs })
  ends fs names room applied below out none worker names_are room_is row others = record {
    others = record { plan = refl; flights = λ v apart. ap (λ l. flight_on l v) out ∙ on-other b.flights w v None apart; rows = others.rows };
    more = λ some. absurd (some none);
    over = λ _. record {
      row = row;
      none = ap (λ l. flight_on l w) out ∙ on-same b.flights w None below;
      names_are = names_are ∙ ap (λ n. ended_names b.names n x.operation.key (placed_at b.applied x.operation.key) x.operation.new) worker;
      room_is = subst (λ n. GivesBack b.room n room) worker room_is;
    };
  }

-- ---- a beginning

-- what a start tells, of the place, the row and the answer as they are known
pub started-in : (plan : Ports) (names : Names) (room : RoomState) (used : List ℕ) (w : ℕ) (k : Key) (names' : Names) (room' : RoomState) (v u : Vrf) (seen row new : Option BareRow) (a a' : Result FlightState Wait) → v ≡ u → seen ≡ row → a ≡ a' → IsStartedBy plan names room used w k (in_place v seen) (in_place v new) (answered operation_in a) names' room' → IsStartedBy plan names room used w k (in_place u row) (in_place u new) (answered operation_in a') names' room'
started-in plan names room used w k names' room' v u seen row new a a' place same is h =
    subst (λ z. IsStartedBy plan names room used w k (in_place u row) (in_place u new) (answered operation_in z) names' room') is
    (subst (λ o. IsStartedBy plan names room used w k (in_place u o) (in_place u new) (answered operation_in a) names' room') same
    (subst (λ x. IsStartedBy plan names room used w k (in_place x seen) (in_place x new) (answered operation_in a) names' room') place h))

module _ (plan : Ports) (names : Names) (room : RoomState) (used : List ℕ) (w : ℕ) (k : Key) (new : Option Row) (names' : Names) (room' : RoomState) where
  pub operation-is : (old : Option Row) (f : Operation) → IsStartedBy plan names room used w k old new (Ok f) names' room' → IsOperationOf w k new f
  operation-is old f h = subst (IsOperationOf w k new) (sym h.1) (starts-as (begun_names plan names w k old new) w k old new (first_due plan names k old new) (leaving plan k old new))

module _ (old mid new : BoardState) (used : List ℕ) (w : ℕ) (k : Key) (row : Option BareRow) (free : IsUnflown old k) where
  pub begun-ok : (f : FlightState) → StartsOn old used w k row f.flown.operation mid.names mid.room → f.flown.group ≡ None → mid.plan ≡ old.plan → HasSameRows old.applied mid.applied → mid.flights ≡ set old.flights w (Some f) → BoardFollows w f.flown mid.names mid.room mid new → IsBegunFor old used w k row (Ok tt) new
  begun-ok f h group plan rows flights follows =
      let from = follows-from w f.flown mid.names mid.room old mid new plan rows (λ v apart. ap (λ l. flight_on l v) flights ∙ on-other old.flights w v (Some f) apart) follows in
      (free, f.flown.operation, mid.names, mid.room, h, subst (λ g. BoardFollows w (record { operation = f.flown.operation; group = g }) mid.names mid.room old new) group from)

  pub begun-err : (wait : Wait) (counted : List ℕ) → AreCountedWith old used counted → IsStartedBy old.plan old.names old.room counted w k (placed_at old.applied k) (placed_for old.applied k row) (Err wait) new.names new.room → new.plan ≡ old.plan → HasSameRows old.applied new.applied → new.flights ≡ old.flights → IsBegunFor old used w k row (Err wait) new
  begun-err wait counted counts h plan rows flights = (record { plan = plan; names = h.1; room = h.2; flights = flights; rows = rows }, inr (free, record { counted = counted; counts = counts; first = h.0 }))

-- a key that is held up before anything is kept for it
module _ (old : BoardState) (used : List ℕ) (w : ℕ) (k : Key) (row : Option BareRow) where
  pub held-begun : (reason : Wait) → IsHeldUp old k row reason → IsBegunFor old used w k row (Err reason) old
  held-begun reason (inl h) = (record { plan = refl; names = refl; room = refl; flights = refl; rows = λ q. refl }, inl h)
  held-begun reason (inr (unflown, missing)) =
      let was = placed_at old.applied k in
      let is = placed_for old.applied k row in
      let counted = all_counted used (flown_at old) in (
        record { plan = refl; names = refl; room = refl; flights = refl; rows = λ q. refl },
        inr (
          unflown,
          record {
            counted = counted;
            counts = all-counts used (flown_at old);
            first = ap (λ o. or_else o (or_else (holder_of old.names k was is) (or_else (busy_for old.plan old.names w k was is) (crowded_for old.plan old.names old.room counted k was is)))) missing;
          },
        ),
      )

-- ---- an answer

pub took_event : (old mid new : BoardState) (w : ℕ) (made : Option Vid) (f g : FlightState) → flight_at old w ≡ Some f → TookFor f.flown.operation f.flown.group made old.names g.flown mid.names → mid.plan ≡ old.plan → mid.applied ≡ old.applied → mid.room ≡ old.room → mid.flights ≡ set old.flights w (Some g) → BoardFollows w g.flown mid.names mid.room mid new → IsTakenFor old w made new
took_event old mid new w made f g at took plan applied room flights follows = λ x e.
    let same = same-flown (flight_at old w) f x at e in
    let from = follows-from w g.flown mid.names mid.room old mid new plan (λ q. ap (λ es. row_at es q) applied) (λ v apart. ap (λ l. flight_on l v) flights ∙ on-other old.flights w v (Some g) apart) follows in
    (g.flown, mid.names, subst (λ z. TookFor z.operation z.group made old.names g.flown mid.names) same took, subst (λ r. BoardFollows w g.flown mid.names r old new) room from)
