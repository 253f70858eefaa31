-- a key to sync begins or waits
use Rattle.std.proofs.Common.{◌≡◌, ◌⊎◌, ◌+◌, ◌<◌, ◌∷◌, ◌∙◌, inl, inr, ℕ, true, List, [], Option, None, Some, option_map, Ok, Err, refl, sym, ap, ap₂, subst}
use Rattle.std.specs.Map.{keys_of}
use Rattle.table_schema.specs.Plan.{IsPlan}
use Rattle.table_schema.specs.declared.key.Key.{Key}
use Rattle.sai_types.specs.ChipState.{ChipState}
use Rattle.switch_model.specs.Desired.{have_rows}
use Rattle.switch_model.specs.Good.{good_row}
use Rattle.switch_model.specs.Placed.{Placed as Row, bare, bare_rows, place}
use Rattle.switch_model.specs.declared.wait.Wait.{Wait}
use Rattle.switch_model.specs.declared.wait.Wait.TheVariants as wait
use Rattle.consumer_table.specs.Ops.{AreOpsInOrder, without_op}
use Rattle.row_layout.specs.Operations.{Change}
use Rattle.row_layout.specs.Rows.{Owner}
use Rattle.switch_machine.specs.Events.{Follows as Event, HasLeft, IsBegin, IsDrop, SwitchState, placed_good}
use Rattle.switch_machine.specs.Flights.{Fits, MachineFlight, IsResting, Machine, put}
use Rattle.switch_machine.specs.Reasons.{IsReason}
use Rattle.switch_machine.specs.Steps.{started}
use Rattle.switch_machine.specs.Written.{Written, good_of}
use Rattle.switch_machine.proofs.Splits.{put_at}
use Rattle.machine_laws.proofs.Possible.{fits-placed}
use Rattle.machine_laws.proofs.Rows.{bare_with, router_same}
use Rattle.ref_counts.specs.Registry.{Names}
use Rattle.ref_counts.specs.Room.{RoomState}
use Rattle.orch_flight.specs.Needing.{row_names, wait_of}
use Rattle.orch_flight.specs.Operation.{Operation}
use Rattle.orch_flight.specs.Sharing.{MayStart}
use Rattle.orch_flight.specs.Starting.{IsStartedBy, begun_names, first_due, leaving, started_by}
use Rattle.registry_laws.specs.Ending.{MayEnd, ended_names}
use Rattle.registry_laws.specs.Flown.{due_for, flight_of, still_there_in_all}
use Rattle.registry_laws.specs.Flying.{flown_as, with_machine}
use Rattle.registry_laws.specs.Registers.{AreUsed}
use Rattle.registry_laws.proofs.Allowed.{may_start}
use Rattle.registry_laws.proofs.Waiting.{reason_by}
use Rattle.registry_laws.specs.Standing.{IsNotFlown, StandsFor}
use Rattle.registry_laws.proofs.Core.Counted.{are_used}
use Rattle.registry_laws.proofs.Core.Empty.{stands_dropped}
use Rattle.registry_laws.proofs.Core.Ends.{started-ends}
use Rattle.registry_laws.proofs.Core.Opened as opened
use Rattle.registry_laws.proofs.Core.Resting.{differing_reads, flown_busy, free_rests}
use Rattle.asic_view.specs.View.{rid_at}
use Rattle.sync_tables.specs.Tables.{IsToSync}
use Rattle.sync_tables.proofs.KeysLeave.{has_left}
use Rattle.restart_laws.specs.Logged.{LoggedService}
use Rattle.flight_board.specs.Applied.{placed_at, placed_for, row_at}
use Rattle.flight_board.specs.Board.{AreCountedWith, BoardState, FlightState, BoardFollows, IsBegunFor, IsFlownAt, IsSameBoard, IsUnflown, MayEndAtOnce, StartsOn, WaitsOn, flight_on, flown_at}
use Rattle.warm_state.specs.declared.warm.Warm.TheVariants as warm
use Rattle.session_laws.specs.Core.{CoreState, good_in}
use Rattle.session_laws.specs.Events.{CountObjects, IsMachineStep, MakesOne, session_with}
use Rattle.session_laws.specs.Standing.{IsSessionOf, IsWorking}
use Rattle.session_laws.proofs.Answering.{nothing_not, rows_all}
use Rattle.session_laws.proofs.Following.{rows_by, rows_ended, rows_kept}
use Rattle.session_laws.proofs.Making.{machine_step, without_call}
use Rattle.session_laws.proofs.Places.{in-places}
use Rattle.session_laws.proofs.Preparing.{flown_alike, stands_on, with_board}

-- ---- what an operation that starts is

starts_as : (names : Names) (w : ℕ) (k : Key) (old new : Option Row) (due : List Change) (leaves : Option Owner) → ((started_by names w k old new due leaves).key ≡ k) × ((started_by names w k old new due leaves).new ≡ new)
starts_as names w k old new [] (Some o) = (refl, refl)
starts_as names w k old new [] None = (refl, refl)
starts_as names w k old new (e ∷ es) leaves = (refl, refl)

-- ---- a key of a session

-- a step that drops this key, which has its good row
abbrev pub DropsKey : CoreState → LoggedService → Key → CoreState → ChipState → Type 0
DropsKey c s k c' chip' = (x : MakesOne c s c' chip') × (y : IsDrop c.board.plan s.service.core x.later.service.core) × (y.key ≡ k) × IsMachineStep s None x.later

-- a step in which an operation of the key begins for a worker
abbrev pub BeginsKey : CoreState → LoggedService → ℕ → Key → CoreState → ChipState → Type 0
BeginsKey c s w k c' chip' = (x : MakesOne c s c' chip') × (y : IsBegin c.board.plan 4 c.sync.capacities s.service.core x.later.service.core) × (y.worker ≡ w) × (y.flight.key ≡ k) × IsMachineStep s None x.later

module _ (c : CoreState) (chip : ChipState) (s : LoggedService) (is : IsSessionOf c chip s) (at : c.warm ≡ warm.Reconciled) (k : Key) where
  abbrev core : SwitchState
  core = s.service.core

  abbrev its : IsWorking c chip core
  its = is.working at

  abbrev later : List Key
  later = keys_of (without_op c.tables.ops k)

  pub good_is : good_of c.board.plan core.written k ≡ good_in c k
  good_is = ap (λ (z : Written). good_row c.board.plan k (z.rows k)) is.written

  not_flown : IsUnflown c.board k → IsNotFlown (flown_at c.board) k
  not_flown un v x less there same = un v (x, there, same)

  rests : IsUnflown c.board k → IsResting core.machine.board k
  rests un = free_rests c.board.plan c.sync.capacities c.board.names c.board.room (flown_at c.board) core its.stands.board k (not_flown un)

  leaves : AreOpsInOrder c.tables.ops → IsToSync c.tables k → HasLeft k core.to_sync later
  leaves order i = subst (λ l. HasLeft k l later) (sym is.to_sync) (has_left c.tables.ops k order i)

  -- the applied rows, and the good row of the key, in their places
  placed_is : (q : Key) → core.machine.board.applied q ≡ placed_at c.board.applied q
  placed_is = in-places c chip core its

  new_is : placed_good c.board.plan core.machine.board core.written k ≡ placed_for c.board.applied k (good_in c k)
  new_is = ap₂ (λ v o. option_map (place v) o) (router_same (bare_rows core.machine.board.applied) (row_at c.board.applied) its.rows k) good_is

  -- what it names fits, where all of it is applied
  fits : IsToSync c.tables k → (r : Row) → placed_good c.board.plan core.machine.board core.written k ≡ Some r → have_rows (bare_rows core.machine.board.applied) (row_names k r) ≡ true → Fits c.board.plan k r
  fits i r h names = fits-placed c.board.plan is.plan 4 c.sync.capacities core k its.stands.safe (is.to_sync_read k i) r h names

  differs_then : (row_at c.board.applied k ≡ good_in c k → ⊥) → option_map bare (core.machine.board.applied k) ≡ good_of c.board.plan core.written k → ⊥
  differs_then differs h = differs (sym (its.rows k) ∙ h ∙ good_is)

  -- a worker has it under way
  pub busy : (v : ℕ) → IsFlownAt c.board k v → IsReason c.board.plan 4 c.sync.capacities core k (wait.Busy v)
  busy v flown = subst (λ q. IsReason c.board.plan 4 c.sync.capacities core q (wait.Busy v)) flown.2 (flown_busy c.board.plan c.sync.capacities c.board.names c.board.room (flown_at c.board) core its.stands.board v flown.0 flown.1)

  -- places that the board keeps for nothing
  pub same_board : (b : BoardState) → IsSameBoard c.board b → IsSessionOf (record c { board = b }) chip s
  same_board b same = with_board c chip s b is same.plan (λ _ x. record {
    stands = stands_on c.sync.capacities (rid_at c.sync.view) core b c.board.plan c.board.names c.board.room (flown_at c.board) same.plan same.names same.room (λ v. ap (λ l. option_map (λ (f : FlightState). f.flown) (flight_on l v)) same.flights) x.stands;
    rows = λ q. x.rows q ∙ sym (same.rows q);
    tied = x.tied;
    no_view = x.no_view;
    no_plan = x.no_plan;
  })

  -- ---- it has its good row

  abbrev without : CoreState
  without = record c { tables = record c.tables { ops = without_op c.tables.ops k } }

  module _ (i : IsToSync c.tables k) where
    module _ (order : AreOpsInOrder c.tables.ops) (un : IsUnflown c.board k) (same : row_at c.board.applied k ≡ good_in c k) where
      abbrev dropped : SwitchState
      dropped = record { machine = core.machine; written = core.written; to_sync = later; made = core.made; objects = core.objects }

      drop : IsDrop c.board.plan core dropped
      drop = record { key = k; rests = rests un; same = its.rows k ∙ same ∙ sym good_is; machine = refl; written = refl; made = refl; objects = refl; to_sync = leaves order i }

      drop_step : MakesOne c s without chip
      drop_step = record {
        later = session_with s dropped None;
        plan = refl;
        capacities = refl;
        limit = refl;
        makes = machine_step c.board.plan c.sync.capacities s dropped None (is.warm_is ∙ at) (inr (inr (inl drop))) refl;
        stands = record {
          plan = is.plan;
          capacities = is.capacities;
          clean = is.clean;
          warm_is = is.warm_is;
          written = is.written;
          to_sync = refl;
          objects = is.objects;
          made = is.made;
          log = is.log;
          effects = without_call s ∙ is.effects;
          listed = is.listed;
          to_sync_read = λ q j. is.to_sync_read q ((has_left c.tables.ops k order i).only q j);
          waiting_read = is.waiting_read;
          working = λ _. record {
            stands = stands_dropped c.board.plan is.plan c.sync.capacities c.board.names c.board.room (flown_at c.board) (rid_at c.sync.view) core dropped its.stands drop;
            rows = its.rows;
            tied = its.tied;
            no_view = its.no_view;
            no_plan = its.no_plan;
          };
        };
      }

      pub drops : DropsKey c s k without chip
      unfolding drop drop_step
      drops = (drop_step, drop, refl, refl)

    -- ---- it has another

    module _ (w : ℕ) (less : w < 4) (none : flown_at c.board w ≡ None) (differs : IsUnflown c.board k → row_at c.board.applied k ≡ good_in c k → ⊥) where
      pub may : IsUnflown c.board k → MayStart c.board.plan c.board.names w k (placed_at c.board.applied k) (placed_for c.board.applied k (good_in c k))
      may un =
          subst (λ o. MayStart c.board.plan c.board.names w k o (placed_for c.board.applied k (good_in c k))) (placed_is k)
          (subst (λ o. MayStart c.board.plan c.board.names w k (core.machine.board.applied k) o) new_is
          (may_start c.board.plan is.plan c.sync.capacities core its.stands.safe c.board.names c.board.room (flown_at c.board) its.stands.board w none k (rests un) less (differing_reads c.board.plan core its.stands.safe.sound k (differs_then (differs un))) (differs_then (differs un)) (fits i)))

      module _ (used : List ℕ) (are : CountObjects core.objects used) where
        -- what the board counts is what stands, with what is to be made again
        counted_are : (counted : List ℕ) → AreCountedWith c.board used counted → AreUsed core.machine core.objects counted
        counted_are counted counts = are_used c.board.plan c.sync.capacities c.board.names c.board.room (flown_at c.board) (rid_at c.sync.view) core its.stands counted (λ kind. counts kind ∙ ap (λ n. n + still_there_in_all (flown_at c.board) kind) (are kind))

        -- it waits
        reason : (r : Wait) → (((v : ℕ) × IsFlownAt c.board k v × (r ≡ wait.Busy v)) ⊎ (IsUnflown c.board k × WaitsOn c.board used w k (good_in c k) r)) → IsReason c.board.plan 4 c.sync.capacities core k r
        reason r (inl (v, flown, is_busy)) = subst (IsReason c.board.plan 4 c.sync.capacities core k) (sym is_busy) (busy v flown)
        reason r (inr (un, waits)) =
            reason_by c.board.plan is.plan 4 c.sync.capacities core its.stands.safe c.board.names c.board.room its.stands.board.registers its.stands.board.busy waits.counted (counted_are waits.counted waits.counts) w (its.stands.board.idle w none) k (rests un) (fits i) (placed_good c.board.plan core.machine.board core.written k) refl (differs_then (differs un)) r
            (subst (λ o. wait_of c.board.plan c.board.names c.board.room waits.counted w k (core.machine.board.applied k) o ≡ Some r) (sym new_is)
            (subst (λ o. wait_of c.board.plan c.board.names c.board.room waits.counted w k o (placed_for c.board.applied k (good_in c k)) ≡ Some r) (sym (placed_is k)) waits.first))

        pub waits_on : (r : Wait) (b : BoardState) → IsBegunFor c.board used w k (good_in c k) (Err r) b → IsSessionOf (record c { board = b }) chip s × IsReason c.board.plan 4 c.sync.capacities core k r
        waits_on r b h = (same_board b h.0, reason r h.1)

        -- it begins
        module _ (order : AreOpsInOrder c.tables.ops) (un : IsUnflown c.board k) (f : Operation) (names' : Names) (room' : RoomState) (starts : StartsOn c.board used w k (good_in c k) f names' room') where
          starts_there : IsStartedBy c.board.plan c.board.names c.board.room starts.counted w k (core.machine.board.applied k) (placed_good c.board.plan core.machine.board core.written k) (Ok f) names' room'
          starts_there =
              subst (λ o. IsStartedBy c.board.plan c.board.names c.board.room starts.counted w k o (placed_good c.board.plan core.machine.board core.written k) (Ok f) names' room') (sym (placed_is k))
              (subst (λ o. IsStartedBy c.board.plan c.board.names c.board.room starts.counted w k (placed_at c.board.applied k) o (Ok f) names' room') (sym new_is) starts.started)

          is_of : (f.key ≡ k) × (f.new ≡ placed_for c.board.applied k (good_in c k))
          is_of = subst (λ (g : Operation). (g.key ≡ k) × (g.new ≡ placed_for c.board.applied k (good_in c k))) (sym starts.started.1) (starts_as (begun_names c.board.plan c.board.names w k (placed_at c.board.applied k) (placed_for c.board.applied k (good_in c k))) w k (placed_at c.board.applied k) (placed_for c.board.applied k (good_in c k)) (first_due c.board.plan c.board.names k (placed_at c.board.applied k) (placed_for c.board.applied k (good_in c k))) (leaving c.board.plan k (placed_at c.board.applied k) (placed_for c.board.applied k (good_in c k))))

          may_there : MayStart c.board.plan c.board.names w k (core.machine.board.applied k) (placed_good c.board.plan core.machine.board core.written k)
          may_there =
              subst (λ o. MayStart c.board.plan c.board.names w k o (placed_good c.board.plan core.machine.board core.written k)) (sym (placed_is k))
              (subst (λ o. MayStart c.board.plan c.board.names w k (placed_at c.board.applied k) o) (sym new_is) (may un))

          -- where nothing is due for it, it may end
          pub may_come : due_for c.board.plan names' (flown_as f None) ≡ [] → MayEnd names' w k (placed_good c.board.plan core.machine.board core.written k)
          may_come empty = started-ends c.board.plan is.plan c.sync.capacities c.board.names c.board.room (flown_at c.board) (rid_at c.sync.view) core its.stands w names' room' starts.counted k f none (not_flown un) may_there starts_there empty

          may_end : due_for c.board.plan names' (flown_as f None) ≡ [] → MayEnd names' w k f.new
          may_end empty = subst (MayEnd names' w k) (new_is ∙ sym is_of.1) (may_come empty)

        pub ends_at_once : AreOpsInOrder c.tables.ops → IsUnflown c.board k → MayEndAtOnce c.board used w k (good_in c k)
        ends_at_once order un f names' room' starts empty = may_end order un f names' room' starts empty

        module _ (order : AreOpsInOrder c.tables.ops) (un : IsUnflown c.board k) (f : Operation) (names' : Names) (room' : RoomState) (starts : StartsOn c.board used w k (good_in c k) f names' room') (b : BoardState) (follows : BoardFollows w (record { operation = f; group = None }) names' room' c.board b) where
          abbrev with : Machine → SwitchState
          with t = with_machine core t later

          abbrev Begins : Machine → Type 0
          Begins t = (y : IsBegin c.board.plan 4 c.sync.capacities core (with t)) × (y.worker ≡ w) × (y.flight.key ≡ k)

          there : IsStartedBy c.board.plan c.board.names c.board.room starts.counted w k (core.machine.board.applied k) (placed_good c.board.plan core.machine.board core.written k) (Ok f) names' room'
          there = starts_there order un f names' room' starts

          abbrev of : (f.key ≡ k) × (f.new ≡ placed_for c.board.applied k (good_in c k))
          of = is_of order un f names' room' starts

          event : (t : Machine) (z : Begins t) → Event c.board.plan w (started core.machine w z.0.flight z.0.due) t
          event t z = subst (λ v. Event c.board.plan v (started core.machine v z.0.flight z.0.due) t) z.1 z.0.follows

          step : (t : Machine) → Begins t → StandsFor b.plan c.sync.capacities b.names b.room (flown_at b) (rid_at c.sync.view) (with t) → ((q : Key) → bare_rows t.board.applied q ≡ row_at b.applied q) → BeginsKey c s w k (record without { board = b }) chip
          step t z stands rows = (
            record {
              later = session_with s (with t) None;
              plan = follows.others.plan;
              capacities = refl;
              limit = refl;
              makes = machine_step c.board.plan c.sync.capacities s (with t) None (is.warm_is ∙ at) (inr (inr (inr z.0))) refl;
              stands = record {
                plan = subst IsPlan (sym follows.others.plan) is.plan;
                capacities = is.capacities;
                clean = is.clean;
                warm_is = is.warm_is;
                written = is.written;
                to_sync = refl;
                objects = is.objects;
                made = is.made;
                log = is.log;
                effects = without_call s ∙ is.effects;
                listed = is.listed;
                to_sync_read = λ q j. is.to_sync_read q ((has_left c.tables.ops k order i).only q j);
                waiting_read = is.waiting_read;
                working = λ _. record { stands = stands; rows = rows; tied = its.tied; no_view = its.no_view; no_plan = its.no_plan };
              };
            },
            z.0,
            z.1,
            z.2,
            refl,
          )

          on : (due_for c.board.plan names' (flown_as f None) ≡ [] → ⊥) → BeginsKey c s w k (record without { board = b }) chip
          on some =
              let goes = follows.more some in
              let y = opened.goes_on c.board.plan is.plan c.sync.capacities c.board.names c.board.room (flown_at c.board) (rid_at c.sync.view) core its.stands room' starts.counted (counted_are starts.counted starts.counts) w less none k (rests un) (differs_then (differs un)) (fits i) later (leaves order i) f names' there some in
              let flying = y.2.board.flying w (flown_as f None) (put_at w w (Some (flown_as f None)) (flown_at c.board) refl) in
              step y.0 y.1
              (stands_on c.sync.capacities (rid_at c.sync.view) (with y.0) b c.board.plan names' room' (put w (Some (flown_as f None)) (flown_at c.board)) follows.others.plan goes.names_are goes.room_is (flown_alike c.board b w (Some (flown_as f None)) goes.flying follows.others.flights) y.2)
              (λ q. ap (option_map bare) (rows_kept c.board.plan w (started core.machine w y.1.0.flight y.1.0.due) y.0 (flight_of f) (event y.0 y.1) flying.flying q) ∙ its.rows q ∙ rows_all f.key (row_at c.board.applied) (row_at b.applied) goes.row follows.others.rows q)

          over : due_for c.board.plan names' (flown_as f None) ≡ [] → BeginsKey c s w k (record without { board = b }) chip
          over empty =
              let ends = follows.over empty in
              let y = opened.ends c.board.plan is.plan c.sync.capacities c.board.names c.board.room (flown_at c.board) (rid_at c.sync.view) core its.stands room' starts.counted (counted_are starts.counted starts.counts) w less none k (rests un) (differs_then (differs un)) (fits i) later (leaves order i) f names' there b.room (may_come order un f names' room' starts empty) empty ends.room_is in
              let gone = y.2.board.idle w (put_at w w None (flown_at c.board) refl) in
              let flight : MachineFlight = y.1.0.flight in
              let same : flight.key ≡ f.key = y.1.2 ∙ sym of.0 in
              step y.0 y.1
              (stands_on c.sync.capacities (rid_at c.sync.view) (with y.0) b c.board.plan (ended_names names' w k (core.machine.board.applied k) (placed_good c.board.plan core.machine.board core.written k)) b.room (put w None (flown_at c.board)) follows.others.plan
              (ends.names_are ∙ ap (λ q. ended_names names' w q (placed_at c.board.applied q) f.new) of.0 ∙ ap (λ o. ended_names names' w k o f.new) (sym (placed_is k)) ∙ ap (ended_names names' w k (core.machine.board.applied k)) (of.1 ∙ sym new_is))
              refl (flown_alike c.board b w None (ap (option_map (λ (g : FlightState). g.flown)) ends.none) follows.others.flights) y.2)
              (λ q. ap (option_map bare) (rows_ended c.board.plan w (started core.machine w flight y.1.0.due) y.0 flight (event y.0 y.1) (put_at w w (Some flight) core.machine.board.flights refl) gone q)
              ∙ bare_with flight.key flight.new core.machine.board.applied q
              ∙ rows_by flight.key (option_map bare flight.new) (bare_rows core.machine.board.applied) (row_at b.applied)
              (ap (row_at b.applied) same ∙ ends.row ∙ ap (option_map bare) (of.1 ∙ sym new_is ∙ ap (placed_good c.board.plan core.machine.board core.written) (sym y.1.2) ∙ sym y.1.0.new))
              (λ p apart. follows.others.rows p (λ h. apart (h ∙ sym same)) ∙ sym (its.rows p)) q)

          begin_step : BeginsKey c s w k (record without { board = b }) chip
          begin_step = by (due_for c.board.plan names' (flown_as f None)) refl
            where
              by : (l : List Change) → due_for c.board.plan names' (flown_as f None) ≡ l → BeginsKey c s w k (record without { board = b }) chip
              by [] e = over e
              by (e ∷ es) h = on (λ empty. nothing_not e es (sym h ∙ empty))

        pub begins : AreOpsInOrder c.tables.ops → (x : Unit {0}) (b : BoardState) → IsBegunFor c.board used w k (good_in c k) (Ok x) b → BeginsKey c s w k (record without { board = b }) chip
        begins order x b h = begin_step order h.0 h.1 h.2 h.3 h.4 b h.5
