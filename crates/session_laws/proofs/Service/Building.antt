-- a building begins, goes on by the same operations as ever, and comes to its end
use Rattle.std.proofs.Common.{◌≡◌, ◌⊎◌, ◌<◌, ◌++◌, ◌∷◌, ◌∙◌, inl, inr, ℕ, cond, List, [], None, Some, option_map, Ok, Err, refl, sym, ap, subst, arith}
use Rattle.std.specs.Map.{keys_of}
use Rattle.std.specs.Ordering.{is_eq}
use Rattle.std.specs.declared.cmp.Ordering.TheVariants.{Less}
use Rattle.std.proofs.lemmas.List.{append_assoc}
use Rattle.swss_types.proofs.Maps.{lookup-insert_entry}
use Rattle.table_schema.specs.Key.{key_cmp}
use Rattle.table_schema.specs.Rows.{fields_at}
use Rattle.table_schema.specs.declared.key.Key.{Key}
use Rattle.table_schema.proofs.Keys.{at_itself, key_total}
use Rattle.sai_types.specs.declared.answer.SyncAnswer.{SyncAnswer}
use Rattle.sai_types.specs.declared.body.Call.{Call}
use Rattle.sai_types.specs.declared.ids.Rid.{Rid}
use Rattle.sai_types.specs.declared.ids.Vid.{Vid}
use Rattle.sai_types.specs.declared.kind.Kind.{Kind}
use Rattle.sai_types.specs.Alike.{IsIn}
use Rattle.sai_types.specs.ChipState.{ChipState, new_chip}
use Rattle.chip_layout.specs.Renamed.{call_renamed}
use Rattle.switch_model.specs.declared.wait.Wait.{Wait}
use Rattle.retry_list.specs.Reasons.{Reasons, reason_at, with_reason}
use Rattle.retry_list.proofs.Keyed.{sorted_from_rising}
use Rattle.consumer_table.specs.Ops.{AreOpsInOrder, Ops, without_op}
use Rattle.switch_machine.specs.Events.{IsAnswer, IsBegin, IsDrop, SwitchState, after_answers, fresh_view}
use Rattle.switch_machine.specs.Reasons.{IsReason}
use Rattle.switch_machine.specs.Written.{ArePopped, HasWrittenRows, IsTold}
use Rattle.switch_machine.proofs.Dated.{dated-popped}
use Rattle.switch_machine.proofs.Telling.{told-popped}
use Rattle.switch_machine.proofs.Splits.{IsSplit, nat_split}
use Rattle.machine_laws.specs.ToSync.{AreInKeyOrder}
use Rattle.ref_counts.specs.Room.{all_free, number_of_kind}
use Rattle.orch_flight.specs.Sharing.{MayStart}
use Rattle.registry_laws.specs.Flown.{Flown}
use Rattle.registry_laws.specs.Making.{IsNextCall, MayTakeFor}
use Rattle.registry_laws.specs.Standing.{HasBegun, StandsFor}
use Rattle.registry_laws.proofs.Core.Empty.{stands_fresh}
use Rattle.registry_laws.proofs.Core.Resting.{none_flies}
use Rattle.registry_laws.proofs.Core.Same.{stands_flown}
use Rattle.apply_laws.proofs.Tying.Alike.{none-tied}
use Rattle.restart_laws.specs.Logged.{LoggedService}
use Rattle.restart_laws.specs.Restored.{IsPass, keys_waiting}
use Rattle.asic_view.specs.View.{ViewObjects, rid_at, used_of}
use Rattle.syncd_core.specs.Synced.{CanCall, Calls, Changes, SyncState, current, view_in, with_temporary}
use Rattle.syncd_core.specs.Tied.{tie_of}
use Rattle.sync_tables.specs.Tables.{IsToSync}
use Rattle.flight_board.specs.Applied.{placed_at, placed_for, row_at}
use Rattle.flight_board.specs.Board.{BoardState, FlightState, IsBegunFor, IsPrepared, IsCallReady, IsTakenFor, IsUnflown, MayEndAtOnce, MayEndThen, flight_on, flown_at, new_board}
use Rattle.warm_state.specs.declared.warm.Warm.TheVariants as warm
use Rattle.session_laws.specs.Core.{CoreState, good_in}
use Rattle.session_laws.specs.Events.{CountObjects, vid_made_by}
use Rattle.session_laws.specs.Standing.{IsSessionOf}
use Rattle.session_laws.proofs.Answering.{answer_step, may as may_answer, may_end_then}
use Rattle.session_laws.proofs.Beginnings.{begins, drops, ends_at_once, may as may_begin, waits_on}
use Rattle.session_laws.proofs.Beside.{stands_with}
use Rattle.session_laws.proofs.Counting.{counts}
use Rattle.session_laws.proofs.Preparing.{can, has_begun, prepared_stands, ready}
use Rattle.session_laws.proofs.Beginning.{none_flown}
use Rattle.session_laws.proofs.Settling.Walking.{in_key_order, walk_goes}
use Rattle.session_laws.specs.Service.Built.{AreReasons, IsBringing, IsBuilt, IsViewOver, building, over_view, untied_view}
use Rattle.session_laws.specs.Service.Standing.{IsServiceOf, written_of}
use Rattle.session_laws.proofs.Service.Popped.{popped-all}
use Rattle.session_laws.proofs.Service.Reading.{rows-read}
use Rattle.session_laws.proofs.Service.Viewing.{IsMadeOver, chip_then, made-over, untied-legal, untied-used}

none_less : 0 < 4
none_less = omega arith

-- ---- the keys that wait, with one more

key_within : (left rest : List Key) (k : Key) → IsIn k (left ++ k ∷ rest)
key_within [] rest k = inl refl
key_within (p ∷ ps) rest k = inr (key_within ps rest k)

lesser : (left rest : List Key) (k : Key) → AreInKeyOrder (left ++ k ∷ rest) → (p : Key) → IsIn p left → key_cmp p k ≡ Less
lesser [] rest k order p i = elim i [ ]
lesser (q ∷ qs) rest k order p (inl is) = ap (λ x. key_cmp x k) is ∙ order.0 k (key_within qs rest k)
lesser (q ∷ qs) rest k order p (inr i) = lesser qs rest k order.1 p i

waiting_more : (ws : List (Key × Wait)) (k : Key) (r : Wait) (rest : List Key) → keys_waiting (ws ++ (k, r) ∷ []) ++ rest ≡ keys_waiting ws ++ (k ∷ rest)
waiting_more [] k r rest = refl
waiting_more (w ∷ ws) k r rest = ap (λ l. w.0 ∷ l) (waiting_more ws k r rest)

reasons_more : (reasons : Reasons) (k : Key) (r : Wait) (ws : List (Key × Wait)) → ((q : Key) → IsIn q (keys_waiting ws) → key_cmp q k ≡ Less) → AreReasons reasons ws → AreReasons (with_reason reasons k r) (ws ++ (k, r) ∷ [])
reasons_more reasons k r [] below have = (lookup-insert_entry key_cmp key_total reasons k r k ∙ ap (λ b. cond b (Some r) (reason_at reasons k)) (at_itself k k refl), tt)
reasons_more reasons k r (w ∷ ws) below have = (
  lookup-insert_entry key_cmp key_total reasons k r w.0 ∙ ap (λ o. cond (is_eq o) (Some r) (reason_at reasons w.0)) (below w.0 (inl refl)) ∙ have.0,
  reasons_more reasons k r ws (λ q i. below q (inr i)) have.1,
)

-- ---- a building begins

module _ (first : CoreState) (chip : ChipState) (s : LoggedService) (is : IsServiceOf first chip s) (at : first.warm ≡ warm.Restored) (popped : first.tables.waiting ≡ []) (ops : Ops) (order : AreOpsInOrder ops) (only : (k : Key) → IsIn k (keys_of ops) → fields_at first.tables.rows k ≡ None → ⊥) (all : (k : Key) → (fields_at first.tables.rows k ≡ None) ⊎ IsIn k (keys_of ops)) where
  abbrev c : CoreState
  c = building first ops

  abbrev fresh : SwitchState
  fresh = fresh_view (written_of first) (keys_of ops)

  abbrev own_chip : ChipState
  own_chip = new_chip first.sync.capacities []

  abbrev own : LoggedService
  own = record { service = record { warm = warm.Reconciled; core = fresh; seen = []; left = [] }; log = first.log; effects = [] }

  popped_now : ArePopped s.service.core.written (written_of first)
  popped_now = popped-all first s.service.core.written is.always.ahead popped

  told : IsTold (written_of first)
  told = told-popped s.service.core.written (written_of first) popped_now is.always.holds.safe.told

  dated : HasWrittenRows (written_of first)
  dated = dated-popped s.service.core.written (written_of first) is.always.holds.safe.told popped_now is.always.holds.safe.dated

  bare : first.board ≡ new_board first.board.plan first.sync.capacities
  bare = (is.seen at).bare.board

  stands : StandsFor first.board.plan first.sync.capacities first.board.names first.board.room (flown_at first.board) (rid_at []) fresh
  stands =
      subst (λ (b : BoardState). StandsFor first.board.plan first.sync.capacities b.names b.room (flown_at b) (rid_at []) fresh) (sym bare)
      (stands_flown first.board.plan first.sync.capacities [] (all_free first.sync.capacities) (λ v. None) (rid_at []) fresh
      (stands_fresh first.board.plan is.always.plan first.sync.capacities (rid_at []) (written_of first) (keys_of ops) told dated all)
      (flown_at (new_board first.board.plan first.sync.capacities)) (none_flown first.board.plan first.sync.capacities))

  session : IsSessionOf (over_view c []) own_chip own
  session = record {
    plan = is.always.plan;
    capacities = refl;
    clean = refl;
    warm_is = refl;
    written = refl;
    to_sync = refl;
    objects = refl;
    made = refl;
    log = refl;
    effects = refl;
    listed = is.always.listed;
    to_sync_read = λ k i. rows-read (written_of first) dated is.always.read.taken k (only k i);
    waiting_read = is.always.read.waiting;
    working = λ _. record {
      stands = stands;
      rows = λ k. ap (λ (b : BoardState). row_at b.applied k) (sym bare);
      tied = none-tied;
      no_view = refl;
      no_plan = refl;
    };
  }

  pub built-first : IsBuilt first c (keys_of ops)
  built-first = record {
    beside = record { rows = refl; popped = refl; plan = refl; capacities = refl; seen = refl; log = refl; listed = refl; limit = refl; warm = refl };
    own_chip = own_chip;
    own = own;
    over = record { view = []; temporary = refl; session = session };
    free = λ v less. ap (λ (b : BoardState). flown_at b v) bare ∙ none_flown first.board.plan first.sync.capacities v;
    keys = keys_of ops;
    rising = sorted_from_rising ops order.keys;
    all = all;
    waits = [];
    reasons = tt;
    ops = refl;
    pass = λ ws t h. h;
  }

-- ---- what syncd counts

module _ (c : CoreState) (own_chip : ChipState) (own : LoggedService) (over : IsViewOver c own_chip own) where
  pub counted-over : (numbers : List ℕ) → ((kind : Kind) → number_of_kind numbers kind ≡ used_of (current c.sync) kind) → CountObjects own.service.core.objects numbers
  counted-over numbers are =
      counts (over_view c over.view) own_chip own numbers over.session refl
      (λ kind. are kind ∙ ap (λ o. used_of (view_in c.sync.view o) kind) over.temporary ∙ untied-used over.view kind)

-- ---- a key is tried

pub there-tried : (first c : CoreState) (k : Key) (rest : List Key) → IsBuilt first c (k ∷ rest) → IsToSync c.tables k
there-tried first c k rest x = subst (IsIn k) (sym x.ops) (key_within (keys_waiting x.waits) rest k)

module _ (first c : CoreState) (k : Key) (rest : List Key) (x : IsBuilt first c (k ∷ rest)) (order : AreOpsInOrder c.tables.ops) where
  abbrev seen : CoreState
  seen = over_view c x.over.view

  abbrev without : CoreState
  without = record c { tables = record c.tables { ops = without_op c.tables.ops k } }

  there : IsToSync c.tables k
  there = there-tried first c k rest x

  goes : keys_of (without_op c.tables.ops k) ≡ keys_waiting x.waits ++ rest
  goes = (walk_goes c.tables.ops (keys_waiting x.waits) rest k order x.ops).0

  -- it has its good row
  pub built-drop : IsUnflown c.board k → row_at c.board.applied k ≡ good_in c k → IsBuilt first without rest
  built-drop un same =
      let y = drops seen x.own_chip x.own x.over.session refl k there order un same in
      let drop : (z : IsDrop first.board.plan x.own.service.core y.0.later.service.core) × (z.key ≡ k) = subst (λ p. (z : IsDrop p x.own.service.core y.0.later.service.core) × (z.key ≡ k)) x.beside.plan (y.1, y.2) in
      record {
        beside = record { rows = x.beside.rows; popped = x.beside.popped; plan = x.beside.plan; capacities = x.beside.capacities; seen = x.beside.seen; log = x.beside.log; listed = x.beside.listed; limit = x.beside.limit; warm = x.beside.warm };
        own_chip = x.own_chip;
        own = y.0.later;
        over = record { view = x.over.view; temporary = x.over.temporary; session = y.0.stands };
        free = x.free;
        keys = x.keys;
        rising = x.rising;
        all = x.all;
        waits = x.waits;
        reasons = x.reasons;
        ops = goes;
        pass = λ ws t h. x.pass ws t (inr (y.0.later.service.core, inl drop, h));
      }

  module _ (differs : IsUnflown c.board k → row_at c.board.applied k ≡ good_in c k → ⊥) where
    pub may-begin : IsUnflown c.board k → MayStart c.board.plan c.board.names 0 k (placed_at c.board.applied k) (placed_for c.board.applied k (good_in c k))
    may-begin un = may_begin seen x.own_chip x.own x.over.session refl k there 0 none_less (x.free 0 none_less) differs un

    -- where no call is due for it, it ends at once
    pub ends-begun : (numbers : List ℕ) → ((kind : Kind) → number_of_kind numbers kind ≡ used_of (current c.sync) kind) → IsUnflown c.board k → MayEndAtOnce c.board numbers 0 k (good_in c k)
    ends-begun numbers are un = ends_at_once seen x.own_chip x.own x.over.session refl k there 0 none_less (x.free 0 none_less) differs numbers (counted-over c x.own_chip x.own x.over numbers are) order un

    module _ (numbers : List ℕ) (are : (kind : Kind) → number_of_kind numbers kind ≡ used_of (current c.sync) kind) (b : BoardState) where
      used : CountObjects x.own.service.core.objects numbers
      used = counted-over c x.own_chip x.own x.over numbers are

      -- it waits
      pub built-wait : (r : Wait) → IsBegunFor c.board numbers 0 k (good_in c k) (Err r) b → IsBuilt first (record c { board = b; waiting = with_reason c.waiting k r }) rest
      built-wait r h =
          let y = waits_on seen x.own_chip x.own x.over.session refl k there 0 none_less (x.free 0 none_less) differs numbers used r b h in
          let reason : IsReason first.board.plan 4 first.sync.capacities x.own.service.core k r =
          subst (λ p. IsReason p 4 first.sync.capacities x.own.service.core k r) x.beside.plan (subst (λ l. IsReason c.board.plan 4 l x.own.service.core k r) x.beside.capacities y.1) in
          record {
            beside = record { rows = x.beside.rows; popped = x.beside.popped; plan = h.0.plan ∙ x.beside.plan; capacities = x.beside.capacities; seen = x.beside.seen; log = x.beside.log; listed = x.beside.listed; limit = x.beside.limit; warm = x.beside.warm };
            own_chip = x.own_chip;
            own = x.own;
            over = record { view = x.over.view; temporary = x.over.temporary; session = stands_with (record seen { board = b }) x.own_chip x.own (with_reason c.waiting k r) y.0 };
            free = λ v below. ap (λ l. option_map (λ (f : FlightState). f.flown) (flight_on l v)) h.0.flights ∙ x.free v below;
            keys = x.keys;
            rising = x.rising;
            all = x.all;
            waits = x.waits ++ (k, r) ∷ [];
            reasons = reasons_more c.waiting k r x.waits (lesser (keys_waiting x.waits) rest k (subst AreInKeyOrder x.ops (in_key_order c.tables.ops order.keys))) x.reasons;
            ops = x.ops ∙ sym (waiting_more x.waits k r rest);
            pass = λ ws t g. subst (λ l. IsPass first.board.plan 4 first.sync.capacities (fresh_view (written_of first) x.keys) x.keys l t) (sym (append_assoc x.waits ((k, r) ∷ []) ws)) (x.pass ((k, r) ∷ ws) t (inl (record { wait = r; rest = ws; is = refl; reason = reason }, g)));
          }

      -- it begins
      pub bringing-first : (u : Unit {0}) → IsBegunFor c.board numbers 0 k (good_in c k) (Ok u) b → IsBringing first (record without { board = b }) rest
      bringing-first u h =
          let y = begins seen x.own_chip x.own x.over.session refl k there 0 none_less (x.free 0 none_less) differs numbers used order u b h in
          let first_core = y.0.later.service.core in
          let begin : (z : IsBegin first.board.plan 4 first.sync.capacities x.own.service.core first_core) × (z.flight.key ≡ k) =
          subst (λ p. (z : IsBegin p 4 first.sync.capacities x.own.service.core first_core) × (z.flight.key ≡ k)) x.beside.plan
          (subst (λ l. (z : IsBegin c.board.plan 4 l x.own.service.core first_core) × (z.flight.key ≡ k)) x.beside.capacities (y.1, y.3)) in
          record {
            beside = record { rows = x.beside.rows; popped = x.beside.popped; plan = h.5.others.plan ∙ x.beside.plan; capacities = x.beside.capacities; seen = x.beside.seen; log = x.beside.log; listed = x.beside.listed; limit = x.beside.limit; warm = x.beside.warm };
            own_chip = x.own_chip;
            own = y.0.later;
            over = record { view = x.over.view; temporary = x.over.temporary; session = y.0.stands };
            free = λ v below apart. ap (option_map (λ (f : FlightState). f.flown)) (h.5.others.flights v apart) ∙ x.free v below;
            keys = x.keys;
            rising = x.rising;
            all = x.all;
            waits = x.waits;
            reasons = x.reasons;
            ops = goes;
            pass = λ answers ws t run quiet g. x.pass ws t (inr (after_answers first_core answers, inr (record { first = first_core; starting = begin.0; is = begin.1; answers = answers; run = run; ends = refl; quiet = quiet }), g));
          }

-- ---- its operation is run

module _ (first c : CoreState) (rest : List Key) (x : IsBringing first c rest) where
  abbrev seen_now : CoreState
  seen_now = over_view c x.over.view

  -- a group that is due begins
  module _ (b : BoardState) (prepared : IsPrepared c.board 0 b) (f : Flown) (there : flown_at c.board 0 ≡ Some f) where
    pub bringing-prepared : IsBringing first (record c { board = b }) rest
    bringing-prepared = record {
      beside = record { rows = x.beside.rows; popped = x.beside.popped; plan = prepared.plan ∙ x.beside.plan; capacities = x.beside.capacities; seen = x.beside.seen; log = x.beside.log; listed = x.beside.listed; limit = x.beside.limit; warm = x.beside.warm };
      own_chip = x.own_chip;
      own = x.own;
      over = record { view = x.over.view; temporary = x.over.temporary; session = prepared_stands seen_now x.own_chip x.own x.over.session 0 b prepared f there };
      free = λ v below apart. ap (option_map (λ (g : FlightState). g.flown)) (prepared.others v apart) ∙ x.free v below apart;
      keys = x.keys;
      rising = x.rising;
      all = x.all;
      waits = x.waits;
      reasons = x.reasons;
      ops = x.ops;
      pass = x.pass;
    }

    pub begun-prepared : (g : Flown) → flown_at b 0 ≡ Some g → HasBegun b.plan b.names g
    begun-prepared g now = has_begun seen_now x.own_chip x.own x.over.session 0 b prepared f there g now

    pub ready-prepared : (g : Flown) → flown_at b 0 ≡ Some g → IsCallReady b.plan b.names g
    ready-prepared g now = ready (record seen_now { board = b }) x.own_chip x.own (prepared_stands seen_now x.own_chip x.own x.over.session 0 b prepared f there) refl 0 g now (begun-prepared g now)

  -- its next call is made on the temporary view
  module _ (f : Flown) (there : flown_at c.board 0 ≡ Some f) (begun : HasBegun c.board.plan c.board.names f) (call : Call Vid) (told : IsNextCall c.board.plan c.board.names f.operation f.group call) where
    both : CanCall seen_now.sync None x.own_chip call
    both = can seen_now x.own_chip x.own x.over.session refl 0 f there begun call told

    pub can-bring : (chip : ChipState) → CanCall c.sync c.sync.temporary chip call
    can-bring chip = subst (λ o. CanCall c.sync o chip call) (sym x.over.temporary) (untied-legal x.over.view call both.0)

    module _ (a : SyncAnswer) (later : ViewObjects) (changes : Changes (untied_view x.over.view) call a later) where
      abbrev d : Call Rid
      d = call_renamed (tie_of x.over.view) call

      over_chip : IsMadeOver x.over.view x.own_chip call a later
      over_chip = made-over x.over.view x.own_chip call a later both.1 changes

      pub may-take : MayTakeFor f.operation f.group (vid_made_by a) c.board.names
      may-take = may_answer seen_now x.own_chip x.own x.over.session refl 0 f there begun call told a over_chip.went over_chip.view' (chip_then x.own_chip d) over_chip.made

      pub may-end : MayEndThen c.board 0 (vid_made_by a)
      may-end = may_end_then seen_now x.own_chip x.own x.over.session refl 0 f there begun call told a over_chip.went over_chip.view' (chip_then x.own_chip d) over_chip.made

      pub bringing-next : (b : BoardState) → IsTakenFor c.board 0 (vid_made_by a) b → IsBringing first (record c { board = b; sync = with_temporary c.sync later }) rest
      bringing-next b taken =
          let y = answer_step seen_now x.own_chip x.own x.over.session refl 0 f there begun call told a over_chip.went over_chip.view' (chip_then x.own_chip d) over_chip.made b taken in
          let follows = (taken f there).3 in
          let answer : IsAnswer first.board.plan 4 y.1 x.own.service.core y.0.later.service.core = subst (λ p. IsAnswer p 4 y.1 x.own.service.core y.0.later.service.core) x.beside.plan y.2 in
          record {
            beside = record { rows = x.beside.rows; popped = x.beside.popped; plan = follows.others.plan ∙ x.beside.plan; capacities = x.beside.capacities; seen = x.beside.seen; log = x.beside.log; listed = x.beside.listed; limit = x.beside.limit; warm = x.beside.warm };
            own_chip = chip_then x.own_chip d;
            own = y.0.later;
            over = record { view = over_chip.view'; temporary = ap Some over_chip.same; session = y.0.stands };
            free = λ v below apart. ap (option_map (λ (g : FlightState). g.flown)) (follows.others.flights v apart) ∙ x.free v below apart;
            keys = x.keys;
            rising = x.rising;
            all = x.all;
            waits = x.waits;
            reasons = x.reasons;
            ops = x.ops;
            pass = λ answers ws t run quiet g. x.pass ((y.1, y.0.later.service.core) ∷ answers) ws t (answer, run) quiet g;
          }

  -- as syncd tells it
  module _ (f : Flown) (there : flown_at c.board 0 ≡ Some f) (begun : HasBegun c.board.plan c.board.names f) (call : Call Vid) (told : IsNextCall c.board.plan c.board.names f.operation f.group call) (chip : ChipState) (a : SyncAnswer) (y : SyncState) (chip' : ChipState) (calls : Calls c.sync c.sync.temporary chip call a y chip') where
    calls_view : Calls c.sync (Some (untied_view x.over.view)) chip call a y chip'
    calls_view = subst (λ o. Calls c.sync o chip call a y chip') x.over.temporary calls

    pub same-chip : chip' ≡ chip
    same-chip = calls_view.3

    pub may-take-called : MayTakeFor f.operation f.group (vid_made_by a) c.board.names
    may-take-called = may-take f there begun call told a calls_view.0 calls_view.2

    pub ends-called : MayEndThen c.board 0 (vid_made_by a)
    ends-called = may-end f there begun call told a calls_view.0 calls_view.2

    pub bringing-called : (b : BoardState) → IsTakenFor c.board 0 (vid_made_by a) b → IsBringing first (record c { board = b; sync = y }) rest
    bringing-called b taken = subst (λ z. IsBringing first (record c { board = b; sync = z }) rest) (sym calls_view.1) (bringing-next f there begun call told a calls_view.0 calls_view.2 b taken)

  -- where nothing is under way any more its operation has ended
  pub bringing-ends : flown_at c.board 0 ≡ None → IsBuilt first c rest
  bringing-ends none = record {
    beside = x.beside;
    own_chip = x.own_chip;
    own = x.own;
    over = x.over;
    free = free;
    keys = x.keys;
    rising = x.rising;
    all = x.all;
    waits = x.waits;
    reasons = x.reasons;
    ops = x.ops;
    pass = λ ws t g. x.pass [] ws t tt (none_flies c.board.plan c.sync.capacities c.board.names c.board.room (flown_at c.board) x.own.service.core (x.over.session.working refl).stands.board free) g;
  }
    where
      free : (v : ℕ) → v < 4 → flown_at c.board v ≡ None
      free v below = by (nat_split v 0)
        where
          by : IsSplit v 0 → flown_at c.board v ≡ None
          by (inl same) = ap (flown_at c.board) same ∙ none
          by (inr apart) = x.free v below apart
