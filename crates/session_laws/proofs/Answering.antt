-- an answer of a call of a worker is a step
use Rattle.std.proofs.Common.{◌≡◌, ◌∷◌, ◌∙◌, inl, inr, ℕ, List, [], Option, None, Some, option_map, is_some, refl, sym, ap, subst}
use Rattle.std.proofs.lemmas.Option.{same_Some}
use Rattle.table_schema.specs.Plan.{IsPlan}
use Rattle.table_schema.specs.declared.key.Key.{Key}
use Rattle.table_schema.specs.declared.row.Row.{Row}
use Rattle.sai_types.specs.declared.answer.SyncAnswer.{SyncAnswer}
use Rattle.sai_types.specs.declared.answer.SyncAnswer.TheVariants as sync
use Rattle.sai_types.specs.declared.body.Call.{Call}
use Rattle.sai_types.specs.declared.ids.Rid.{Rid}
use Rattle.sai_types.specs.declared.ids.Vid.{Vid}
use Rattle.sai_types.specs.After.{makes_id}
use Rattle.sai_types.specs.ChipState.{ChipState}
use Rattle.sai_types.specs.Made.{made_after}
use Rattle.sai_types.specs.Refusal.{IsLegal}
use Rattle.chip_layout.specs.Layout as layout
use Rattle.chip_layout.specs.Renamed.{call_renamed}
use Rattle.switch_model.specs.Placed.{bare, bare_rows}
use Rattle.row_layout.specs.Operations.{Change}
use Rattle.switch_machine.specs.Events.{Follows as Event, IsAnswer, SwitchState}
use Rattle.switch_machine.specs.Flights.{Machine, put}
use Rattle.switch_machine.specs.Steps.{moved}
use Rattle.switch_machine.proofs.Splits.{IsSplit, key_split, put_at}
use Rattle.machine_laws.proofs.Rows.{bare_with}
use Rattle.ref_counts.specs.Registry.{Names}
use Rattle.registry_laws.specs.Ending.{ended_names}
use Rattle.registry_laws.specs.Flown.{Flown, due_for, flight_of}
use Rattle.registry_laws.specs.Making.{IsNextCall, MayTakeFor, TookFor}
use Rattle.registry_laws.specs.Identified.{tie_by}
use Rattle.registry_laws.specs.Calls.{TiesFollowCall}
use Rattle.registry_laws.specs.Standing.{HasBegun, StandsFor, with_answer}
use Rattle.registry_laws.proofs.Core.Answered as answers
use Rattle.registry_laws.proofs.Core.Ends.{took-ends}
use Rattle.registry_laws.proofs.Core.Taken.{may_take_next}
use Rattle.asic_view.specs.View.{ViewObjects, rid_at}
use Rattle.syncd_core.specs.Synced.{Calls, IsMadeOnChip, SyncState, with_view}
use Rattle.apply_laws.specs.Ties.{AreTied}
use Rattle.apply_laws.proofs.Tying.Calls.{tied-made, ties-after}
use Rattle.restart_laws.specs.Logged.{LoggedService}
use Rattle.flight_board.specs.Applied.{row_at}
use Rattle.flight_board.specs.Board.{BoardState, FlightState, BoardFollows, IsTakenFor, MayEndThen, flown_at}
use Rattle.warm_state.specs.declared.warm.Warm.TheVariants as warm
use Rattle.session_laws.specs.Core.{CoreState}
use Rattle.session_laws.specs.Events.{IsMachineStep, MakesOne, vid_made_by, session_with}
use Rattle.session_laws.specs.Standing.{IsSessionOf, IsWorking}
use Rattle.session_laws.proofs.Called.{answered, capacities_then, clean_then, effects_then, legal_on, made_then, objects_then, whole}
use Rattle.session_laws.proofs.Following.{key_kept, rows_by, rows_ended, rows_kept}
use Rattle.session_laws.proofs.Making.{machine_step}
use Rattle.session_laws.proofs.Places.{in-places}
use Rattle.session_laws.proofs.Preparing.{flown_alike, stands_on, ties_alike}
use Rattle.session_laws.proofs.Tying.{IsWell, follow, makes_on_chip, well}

pub nothing_not : (e : Change) (es : List Change) → e ∷ es ≡ [] → ⊥
nothing_not e es h = cc

-- a step that is an answer of a worker
abbrev pub AnswersFor : CoreState → LoggedService → ℕ → CoreState → ChipState → Type 0
AnswersFor c s w c' chip' = (x : MakesOne c s c' chip') × (e : Call Rid) × (z : IsAnswer c.board.plan 4 e s.service.core x.later.service.core) × (z.next.worker ≡ w) × IsMachineStep s (Some e) x.later

-- all rows, from those of one key and of the others
pub rows_all : (k : Key) (old now : Key → Option Row) → now k ≡ old k → ((q : Key) → (q ≡ k → ⊥) → now q ≡ old q) → (q : Key) → old q ≡ now q
rows_all k old now own others q = by (key_split q k)
  where
    by : IsSplit q k → old q ≡ now q
    by (inl same) = ap old same ∙ sym own ∙ sym (ap now same)
    by (inr apart) = sym (others q apart)

module _ (c : CoreState) (chip : ChipState) (s : LoggedService) (is : IsSessionOf c chip s) (at : c.warm ≡ warm.Reconciled) (w : ℕ) (x : Flown) (there : flown_at c.board w ≡ Some x) (begun : HasBegun c.board.plan c.board.names x) (call : Call Vid) (told : IsNextCall c.board.plan c.board.names x.operation x.group call) (a : SyncAnswer) (went : a ≡ sync.Failed → ⊥) (view' : ViewObjects) (chip' : ChipState) (m : IsMadeOnChip c.sync.view chip call a view' chip') where
  abbrev rid : Vid → Option Rid
  rid = rid_at c.sync.view

  abbrev d : Call Rid
  d = call_renamed (tie_by rid) call

  abbrev core : SwitchState
  core = s.service.core

  abbrev its : IsWorking c chip core
  its = is.working at

  done : IsWell chip call d a chip'
  done = well c.sync.view view' chip chip' a went call d m.answer (answered c chip s is at w x there begun call told a view' chip' m).answer m.follows

  number : is_some (vid_made_by a) ≡ makes_id call
  number = done.number ∙ makes_on_chip (tie_by rid) call

  ties : TiesFollowCall rid (rid_at view') call (vid_made_by a) (layout.next_rid core.made)
  ties =
      follow c.sync.view view' core.made chip chip' is.made a went call d m.answer (answered c chip s is at w x there begun call told a view' chip' m).answer m.follows
      (ties-after c.sync.view core.made chip.objects its.tied (whole c chip s is at w x there begun call told) chip.capacities call
      (subst (λ g. IsLegal chip.capacities chip.objects (call_renamed g call)) (ties_alike c.sync.view) (legal_on c chip s is at w x there begun call told)) view' m.answer a m.follows)

  tied : AreTied view' (made_after core.made d) chip'.objects
  tied = subst (λ g. AreTied view' (made_after core.made (call_renamed g call)) chip'.objects) (sym (ties_alike c.sync.view)) (tied-made c.sync.view view' core.made chip chip' a is.made went call its.tied (whole c chip s is at w x there begun call told) m)

  pub may : MayTakeFor x.operation x.group (vid_made_by a) c.board.names
  may = may_take_next c.board.plan is.plan c.sync.capacities c.board.names c.board.room (flown_at c.board) rid core its.stands w x there call (vid_made_by a) number begun told

  -- where nothing more is due for its operation, that may end
  pub may_end_then : MayEndThen c.board w (vid_made_by a)
  may_end_then y x' names' at took empty =
      let same = same_Some x y (sym there ∙ at) in
      took-ends c.board.plan is.plan c.sync.capacities c.board.names c.board.room (flown_at c.board) rid core its.stands w names' x x' (vid_made_by a) there begun (subst (λ (z : Flown). TookFor z.operation z.group (vid_made_by a) c.board.names x' names') (sym same) took) empty

  module _ (b : BoardState) (x' : Flown) (names' : Names) (took : TookFor x.operation x.group (vid_made_by a) c.board.names x' names') (follows : BoardFollows w x' names' c.board.room c.board b) where
    abbrev c' : CoreState
    c' = record c { board = b; sync = with_view c.sync view' }

    abbrev with : Machine → SwitchState
    with t = with_answer core t d

    abbrev Answers : Machine → Type 0
    Answers t = (z : IsAnswer c.board.plan 4 d core (with t)) × (z.next.worker ≡ w)

    event : (t : Machine) (z : Answers t) → Event c.board.plan w (moved core.machine w z.0.next.rest z.0.stands) t
    event t z = subst (λ v. Event c.board.plan v (moved core.machine v z.0.next.rest z.0.stands) t) z.1 z.0.follows

    step : (t : Machine) → Answers t → StandsFor b.plan c.sync.capacities b.names b.room (flown_at b) (rid_at view') (with t) → ((k : Key) → bare_rows t.board.applied k ≡ row_at b.applied k) → AnswersFor c s w c' chip'
    step t z stands rows = (
      record {
        later = session_with s (with t) (Some d);
        plan = follows.others.plan;
        capacities = refl;
        limit = refl;
        makes = machine_step c.board.plan c.sync.capacities s (with t) (Some d) (is.warm_is ∙ at) z.0 refl;
        stands = record {
          plan = subst IsPlan (sym follows.others.plan) is.plan;
          capacities = capacities_then c chip s is at w x there begun call told a view' chip' m;
          clean = clean_then c chip s is at w x there begun call told a view' chip' m;
          warm_is = is.warm_is;
          written = is.written;
          to_sync = is.to_sync;
          objects = objects_then c chip s is d chip' done.effect;
          made = made_then c chip s is d chip' done.effect;
          log = is.log;
          effects = effects_then c chip s is d chip' done.effect;
          listed = is.listed;
          to_sync_read = is.to_sync_read;
          waiting_read = is.waiting_read;
          working = λ _. record { stands = stands; rows = rows; tied = tied; no_view = its.no_view; no_plan = its.no_plan };
        };
      },
      d,
      z.0,
      z.1,
      refl,
    )

    on : (due_for c.board.plan names' x' ≡ [] → ⊥) → AnswersFor c s w c' chip'
    on some =
        let goes = follows.more some in
        let y = (answers.answered c.board.plan is.plan c.sync.capacities c.board.names c.board.room (flown_at c.board) rid core its.stands w x there call (vid_made_by a) (rid_at view') number ties begun told x' names' took).0 some in
        let flying = y.2.board.flying w x' (put_at w w (Some x') (flown_at c.board) refl) in
        step y.0 y.1
        (stands_on c.sync.capacities (rid_at view') (with y.0) b c.board.plan names' c.board.room (put w (Some x') (flown_at c.board)) follows.others.plan goes.names_are goes.room_is (flown_alike c.board b w (Some x') goes.flying follows.others.flights) y.2)
        (λ k. ap (option_map bare) (rows_kept c.board.plan w (moved core.machine w y.1.0.next.rest y.1.0.stands) y.0 (flight_of x'.operation) (event y.0 y.1) flying.flying k) ∙ its.rows k ∙ rows_all x'.operation.key (row_at c.board.applied) (row_at b.applied) goes.row follows.others.rows k)

    over : due_for c.board.plan names' x' ≡ [] → AnswersFor c s w c' chip'
    over empty =
        let ends = follows.over empty in
        let kept = key_kept x.operation x.group (vid_made_by a) c.board.names x' names' took in
        let y = (answers.answered c.board.plan is.plan c.sync.capacities c.board.names c.board.room (flown_at c.board) rid core its.stands w x there call (vid_made_by a) (rid_at view') number ties begun told x' names' took).1 b.room (may_end_then x x' names' there took empty) empty ends.room_is in
        let none = y.2.board.idle w (put_at w w None (flown_at c.board) refl) in
        step y.0 y.1
        (stands_on c.sync.capacities (rid_at view') (with y.0) b c.board.plan (ended_names names' w x'.operation.key (core.machine.board.applied x'.operation.key) x'.operation.new) b.room (put w None (flown_at c.board)) follows.others.plan
        (ends.names_are ∙ ap (λ o. ended_names names' w x'.operation.key o x'.operation.new) (sym (in-places c chip core its x'.operation.key))) refl (flown_alike c.board b w None (ap (option_map (λ (f : FlightState). f.flown)) ends.none) follows.others.flights) y.2)
        (λ k. ap (option_map bare) (rows_ended c.board.plan w (moved core.machine w y.1.0.next.rest y.1.0.stands) y.0 (flight_of x.operation) (event y.0 y.1) (its.stands.board.flying w x there).flying none k)
        ∙ bare_with x.operation.key x.operation.new core.machine.board.applied k
        ∙ rows_by x.operation.key (option_map bare x.operation.new) (bare_rows core.machine.board.applied) (row_at b.applied) (ap (row_at b.applied) (sym kept.0) ∙ ends.row ∙ ap (option_map bare) kept.1) (λ q apart. follows.others.rows q (λ h. apart (h ∙ kept.0)) ∙ sym (its.rows q)) k)

    either : AnswersFor c s w c' chip'
    either = by (due_for c.board.plan names' x') refl
      where
        by : (l : List Change) → due_for c.board.plan names' x' ≡ l → AnswersFor c s w c' chip'
        by [] e = over e
        by (e ∷ es) h = on (λ none. nothing_not e es (sym h ∙ none))

  pub answer_step : (b : BoardState) → IsTakenFor c.board w (vid_made_by a) b → AnswersFor c s w (record c { board = b; sync = with_view c.sync view' }) chip'
  answer_step b taken = let y = taken x there in either b y.0 y.1 y.2 y.3

-- as syncd tells it
module _ (c : CoreState) (chip : ChipState) (s : LoggedService) (is : IsSessionOf c chip s) (at : c.warm ≡ warm.Reconciled) (w : ℕ) (x : Flown) (there : flown_at c.board w ≡ Some x) (begun : HasBegun c.board.plan c.board.names x) (call : Call Vid) (told : IsNextCall c.board.plan c.board.names x.operation x.group call) (a : SyncAnswer) (went : a ≡ sync.Failed → ⊥) (sync' : SyncState) (chip' : ChipState) (calls : Calls c.sync c.sync.temporary chip call a sync' chip') where
  calls_none : Calls c.sync None chip call a sync' chip'
  calls_none = subst (λ o. Calls c.sync o chip call a sync' chip') (is.working at).no_view calls

  pub may_take : MayTakeFor x.operation x.group (vid_made_by a) c.board.names
  may_take = may c chip s is at w x there begun call told a went calls_none.0 chip' calls_none.2

  pub ends_then : MayEndThen c.board w (vid_made_by a)
  ends_then = may_end_then c chip s is at w x there begun call told a went calls_none.0 chip' calls_none.2

  pub answers_step : (b : BoardState) → IsTakenFor c.board w (vid_made_by a) b → AnswersFor c s w (record c { board = b; sync = sync' }) chip'
  answers_step b taken = subst (λ z. AnswersFor c s w (record c { board = b; sync = z }) chip') (sym calls_none.1) (answer_step c chip s is at w x there begun call told a went calls_none.0 chip' calls_none.2 b taken)
