-- a group that begins changes nothing of the session, and the next call can be made
use Rattle.std.proofs.Common.{◌≡◌, ◌∙◌, inl, inr, ℕ, List, Option, None, Some, option_map, refl, sym, ap, subst}
use Rattle.std.proofs.Math.Path.{fun_ext}
use Rattle.std.proofs.lemmas.Option.{same_Some}
use Rattle.table_schema.specs.Plan.{IsPlan, Ports}
use Rattle.sai_types.specs.declared.body.Call.{Call}
use Rattle.sai_types.specs.declared.ids.Rid.{Rid}
use Rattle.sai_types.specs.declared.ids.Vid.{Vid}
use Rattle.sai_types.specs.ChipState.{ChipState}
use Rattle.sai_types.specs.Made.{IsWhole}
use Rattle.sai_types.specs.Refusal.{IsLegal}
use Rattle.chip_layout.specs.Renamed.{call_renamed}
use Rattle.switch_machine.specs.Events.{IsDueCall, SwitchState}
use Rattle.switch_machine.specs.Flights.{put}
use Rattle.switch_machine.proofs.Splits.{IsSplit, nat_split, put_at, put_off}
use Rattle.switch_machine.proofs.Kept.{legal-call}
use Rattle.ref_counts.specs.Registry.{Names}
use Rattle.ref_counts.specs.Room.{RoomState}
use Rattle.registry_laws.specs.Flown.{Flown}
use Rattle.registry_laws.specs.Making.{IsNextCall, with_group_begun}
use Rattle.registry_laws.specs.Identified.{rid_or_zero, tie_by}
use Rattle.registry_laws.specs.Standing.{HasBegun, StandsFor}
use Rattle.registry_laws.proofs.Core.Begun.{begun_once, stands_begun}
use Rattle.registry_laws.proofs.Core.Due.{next_due}
use Rattle.registry_laws.proofs.Core.Nexts.{knows_next, row_some}
use Rattle.registry_laws.proofs.Core.Same.{stands_flown}
use Rattle.asic_view.specs.View.{ViewObjects, rid_at}
use Rattle.syncd_core.specs.Synced.{CanCall}
use Rattle.syncd_core.specs.Tied.{rid_or_none, tie_of}
use Rattle.apply_laws.proofs.Tying.Calls.{can-call}
use Rattle.restart_laws.specs.Logged.{LoggedService}
use Rattle.flight_board.specs.Applied.{row_at}
use Rattle.flight_board.specs.Board.{BoardState, FlightState, IsPrepared, IsCallReady, flight_at, flown_at}
use Rattle.warm_state.specs.declared.warm.Warm.TheVariants as warm
use Rattle.session_laws.specs.Core.{CoreState}
use Rattle.session_laws.specs.Standing.{IsSessionOf, IsWorking}

rids_alike : (o : Option Rid) → rid_or_zero o ≡ rid_or_none o
rids_alike None = refl
rids_alike (Some i) = refl

-- the ties are told alike
pub ties_alike : (view : ViewObjects) → tie_by (rid_at view) ≡ tie_of view
ties_alike view = fun_ext (λ v. rids_alike (rid_at view v))

-- ---- a board on which one worker's flight changed

pub flown_alike : (old new : BoardState) (w : ℕ) (o : Option Flown) → flown_at new w ≡ o → ((v : ℕ) → (v ≡ w → ⊥) → flight_at new v ≡ flight_at old v) → (v : ℕ) → flown_at new v ≡ put w o (flown_at old) v
flown_alike old new w o own others v = by (nat_split v w)
  where
    by : IsSplit v w → flown_at new v ≡ put w o (flown_at old) v
    by (inl same) = ap (flown_at new) same ∙ own ∙ sym (put_at w v o (flown_at old) same)
    by (inr apart) = ap (option_map (λ (f : FlightState). f.flown)) (others v apart) ∙ sym (put_off w v o (flown_at old) apart)

pub stands_on : (capacities : List ℕ) (rid : Vid → Option Rid) (core : SwitchState) (b : BoardState) (plan : Ports) (names : Names) (room : RoomState) (flown : ℕ → Option Flown) → b.plan ≡ plan → b.names ≡ names → b.room ≡ room → ((v : ℕ) → flown_at b v ≡ flown v) → StandsFor plan capacities names room flown rid core → StandsFor b.plan capacities b.names b.room (flown_at b) rid core
stands_on capacities rid core b plan names room flown plan_is names_are room_is same stands =
    subst (λ p. StandsFor p capacities b.names b.room (flown_at b) rid core) (sym plan_is)
    (subst (λ n. StandsFor plan capacities n b.room (flown_at b) rid core) (sym names_are)
    (subst (λ r. StandsFor plan capacities names r (flown_at b) rid core) (sym room_is) (stands_flown plan capacities names room flown rid core stands (flown_at b) same)))

-- the session does not see the board while it is not reconciled, and the plan is never another
pub with_board : (c : CoreState) (chip : ChipState) (s : LoggedService) (b : BoardState) → IsSessionOf c chip s → b.plan ≡ c.board.plan → (c.warm ≡ warm.Reconciled → IsWorking c chip s.service.core → IsWorking (record c { board = b }) chip s.service.core) → IsSessionOf (record c { board = b }) chip s
with_board c chip s b is plan working = record {
  plan = subst IsPlan (sym plan) is.plan;
  capacities = is.capacities;
  clean = is.clean;
  warm_is = is.warm_is;
  written = is.written;
  to_sync = is.to_sync;
  objects = is.objects;
  made = is.made;
  log = is.log;
  effects = is.effects;
  listed = is.listed;
  to_sync_read = is.to_sync_read;
  waiting_read = is.waiting_read;
  working = λ w. working w (is.working w);
}

-- a worker's group that is due begins
module _ (c : CoreState) (chip : ChipState) (s : LoggedService) (is : IsSessionOf c chip s) (w : ℕ) (b : BoardState) (prepared : IsPrepared c.board w b) (x : Flown) (there : flown_at c.board w ≡ Some x) where
  abbrev begun : Flown
  begun = with_group_begun c.board.plan c.board.names x

  pub begun_there : flown_at b w ≡ Some begun
  begun_there = prepared.own ∙ ap (option_map (with_group_begun c.board.plan c.board.names)) there

  works : IsWorking c chip s.service.core → IsWorking (record c { board = b }) chip s.service.core
  works its = record {
    stands = stands_on c.sync.capacities (rid_at c.sync.view) s.service.core b c.board.plan c.board.names c.board.room (put w (Some begun) (flown_at c.board)) prepared.plan prepared.names prepared.room (flown_alike c.board b w (Some begun) begun_there prepared.others)
        (stands_begun c.board.plan c.sync.capacities c.board.names c.board.room (flown_at c.board) (rid_at c.sync.view) s.service.core its.stands w x there);
    rows = λ k. its.rows k ∙ ap (λ z. row_at z k) (sym prepared.applied);
    tied = its.tied;
    no_view = its.no_view;
    no_plan = its.no_plan;
  }

  pub prepared_stands : IsSessionOf (record c { board = b }) chip s
  prepared_stands = with_board c chip s b is prepared.plan (λ _ its. works its)

  pub has_begun : (y : Flown) → flown_at b w ≡ Some y → HasBegun b.plan b.names y
  has_begun y at =
      subst (λ p. HasBegun p b.names y) (sym prepared.plan)
      (subst (λ n. HasBegun c.board.plan n y) (sym prepared.names)
      (subst (HasBegun c.board.plan c.board.names) (same_Some begun y (sym begun_there ∙ at)) (begun_once c.board.plan c.board.names x)))

module _ (c : CoreState) (chip : ChipState) (s : LoggedService) (is : IsSessionOf c chip s) (at : c.warm ≡ warm.Reconciled) (w : ℕ) (x : Flown) (there : flown_at c.board w ≡ Some x) where
  abbrev its : IsWorking c chip s.service.core
  its = is.working at

  pub ready : HasBegun c.board.plan c.board.names x → IsCallReady c.board.plan c.board.names x
  ready begun = record {
    plans = is.plan;
    over = (its.stands.board.flying w x there).over;
    group_over = λ g has. ((its.stands.board.flying w x there).group g has).over;
    group_due = λ g has. ((its.stands.board.flying w x there).group g has).some;
    due = λ none. row_some c.board.plan is.plan c.sync.capacities c.board.names c.board.room (flown_at c.board) (rid_at c.sync.view) s.service.core its.stands w x there begun none;
    known = knows_next c.board.plan is.plan c.sync.capacities c.board.names c.board.room (flown_at c.board) (rid_at c.sync.view) s.service.core its.stands w x there begun;
  }

  module _ (begun : HasBegun c.board.plan c.board.names x) (call : Call Vid) (told : IsNextCall c.board.plan c.board.names x.operation x.group call) where
    pub due_call : (y : IsDueCall 4 (call_renamed (tie_by (rid_at c.sync.view)) call) s.service.core) × (y.worker ≡ w)
    due_call = next_due c.board.plan is.plan c.sync.capacities c.board.names c.board.room (flown_at c.board) (rid_at c.sync.view) s.service.core its.stands w x there call begun told

    pub legal : IsLegal c.sync.capacities s.service.core.objects (call_renamed (tie_by (rid_at c.sync.view)) call)
    legal = legal-call c.board.plan is.plan 4 c.sync.capacities s.service.core its.stands.safe (call_renamed (tie_by (rid_at c.sync.view)) call) due_call.0

    legal_there : IsLegal chip.capacities chip.objects (call_renamed (tie_of c.sync.view) call)
    legal_there =
        subst (λ g. IsLegal chip.capacities chip.objects (call_renamed g call)) (ties_alike c.sync.view)
        (subst (λ o. IsLegal chip.capacities o (call_renamed (tie_by (rid_at c.sync.view)) call)) is.objects
        (subst (λ l. IsLegal l s.service.core.objects (call_renamed (tie_by (rid_at c.sync.view)) call)) (sym is.capacities) legal))

    pub can : CanCall c.sync c.sync.temporary chip call
    can = can-call c.sync s.service.core.made chip call its.no_view its.tied (subst (IsWhole s.service.core.made) is.objects its.stands.safe.whole) legal_there
