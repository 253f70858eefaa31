-- the end of an apply is a step: the view is tied to the chip again
use Rattle.std.proofs.Common.{◌≡◌, ◌++◌, ◌∙◌, ℕ, true, List, [], length, None, Some, refl, sym, ap, subst}
use Rattle.std.proofs.lemmas.List.{append-nil}
use Rattle.sai_types.specs.declared.ids.Rid.{Rid}
use Rattle.sai_types.specs.declared.ids.Vid.{Vid}
use Rattle.sai_types.specs.declared.thing.Thing.{Thing}
use Rattle.sai_types.specs.After.{after_calls}
use Rattle.sai_types.specs.Alike.{IsIn}
use Rattle.sai_types.specs.ChipState.{ChipState}
use Rattle.sai_types.specs.Made.{IsWhole}
use Rattle.sai_types.specs.Names.{name_of}
use Rattle.sai_types.proofs.Membership.{in-map, map-in}
use Rattle.chip_names.specs.Naming.{entries_of}
use Rattle.chip_layout.specs.Layout.{IsLaidOut, has_number, listed}
use Rattle.chip_layout.proofs.Distinct.{one-of}
use Rattle.switch_model.specs.History.{with_mark}
use Rattle.switch_model.specs.declared.mark.MarkEvent.TheVariants as event
use Rattle.switch_machine.specs.Events.{SwitchState}
use Rattle.switch_machine.specs.Flights.{StandsIn}
use Rattle.warm_state.specs.declared.warm.Warm.TheVariants as warm
use Rattle.restart_laws.specs.Identified.{renamed_by}
use Rattle.restart_laws.specs.Invariant.{with_chip}
use Rattle.restart_laws.specs.Logged.{IsLoggedStep, LoggedService, OfService, mark_now}
use Rattle.restart_laws.specs.Service.{Finishes, OfFinish, by_ids}
use Rattle.restart_laws.proofs.Resolved.{from_renamed, renamed_in}
use Rattle.registry_laws.specs.Standing.{AreRetied, StandsFor}
use Rattle.registry_laws.proofs.Core.Renamed.{stands_over_chip}
use Rattle.asic_view.specs.View.{ViewObjects, rid_at}
use Rattle.syncd_core.specs.Run.{tied_after, tied_calls}
use Rattle.syncd_core.specs.Tied.{tie_of}
use Rattle.apply_laws.specs.Apply.{calls_by}
use Rattle.apply_laws.specs.Viewed.{things_in}
use Rattle.apply_laws.specs.Begun.{first_ties}
use Rattle.apply_laws.proofs.Sync.Numbered.{last_ties, tied-are}
use Rattle.apply_laws.specs.Ties.{AreTied}
use Rattle.flight_board.specs.Board.{flown_at}
use Rattle.session_laws.specs.Core.{CoreState, mark_at}
use Rattle.session_laws.proofs.Faulting.{listed_same}
use Rattle.session_laws.specs.Workers.{IsByFirst}
use Rattle.session_laws.proofs.ByFirst.{finish_stays}
use Rattle.session_laws.specs.Service.Events.{MakesNext}
use Rattle.session_laws.specs.Service.Standing.{HaveNumbers, IsApplyingCore, IsServiceOf, IsUnderway}
use Rattle.session_laws.proofs.Service.Ending.{are-tied, laid-end, tied-end}
use Rattle.session_laws.proofs.Service.Holding.{step-holds}
use Rattle.session_laws.proofs.Service.Marking.{mark-same}
use Rattle.session_laws.proofs.Service.States.{reconciled-applying, reconciled-initialized, reconciled-restored}

module _ (c : CoreState) (chip : ChipState) (s : LoggedService) (is : IsServiceOf c chip s) (at : c.warm ≡ warm.Applying) (none : c.sync.left ≡ []) where
  abbrev core : SwitchState
  core = s.service.core

  abbrev its : IsApplyingCore c s.service
  its = (is.applying at).1

  abbrev u : IsUnderway c.sync core.made core.objects s.service.left its.things
  u = its.underway

  abbrev V : ViewObjects
  V = last_ties u.view u.begun.planned u.begun.free

  abbrev f : Vid → Rid
  f = tie_of V

  all_made : u.plan.calls ≡ u.front
  all_made = u.cut ∙ ap (λ l. u.front ++ l) none ∙ append-nil u.front

  view_is : c.sync.view ≡ V
  view_is = u.ties ∙ ap (tied_after u.first (first_ties u.old u.view u.plan)) (sym all_made)

  chip_is : core.objects ≡ after_calls u.first (entries_of u.old) (calls_by f u.plan)
  chip_is =
      u.objects_are
      ∙ ap (λ l. after_calls u.first (entries_of u.old) (tied_calls u.first (first_ties u.old u.view u.plan) l)) (sym all_made)
      ∙ ap (after_calls u.first (entries_of u.old)) (tied-are u.view u.begun.planned u.begun.free)

  whole : IsWhole core.made (after_calls u.first (entries_of u.old) (calls_by f u.plan))
  whole = subst (IsWhole core.made) chip_is is.always.holds.safe.chip.whole

  numbers : HaveNumbers (after_calls u.first (entries_of u.old) (calls_by f u.plan))
  numbers = subst HaveNumbers chip_is is.always.numbers

  abbrev stands : List (Rid × Thing)
  stands = renamed_by f its.things

  laid : IsLaidOut (listed stands) core.objects
  laid = subst (IsLaidOut (listed stands)) (sym chip_is) (laid-end u.view u.begun.planned u.begun.free)

  there : (t : Thing) → IsIn t (things_in its.things) → (v : Vid) × IsIn (v, t) its.things
  there t h = let y = map-in (λ (z : Vid × Thing). z.1) its.things t h in (y.0.0, subst (λ z. IsIn (y.0.0, z) its.things) (sym y.2) y.1)

  into : (t : Thing) → StandsIn core.machine t → (i : Rid) × IsIn (i, t) stands
  into t h = let v = there t (its.into t h) in (f v.0, renamed_in f its.things v.0 t v.1)

  back : (t : Thing) (i : Rid) → IsIn (i, t) stands → StandsIn core.machine t
  back t i h = let v = from_renamed f its.things i t h in its.back t (in-map (λ (z : Vid × Thing). z.1) its.things (v.0, t) v.1)

  -- ---- the board stands for the machine over the chip

  one_vid : (v w : Vid) (t : Thing) → IsIn (v, t) its.things → IsIn (w, t) its.things → v ≡ w
  one_vid v w t h g = ap (λ (z : Vid × Thing). z.0) (one-of (λ (z : Vid × Thing). name_of z.1) its.things (v, t) (w, t) u.begun.planned.view.once h g refl)

  tied_to : (i : Rid) (t : Thing) (v : Vid) → IsIn (v, t) its.things → i ≡ f v → (j : Rid) → IsIn (j, t) core.machine.stands → has_number t ≡ true → (w : Vid) → its.rid w ≡ Some j → rid_at c.sync.view w ≡ Some i
  tied_to i t v h same j g number w tied =
      let vid = one_vid w v t (its.same j t w g number tied) h in
      ap (λ z. rid_at z w) view_is ∙ ap (rid_at V) vid ∙ (tied-end u.view u.begun.planned u.begun.free core.made whole numbers v t h number).0 ∙ ap Some (sym same)

  retied : AreRetied its.rid (rid_at c.sync.view) core.machine.stands stands
  retied = record {
    into = λ i t h. into t (i, h);
    back = λ i t h.
        let v = from_renamed f its.things i t h in
        let j = its.back t (in-map (λ (z : Vid × Thing). z.1) its.things (v.0, t) v.1) in
        (j.0, j.1, λ number w tied. tied_to i t v.0 v.1 v.2 j.0 j.1 number w tied);
  }

  abbrev ended : SwitchState
  ended = record { machine = by_ids core.machine stands; written = core.written; to_sync = core.to_sync; made = core.made; objects = core.objects }

  board : StandsFor c.board.plan c.sync.capacities c.board.names c.board.room (flown_at c.board) (rid_at c.sync.view) ended
  board = stands_over_chip c.board.plan is.always.plan c.sync.capacities c.board.names c.board.room (flown_at c.board) its.rid (rid_at c.sync.view) (with_chip core its.made its.objects) its.stands stands retied core.made core.objects is.always.holds.safe.chip.whole laid

  tied : AreTied c.sync.view core.made chip.objects
  tied =
      subst (AreTied c.sync.view core.made) is.always.objects
      (subst (λ z. AreTied z core.made core.objects) (sym view_is)
      (subst (AreTied V core.made) (sym chip_is) (are-tied u.view u.begun.planned u.begun.free core.made whole numbers u.rising)))

  -- ---- the step

  abbrev later : LoggedService
  later = record { service = record { warm = warm.Reconciled; core = ended; seen = s.service.seen; left = [] }; log = with_mark s.log (mark_now s.log s.effects event.ApplyEnded); effects = s.effects }

  left_none : s.service.left ≡ []
  left_none = u.left_are ∙ ap (tied_calls core.made c.sync.view) none

  finishes : Finishes s.service later.service
  finishes = record { before = is.always.warm_is ∙ at; warm = refl; none = left_none; stands = stands; into = into; back = back; laid = laid; machine = refl; written = refl; to_sync = refl; made = refl; objects = refl }

  makes : IsLoggedStep c.board.plan 4 c.sync.capacities s later
  makes = OfService None (OfFinish later.service finishes) (sym (append-nil s.effects)) refl

  pub finish-next : MakesNext c s (record c { log = with_mark c.log (mark_at c (length chip.effects) event.ApplyEnded); warm = warm.Reconciled }) chip
  finish-next = record {
    later = later;
    makes = makes;
    plan = refl;
    capacities = refl;
    limit = refl;
    stands = record {
      always = record {
        plan = is.always.plan;
        capacities = is.always.capacities;
        clean = is.always.clean;
        warm_is = refl;
        holds = step-holds c.board.plan is.always.plan c.sync.capacities s later is.always.holds makes;
        numbers = is.always.numbers;
        ahead = record { taken = is.always.ahead.taken; whole = is.always.ahead.whole };
        objects = is.always.objects;
        made = is.always.made;
        log = sym (mark-same c s is.always.log event.ApplyEnded s.effects (length chip.effects) (ap length (sym is.always.effects)));
        effects = is.always.effects;
        listed = listed_same c.log.marks (mark_at c (length chip.effects) event.ApplyEnded) c.listed refl is.always.listed;
        read = record { taken = is.always.read.taken; to_sync = is.always.read.to_sync; waiting = is.always.read.waiting };
      };
      working = λ _. (
        record { written = (is.applying at).0.written; to_sync = (is.applying at).0.to_sync },
        record { stands = board; rows = its.rows; tied = tied; no_view = its.no_view; no_plan = none },
      );
      restarted = λ h. absurd (reconciled-initialized h);
      seen = λ h. absurd (reconciled-restored h);
      applying = λ h. absurd (reconciled-applying h);
    };
  }

  -- no operation is under way
  pub finish-stays : (n : ℕ) → IsByFirst n s → IsByFirst n finish-next.later
  unfolding finish-next
  finish-stays n = finish_stays c.board.plan 4 c.sync.capacities s later is.always.holds finishes n
