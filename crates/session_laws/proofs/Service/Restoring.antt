-- a restore is a step: the view that was built, the plan to it, and the mark
use Rattle.std.proofs.Common.{◌≡◌, ◌+◌, ◌∷◌, ◌∙◌, suc, List, [], length, Option, None, Some, refl, sym, ap, subst}
use Rattle.std.specs.List.Sorted.{IsStrictlySortedBy}
use Rattle.std.specs.Map.{keys_of}
use Rattle.std.proofs.lemmas.List.{append-nil}
use Rattle.std.proofs.lemmas.Option.{same_Some}
use Rattle.table_schema.specs.Plan.{IsPlan}
use Rattle.table_schema.specs.declared.key.Key.{Key}
use Rattle.table_schema.specs.declared.row.Row.{Row}
use Rattle.sai_types.specs.declared.ids.Rid.{Rid}
use Rattle.sai_types.specs.declared.ids.Vid.{Vid}
use Rattle.sai_types.specs.declared.body.Call.{Call}
use Rattle.sai_types.specs.declared.body.Object.{Object}
use Rattle.sai_types.specs.declared.plan.Mode.{Mode}
use Rattle.sai_types.specs.declared.thing.Thing.{Thing}
use Rattle.sai_types.specs.Alike.{IsIn}
use Rattle.sai_types.specs.ChipState.{ChipState, objects_of}
use Rattle.chip_names.specs.Naming.{entries_of}
use Rattle.chip_names.proofs.SameNames.{entries_of-objects_of}
use Rattle.switch_model.specs.History.{History, listed_by, with_mark}
use Rattle.switch_model.specs.Marks.{Waiting, sent_writes, written_key}
use Rattle.switch_model.specs.declared.mark.Mark.{Mark}
use Rattle.switch_model.specs.declared.mark.MarkEvent.TheVariants as event
use Rattle.switch_model.specs.declared.wait.Wait.{Wait}
use Rattle.switch_machine.specs.Events.{IsQuiet, IsSafe, SwitchState, fresh_view}
use Rattle.switch_machine.specs.Written.{ArePopped, HasNoWrite, IsPopped, Written}
use Rattle.table_schema.specs.declared.write.Write.{Write}
use Rattle.machine_laws.specs.Reading.{IsOnSwitch}
use Rattle.apply_order.specs.Planned.{IsPlanOf}
use Rattle.view_match.specs.Pairs.{pairs_of}
use Rattle.warm_state.specs.declared.warm.Warm.TheVariants as warm
use Rattle.restart_laws.specs.Invariant.{Holds, with_chip}
use Rattle.restart_laws.specs.Logged.{IsLoggedStep, LoggedService, OfService, mark_now}
use Rattle.restart_laws.specs.Planned.{IsPlannedAs}
use Rattle.restart_laws.specs.Restored.{IsPass, IsRestored, keys_waiting, only_things, waiting_of}
use Rattle.restart_laws.specs.Service.{OfRestore, Restores}
use Rattle.restart_laws.proofs.Holding.{in_state}
use Rattle.restart_laws.proofs.Passing.{restored-keeps}
use Rattle.restart_laws.proofs.Viewing.{in-things, things-in}
use Rattle.registry_laws.specs.Standing.{StandsFor}
use Rattle.asic_view.specs.View.{ViewObjects, rid_at, vid_cmp}
use Rattle.syncd_core.specs.Begun.{Begins, CanBegin, objects_listed, tied_in}
use Rattle.syncd_core.specs.Run.{tied_calls}
use Rattle.syncd_core.specs.Synced.{SyncState}
use Rattle.syncd_core.specs.Tied.{tie_of}
use Rattle.apply_laws.specs.Apply.{calls_by}
use Rattle.apply_laws.specs.Viewed.{things_in}
use Rattle.apply_laws.specs.Begun.{IsApplyBegun, first_ties}
use Rattle.apply_laws.proofs.Sync.Numbered.{apply-by_ties, last_ties, tied-are}
use Rattle.apply_laws.specs.Ties.{AreTied}
use Rattle.flight_board.specs.Board.{flown_at}
use Rattle.session_laws.specs.Core.{CoreState, mark_at}
use Rattle.session_laws.specs.Standing.{IsWorking}
use Rattle.session_laws.specs.Service.Built.{AreBareWaits, AreReasons, IsBuilt, over_view, untied_view}
use Rattle.retry_list.specs.Reasons.{Reasons, reason_at}
use Rattle.session_laws.specs.Service.Events.{MakesNext}
use Rattle.session_laws.specs.Service.Standing.{IsServiceOf, IsUnderway, written_of}
use Rattle.session_laws.proofs.Service.Alike.{planned-alike, planned-as}
use Rattle.session_laws.proofs.Service.Giving.{written-beside}
use Rattle.session_laws.proofs.Service.Holding.{step-holds}
use Rattle.session_laws.proofs.Service.Marking.{listed-so, mark-same}
use Rattle.session_laws.proofs.Service.Popped.{none-waits, popped-all}
use Rattle.session_laws.proofs.Service.Ready.{begun-built, built-stands, natural, same-id, stands-built, things_built}
use Rattle.session_laws.proofs.Service.Sessions.{exactly-ahead}
use Rattle.session_laws.proofs.Service.States.{applying-initialized, applying-reconciled, applying-restored}

keys_untied : (os : ViewObjects) → keys_of (untied_view os) ≡ keys_of os
keys_untied [] = refl
keys_untied (x ∷ xs) = ap (λ l. x.0 ∷ l) (keys_untied xs)

waiting_long : (ws : List (Key × Wait)) → length (waiting_of ws) ≡ length ws
waiting_long [] = refl
waiting_long (w ∷ ws) = ap suc (waiting_long ws)

module _ (first : CoreState) (chip : ChipState) (s : LoggedService) (is : IsServiceOf first chip s) (at : first.warm ≡ warm.Restored) (popped : first.tables.waiting ≡ []) (c : CoreState) (x : IsBuilt first c []) where
  abbrev core : SwitchState
  core = s.service.core

  abbrev view : SwitchState
  view = x.own.service.core

  abbrev seen : CoreState
  seen = over_view c x.over.view

  abbrev its : IsWorking seen x.own_chip view
  its = x.over.session.working refl

  -- ---- the rows were gone over

  all_popped : ArePopped core.written (written_of first)
  all_popped = popped-all first core.written is.always.ahead popped

  none_waits : IsPopped (written_of first)
  none_waits = none-waits first core.written is.always.ahead popped

  abbrev restored : IsRestored first.board.plan 4 first.sync.capacities core.written view
  restored = record {
    written = written_of first;
    keys = x.keys;
    popped = all_popped;
    none = none_waits;
    all = x.all;
    rising = x.rising;
    waits = x.waits;
    pass = subst (λ l. IsPass first.board.plan 4 first.sync.capacities (fresh_view (written_of first) x.keys) x.keys l view) (append-nil x.waits) (x.pass [] view (refl, refl));
  }

  safe : IsSafe first.board.plan 4 first.sync.capacities view × IsQuiet view
  safe = restored-keeps first.board.plan is.always.plan 4 first.sync.capacities core.written view is.always.holds.safe.told is.always.holds.safe.dated restored

  own_objects : view.objects ≡ x.own_chip.objects
  own_objects = x.over.session.objects

  tied : AreTied x.over.view view.made view.objects
  tied = subst (AreTied x.over.view view.made) (sym own_objects) its.tied

  -- ---- syncd can begin

  listed : c.sync.listed ≡ Some (objects_of chip.objects)
  listed = x.beside.seen ∙ (is.seen at).listed

  pub can-begin : CanBegin c.sync
  can-begin = record {
    old = objects_of chip.objects;
    new = untied_view x.over.view;
    listed = listed;
    temporary = x.over.temporary;
    distinct = natural first.board.plan is.always.plan first.sync.capacities view safe.0 safe.1 x.over.view tied;
  }

  -- ---- the plan

  module _ (m : Mode) (y : SyncState) (begins : Begins c.sync m y) where
    abbrev old : List (Object Rid)
    old = objects_of chip.objects

    abbrev bare : ViewObjects
    bare = untied_view x.over.view

    old_is : begins.old ≡ old
    old_is = same_Some begins.old old (sym begins.listed ∙ listed)

    new_is : begins.new ≡ bare
    new_is = same_Some begins.new bare (sym begins.temporary ∙ x.over.temporary)

    abbrev things : List (Vid × Thing)
    things = things_built first.board.plan is.always.plan first.sync.capacities view safe.0 safe.1 x.over.view tied

    begun : IsApplyBegun first.sync.capacities core.made old bare things begins.plan
    begun =
        begun-built first.board.plan is.always.plan first.sync.capacities view safe.0 safe.1 x.over.view tied core.made core.objects is.always.holds.safe.chip old (entries_of-objects_of chip.objects ∙ sym is.always.objects) begins.plan
        (subst (λ l. IsPlanOf old (objects_listed bare) (pairs_of old (objects_listed bare)) l begins.plan) x.beside.capacities
        (subst (λ v. IsPlanOf old (objects_listed v) (pairs_of old (objects_listed v)) c.sync.capacities begins.plan) new_is
        (subst (λ o. IsPlanOf o (objects_listed begins.new) (pairs_of o (objects_listed begins.new)) c.sync.capacities begins.plan) old_is begins.planned)))

    abbrev first_view : ViewObjects
    first_view = first_ties old bare begins.plan

    abbrev after : SyncState
    after = record { view = first_view; temporary = None; listed = None; left = begins.plan.calls; capacities = c.sync.capacities }

    later_is : y ≡ after
    later_is =
        begins.later
        ∙ ap (λ o. record { view = tied_in begins.plan.mode begins.new o (objects_listed begins.new) (pairs_of o (objects_listed begins.new)); temporary = None; listed = None; left = begins.plan.calls; capacities = c.sync.capacities }) old_is
        ∙ ap (λ v. record { view = tied_in begins.plan.mode v old (objects_listed v) (pairs_of old (objects_listed v)); temporary = None; listed = None; left = begins.plan.calls; capacities = c.sync.capacities }) new_is

    -- ---- the step

    abbrev left : List (Call Rid)
    left = tied_calls core.made first_view begins.plan.calls

    abbrev waits : Waiting
    waits = waiting_of x.waits

    abbrev restored_core : SwitchState
    restored_core = record { machine = view.machine; written = view.written; to_sync = keys_waiting x.waits; made = core.made; objects = core.objects }

    abbrev later : LoggedService
    later = record { service = record { warm = warm.Applying; core = restored_core; seen = s.service.seen; left = left }; log = with_mark s.log (mark_now s.log s.effects (event.ApplyBegan m waits)); effects = s.effects }

    seen_is : s.service.seen ≡ core.objects
    seen_is = (in_state first.board.plan is.always.plan 4 first.sync.capacities s.service warm.Restored is.always.holds (is.always.warm_is ∙ at)).1

    planned : IsPlannedAs m first.sync.capacities core.made s.service.seen (only_things view.machine.stands) left
    planned =
        subst (λ o. IsPlannedAs m first.sync.capacities core.made o (only_things view.machine.stands) left) (entries_of-objects_of chip.objects ∙ sym is.always.objects ∙ sym seen_is)
        (subst (IsPlannedAs m first.sync.capacities core.made (entries_of old) (only_things view.machine.stands)) (sym (tied-are bare begun.planned begun.free))
        (subst (λ n. IsPlannedAs n first.sync.capacities core.made (entries_of old) (only_things view.machine.stands) (calls_by (tie_of (last_ties bare begun.planned begun.free)) begins.plan)) (sym begins.mode)
        (planned-alike (things_in things) (only_things view.machine.stands)
        (λ t i. let j = built-stands first.board.plan is.always.plan first.sync.capacities view safe.0 safe.1 x.over.view tied t i in in-things view.machine.stands j.0 t j.1)
        (λ t i. let j = things-in view.machine.stands t i in stands-built first.board.plan is.always.plan first.sync.capacities view safe.0 safe.1 x.over.view tied j.0 t j.1)
        begins.plan.mode first.sync.capacities core.made (entries_of old) (calls_by (tie_of (last_ties bare begun.planned begun.free)) begins.plan)
        (planned-as begun.planned (tie_of (last_ties bare begun.planned begun.free)) (apply-by_ties bare begun.planned begun.free).numbered))))

    abbrev restores : Restores first.board.plan 4 first.sync.capacities s.service later.service
    restores = record {
      before = is.always.warm_is ∙ at;
      warm = refl;
      view = view;
      restored = restored;
      machine = refl;
      written = refl;
      to_sync = refl;
      made = refl;
      objects = refl;
      mode = m;
      planned = planned;
    }

    makes : IsLoggedStep first.board.plan 4 first.sync.capacities s later
    makes = OfService None (OfRestore later.service restores) (sym (append-nil s.effects)) refl

    -- ---- the core afterwards

    abbrev mark : Mark
    mark = mark_at c (length chip.effects) (event.ApplyBegan m waits)

    abbrev c' : CoreState
    c' = record c { sync = after; log = with_mark c.log mark; listed = c.listed + length waits; warm = warm.Applying }

    written_is : view.written ≡ written_of c'
    written_is = x.over.session.written

    underway : IsUnderway after core.made core.objects left things
    underway = record {
      first = core.made;
      old = old;
      view = bare;
      plan = begins.plan;
      begun = subst (λ l. IsApplyBegun l core.made old bare things begins.plan) (sym x.beside.capacities) begun;
      rising = subst (IsStrictlySortedBy vid_cmp) (sym (keys_untied x.over.view)) tied.rising;
      front = [];
      cut = refl;
      made_is = refl;
      ties = refl;
      objects_are = is.always.objects ∙ sym (entries_of-objects_of chip.objects);
      left_are = refl;
    }

    stands : StandsFor c.board.plan c.sync.capacities c.board.names c.board.room (flown_at c.board) (rid_at x.over.view) (with_chip restored_core view.made view.objects)
    stands = subst (λ l. StandsFor c.board.plan c.sync.capacities c.board.names c.board.room (flown_at c.board) (rid_at x.over.view) (record { machine = view.machine; written = view.written; to_sync = l; made = view.made; objects = view.objects })) to_sync_is its.stands
      where
        to_sync_is : view.to_sync ≡ keys_waiting x.waits
        to_sync_is = x.over.session.to_sync ∙ x.ops ∙ append-nil (keys_waiting x.waits)

    pub restored-next : MakesNext first s c' chip
    restored-next = record {
      later = later;
      makes = makes;
      plan = x.beside.plan;
      capacities = x.beside.capacities;
      limit = x.beside.limit;
      stands = record {
        always = record {
          plan = subst IsPlan (sym x.beside.plan) is.always.plan;
          capacities = is.always.capacities ∙ sym x.beside.capacities;
          clean = is.always.clean;
          warm_is = refl;
          holds =
              subst (λ p. Holds p 4 c.sync.capacities later.service) (sym x.beside.plan)
              (subst (λ l. Holds first.board.plan 4 l later.service) (sym x.beside.capacities)
              (step-holds first.board.plan is.always.plan first.sync.capacities s later is.always.holds makes));
          numbers = is.always.numbers;
          ahead = exactly-ahead view.written (written_of c') written_is;
          objects = is.always.objects;
          made = is.always.made;
          log = sym (mark-same c s (is.always.log ∙ sym x.beside.log) (event.ApplyBegan m waits) s.effects (length chip.effects) (ap length (sym is.always.effects)));
          effects = is.always.effects;
          listed = listed-so c.log.marks mark c.listed (length waits) refl (x.beside.listed ∙ is.always.listed ∙ ap (λ (h : History). listed_by h.marks) (sym x.beside.log));
          read = record {
            to_sync = x.over.session.to_sync_read;
            taken = subst (λ (h : History). (w : Write) → IsIn w (sent_writes h.taken) → IsOnSwitch (written_key w)) (sym x.beside.log) is.always.read.taken;
            waiting = λ k some. absurd (some (no_write k));
          };
        };
        working = λ h. absurd (applying-reconciled h);
        restarted = λ h. absurd (applying-initialized h);
        seen = λ h. absurd (applying-restored h);
        applying = λ _. (
          record { written = written_is; to_sync = sym (append-nil (keys_waiting x.waits)) ∙ sym x.ops },
          record {
            rid = rid_at x.over.view;
            made = view.made;
            objects = view.objects;
            stands = stands;
            rows = its.rows;
            things = things;
            into = λ t h. stands-built first.board.plan is.always.plan first.sync.capacities view safe.0 safe.1 x.over.view tied h.0 t h.1;
            back = λ t i. built-stands first.board.plan is.always.plan first.sync.capacities view safe.0 safe.1 x.over.view tied t i;
            same = λ i t v h number rid. same-id first.board.plan is.always.plan first.sync.capacities view safe.0 safe.1 x.over.view tied i t v h number rid;
            no_view = refl;
            underway = underway;
          },
        );
      };
    }
      where
        no_write : (k : Key) → HasNoWrite (written_of c') k
        no_write k = subst (λ (w : Written). HasNoWrite w k) (written-beside first c x.beside) (none_waits k)

    -- as syncd tells it
    pub restored-step : MakesNext first s (record c { sync = y; log = with_mark c.log mark; listed = c.listed + length waits; warm = warm.Applying }) chip
    restored-step = subst (λ z. MakesNext first s (record c { sync = z; log = with_mark c.log mark; listed = c.listed + length waits; warm = warm.Applying }) chip) (sym later_is) restored-next

-- ---- the keys that wait, as they are listed

same_listing : (l : Key × Wait × Option Row) (w : Key × Wait) → l.0 ≡ w.0 → l.1 ≡ w.1 → l.2 ≡ None → l ≡ (w.0, w.1, None)
same_listing l w key reason none = ap (λ z. (z, l.1, l.2)) key ∙ ap (λ z. (w.0, z, l.2)) reason ∙ ap (λ z. (w.0, w.1, z)) none

listed_from : (reasons : Reasons) (ws : List (Key × Wait)) (keys : List Key) (listing : Waiting) → AreReasons reasons ws → keys ≡ keys_waiting ws → AreBareWaits reasons keys listing → listing ≡ waiting_of ws
listed_from reasons [] [] [] have are list = refl
listed_from reasons [] [] (l ∷ ls) have are list = absurd list
listed_from reasons [] (k ∷ ks) listing have are list = absurd cc
listed_from reasons (w ∷ ws) [] listing have are list = absurd cc
listed_from reasons (w ∷ ws) (k ∷ ks) [] have are list = absurd list
listed_from reasons (w ∷ ws) (k ∷ ks) (l ∷ ls) have are list =
    let key : k ≡ w.0 = cc in
    let rest : ks ≡ keys_waiting ws = cc in
    let reason : l.1 ≡ w.1 = same_Some l.1 w.1 (sym list.0.1 ∙ ap (reason_at reasons) key ∙ have.0) in
    ap (λ z. z ∷ ls) (same_listing l w (list.0.0 ∙ key) reason list.0.2) ∙ ap (λ z. (w.0, w.1, None) ∷ z) (listed_from reasons ws ks ls have.1 rest list.1)

pub listed-waits : (first c : CoreState) (x : IsBuilt first c []) (listing : Waiting) → AreBareWaits c.waiting (keys_of c.tables.ops) listing → listing ≡ waiting_of x.waits
listed-waits first c x listing list = listed_from c.waiting x.waits (keys_of c.tables.ops) listing x.reasons (x.ops ∙ append-nil (keys_waiting x.waits)) list
