-- an apply that is under way: its mode, that it is steady, and how long it is
use Rattle.std.proofs.Common.{◌≡◌, ◌⊎◌, ◌+◌, ◌*◌, ◌-◌, ◌≤◌, ◌∷◌, ◌++◌, ◌∙◌, ℕ, zero, suc, List, [], length, map, refl, sym, ap, subst, arith, count_by, cond}
use Rattle.std.proofs.lemmas.List.Sums.{sum_by-append}
use Rattle.std.proofs.lemmas.List.{append-nil, append_assoc, length-append}
use Rattle.swss_types.specs.declared.vrf.Packet.{Packet}
use Rattle.table_schema.specs.Plan.{IsPlan, Ports}
use Rattle.table_schema.specs.declared.key.Key.{Key}
use Rattle.sai_types.specs.declared.ids.Rid.{Rid}
use Rattle.sai_types.specs.declared.body.Call.{Call}
use Rattle.sai_types.specs.declared.body.Call.TheVariants as call
use Rattle.sai_types.specs.declared.body.Entry.{Entry}
use Rattle.sai_types.specs.declared.kind.Kind.{Kind}
use Rattle.sai_types.specs.declared.plan.Mode.{Mode}
use Rattle.sai_types.specs.declared.plan.Mode.TheVariants as mode
use Rattle.sai_types.specs.declared.thing.Thing.{Thing}
use Rattle.sai_types.specs.declared.thing.Thing.TheVariants as thing
use Rattle.sai_types.specs.After.{after_calls, chip_after}
use Rattle.sai_types.specs.Alike.{IsIn}
use Rattle.sai_types.specs.Forwarding.{decide, forward}
use Rattle.sai_types.specs.Made.{made_after_all}
use Rattle.sai_types.specs.Named.{named}
use Rattle.sai_types.specs.Names.{ThingName, name_kind, name_of}
use Rattle.sai_types.specs.Objects.{Objects, level, used}
use Rattle.sai_types.specs.Refusal.{capacity_of}
use Rattle.sai_types.proofs.Membership.{in-left, map-in}
use Rattle.chip_layout.specs.Counted.{AreDistinct}
use Rattle.chip_layout.proofs.Answering.{in_those, those_in}
use Rattle.row_layout.proofs.Split.{things-split}
use Rattle.switch_model.specs.Desired.{IsThingOf}
use Rattle.switch_model.specs.Good.{TypedRows}
use Rattle.switch_model.specs.Placed.{bare_rows}
use Rattle.switch_model.specs.Promises.{applied_at}
use Rattle.switch_model.specs.Room.{FitsTogether, HasSameRouters}
use Rattle.switch_model.specs.Steady.{IsSteady, things_after}
use Rattle.switch_machine.specs.Events.{IsQuiet, IsSafe}
use Rattle.switch_machine.specs.Flights.{StandsIn}
use Rattle.switch_machine.proofs.Calling.{sort_of}
use Rattle.switch_machine.proofs.Placing.{row_of_thing}
use Rattle.switch_machine.proofs.Resting.{back_by, into_by}
use Rattle.switch_machine.proofs.Tabled.{tabled}
use Rattle.switch_machine.proofs.Overflowing.{counted_distinct, marked_distinct}
use Rattle.machine_laws.proofs.Rows.{thing_same}
use Rattle.plan_laws.specs.Applied.{AppliesHitless, IsListedChip, IsView, chip_things, nothing}
use Rattle.plan_laws.specs.Old.{old_layout}
use Rattle.plan_laws.specs.Bounds.{IsUnwanted, makes_kind}
use Rattle.plan_laws.specs.Views.{AreLacking, made_names}
use Rattle.plan_laws.proofs.Applied.{hitless-kept, hitless-steady}
use Rattle.plan_laws.proofs.Counts.{calls-few, calls-named, old-few, run-makes}
use Rattle.plan_laws.proofs.Doubles.{fits-shown, lacking-shown, routers-shown, routers-shown-back, shown-lacking}
use Rattle.plan_laws.proofs.Keeping.{hitless-removes}
use Rattle.plan_laws.proofs.Rooms.{made-lacking}
use Rattle.restart_laws.specs.Applied.{IsSteadyApply}
use Rattle.restart_laws.specs.Invariant.{Holds}
use Rattle.restart_laws.specs.Logged.{LoggedService}
use Rattle.restart_laws.specs.Planned.{IsPlannedAs}
use Rattle.restart_laws.specs.Restored.{only_things, waiting_of}
use Rattle.restart_laws.specs.Service.{Restores, Service}
use Rattle.restart_laws.proofs.Begun.{same_rows}
use Rattle.restart_laws.proofs.Ended.{hitless-applies, hitless-planned}
use Rattle.restart_laws.proofs.Holding.{planned-from}
use Rattle.restart_laws.proofs.Leading.{chip-listed}
use Rattle.restart_laws.proofs.Passing.{restored-keeps}
use Rattle.restart_laws.proofs.Underway.{IsUnderWay, chip-at}
use Rattle.restart_laws.proofs.Viewing.{in-things, things-in, view-is}

cut_list : {X : Type 0} (n : ℕ) (xs : List X) → n ≤ length xs → (ys : List X) × (zs : List X) × (xs ≡ ys ++ zs) × (length ys ≡ n)
cut_list zero xs le = ([], xs, refl, refl)
cut_list (suc n) [] le = absurd (omega (arith, le))
cut_list (suc n) (x ∷ xs) le =
    let r = cut_list n xs (omega (arith, le)) in
    let e = r.3 in
    (x ∷ r.0, r.1, ap (λ z. x ∷ z) r.2, omega (arith, e))

module _ (plan : Ports) (is : IsPlan plan) (workers : ℕ) (capacities : List ℕ) (s t : Service) (h : Holds plan workers capacities s) (x : Restores plan workers capacities s t) where
  abbrev new : List Thing
  new = only_things x.view.machine.stands

  abbrev objects : Objects
  objects = s.core.objects

  kept : IsSafe plan workers capacities x.view × IsQuiet x.view
  kept = restored-keeps plan is workers capacities s.core.written x.view h.safe.told h.safe.dated x.restored

  view : IsView new
  view = view-is plan is workers capacities x.view kept.0 kept.1

  chip : IsListedChip s.core.made objects
  chip = chip-listed plan is h.safe.chip

  module _ (rows : TypedRows) (same : (q : Key) → rows q ≡ bare_rows x.view.machine.board.applied q) where
    into : (u : Thing) → IsThingOf plan rows u → IsIn u new
    into u y =
        let r = row_of_thing plan x.view.machine.board kept.0.sound.board u (thing_same plan rows (bare_rows x.view.machine.board.applied) same u y) in
        let z = back_by plan (tabled plan is) x.view.machine kept.0.sound kept.1 u r.0 r.1 r.2 ((things-split plan r.0 r.1).into u r.3) in
        in-things x.view.machine.stands z.0 u z.1

    back : (u : Thing) → IsIn u new → IsThingOf plan rows u
    back u i =
        let z : StandsIn x.view.machine u = things-in x.view.machine.stands u i in
        let o = kept.0.sound.owned u z in
        thing_same plan (bare_rows x.view.machine.board.applied) rows (λ q. sym (same q)) u (into_by plan (tabled plan is) x.view.machine kept.0.sound kept.1 u z o.0 o.1 (sort_of o.0))

    -- the mode, exactly
    fits_when : x.mode ≡ mode.Hitless → FitsTogether capacities objects (IsThingOf plan rows)
    fits_when hitless kind keys a = (hitless-planned plan is workers capacities s h t x hitless).fits kind keys (shown-lacking chip new view kind keys lacking)
      where
        lacking : AreLacking (chip_things objects) new kind keys
        lacking = record {
          distinct = counted_distinct keys a.distinct;
          each = λ k i. let y = a.things k i in (ap (λ z. level (name_kind z)) (sym y.1) ∙ y.2, y.0, into y.0 y.3.0, y.1, λ u j e. y.3.1 (u, those_in u (named objects) j, e ∙ sym y.1));
        }

    routers_when : x.mode ≡ mode.Hitless → HasSameRouters objects (IsThingOf plan rows)
    routers_when hitless on v w i y = routers-shown-back chip new view (hitless-planned plan is workers capacities s h t x hitless).routers on v w (in_those (thing.Rif on v) (named objects) i) (into (thing.Rif on w) y)

    hitless_when : FitsTogether capacities objects (IsThingOf plan rows) → HasSameRouters objects (IsThingOf plan rows) → x.mode ≡ mode.Hitless
    hitless_when fits routers = by x.mode (planned-from plan is workers capacities s t h x)
      where
        lacking : (kind : Kind) (names : List ThingName) → AreLacking (chip_things objects) new kind names → used objects kind + length names ≤ capacity_of capacities kind
        lacking kind names l = fits kind names (record {
          distinct = marked_distinct names l.distinct;
          things = λ k i. let y = l.each k i in (y.1, y.3, ap (λ z. level (name_kind z)) y.3 ∙ y.0, (back y.1 y.2, λ o. y.4 o.0 (in_those o.0 (named objects) o.1) (o.2 ∙ y.3)));
        })

        by : (m : Mode) → IsPlannedAs m capacities s.core.made objects new t.left → m ≡ mode.Hitless
        by mode.Hitless p = refl
        by mode.Cold p = absurd (p.lacks (fits-shown chip new view capacities lacking) (routers-shown chip new view (λ on v w i j. routers on v w (those_in (thing.Rif on v) (named objects) i) (back (thing.Rif on w) j))))

    -- what it makes and removes
    abbrev Applies : x.mode ≡ mode.Hitless → Type 0
    Applies hitless = AppliesHitless capacities s.core.made objects new (hitless-planned plan is workers capacities s h t x hitless).steps [] t.left

    its_applies : (hitless : x.mode ≡ mode.Hitless) → Applies hitless
    its_applies hitless = hitless-applies plan is workers capacities s h t x hitless

    made_few : (hitless : x.mode ≡ mode.Hitless) (kind : Kind) → (names : List ThingName) × AreLacking (chip_things objects) new kind names × (count_by (makes_kind kind) t.left ≡ length names)
    made_few hitless kind =
        let a = its_applies hitless in
        let steps = (hitless-planned plan is workers capacities s h t x hitless).steps in
        (made_names kind steps, lacking-shown a.planned.chip new a.planned.view kind (made_names kind steps) (made-lacking a.planned.is_plan steps [] refl kind), run-makes kind s.core.made (old_layout objects new) steps t.left a.run)

    removed_unwanted : (hitless : x.mode ≡ mode.Hitless) (e : Entry Rid) → IsIn (call.Remove e) t.left → IsUnwanted objects new e
    removed_unwanted hitless e i = hitless-removes (its_applies hitless) e i

    -- how long it is
    record IsShort : Type 0 where
      names : List ThingName
      distinct : AreDistinct names
      of : (k : ThingName) → IsIn k names → (u : Thing) × IsThingOf plan rows u × (name_of u ≡ k)
      short : length t.left ≤ length objects + 3 * length names

    named_by : (names : List ThingName) → ((k : ThingName) → IsIn k names → IsIn k (map name_of new)) → (k : ThingName) → IsIn k names → (u : Thing) × IsThingOf plan rows u × (name_of u ≡ k)
    named_by names in_it k i = let y = map-in name_of new k (in_it k i) in (y.0, back y.0 y.1, sym y.2)

    is_short : IsShort
    is_short = by x.mode (planned-from plan is workers capacities s t h x)
      where
        by : (m : Mode) → IsPlannedAs m capacities s.core.made objects new t.left → IsShort
        by mode.Hitless p =
            let y = calls-named p.is_plan p.steps [] (sym (append-nil p.steps)) s.core.made (old_layout objects new) t.left p.run in
            let most = y.3 in
            let old = old-few objects new in
            record { names = y.0; distinct = y.1; of = named_by y.0 y.2; short = omega (arith, most, old) }
        by mode.Cold p =
            let first = calls-few p.removing p.removes [] (sym (append-nil p.removes)) s.core.made (old_layout objects new) p.front p.first in
            let y = calls-named p.making p.makes [] (sym (append-nil p.makes)) (made_after_all s.core.made p.front) nothing p.rest p.second in
            let most = y.3 in
            let old = old-few objects new in
            let sum = ap length p.is ∙ length-append p.front p.rest in
            record { names = y.0; distinct = y.1; of = named_by y.0 y.2; short = omega (arith, first, most, old, sum) }

module _ (plan : Ports) (is : IsPlan plan) (workers : ℕ) (capacities : List ℕ) (s : LoggedService) (u : IsUnderWay plan is workers capacities s) where
  abbrev first : Service
  first = u.first

  abbrev x : Restores plan workers capacities u.first u.began
  x = u.restores

  abbrev from : ℕ
  from = u.mark.effects

  abbrev to : ℕ
  to = length s.effects

  abbrev pub rows : TypedRows
  rows = applied_at plan s.log.taken u.mark (waiting_of x.restored.waits)

  same : (q : Key) → rows q ≡ bare_rows x.view.machine.board.applied q
  same q = same_rows plan is workers capacities first.core.written x.view u.holds.safe.told u.holds.safe.dated x.restored s.log.taken u.mark u.taken q

  -- the chip after so many effects is that after the first calls of the plan
  record IsPlace (k : ℕ) : Type 0 where
    xs : List (Call Rid)
    ys : List (Call Rid)
    parts : u.done ≡ xs ++ ys
    number : k ≡ length u.before + length xs
    chip : chip_after s.effects k ≡ after_calls first.core.made first.core.objects xs
    left : u.began.left ≡ xs ++ (ys ++ s.service.left)

  chip_by : (k : ℕ) (xs ys : List (Call Rid)) → u.done ≡ xs ++ ys → k ≡ length u.before + length xs → chip_after s.effects k ≡ after_calls first.core.made first.core.objects xs
  chip_by k xs ys parts e = ap (chip_after s.effects) e ∙ chip-at plan is workers capacities s u xs ys parts

  left_of_all_calls : (xs ys : List (Call Rid)) → u.done ≡ xs ++ ys → u.began.left ≡ xs ++ (ys ++ s.service.left)
  left_of_all_calls xs ys parts = u.all ∙ ap (λ z. z ++ s.service.left) parts ∙ append_assoc xs ys s.service.left

  total : to ≡ length u.before + length u.done
  total = ap length u.effects ∙ length-append u.before u.done

  moment : (k : ℕ) → from ≤ k → k ≤ to → IsPlace k
  moment k least most =
      let number = u.number in
      let sum = total in
      let r = cut_list (k - length u.before) u.done (omega (arith, least, most, number, sum)) in
      let e = r.3 in
      let place : k ≡ length u.before + length r.0 = omega (arith, least, number, e) in
      record { xs = r.0; ys = r.1; parts = r.2; number = place; chip = chip_by k r.0 r.1 r.2 place; left = left_of_all_calls r.0 r.1 r.2 }

  start : chip_after s.effects from ≡ first.core.objects
  start = chip_by from [] u.done refl (let number = u.number in omega (arith, number))

  module _ (hitless : x.mode ≡ mode.Hitless) where
    abbrev V : List Thing
    V = new plan is workers capacities u.first u.began u.holds x

    applies : AppliesHitless capacities first.core.made first.core.objects V (hitless-planned plan is workers capacities u.first u.holds u.began x hitless).steps [] u.began.left
    applies = hitless-applies plan is workers capacities u.first u.holds u.began x hitless

    steady : IsSteady (things_after s.effects from) V s.effects from to
    steady = record {
      decided = λ a k proper least most.
          let m = moment k least most in
          subst (λ o. (decide (chip_things o) a ≡ decide (things_after s.effects from) a) ⊎ (decide (chip_things o) a ≡ decide V a)) (sym m.chip)
          (subst (λ o. (decide (chip_things (after_calls first.core.made first.core.objects m.xs)) a ≡ decide (chip_things o) a) ⊎ (decide (chip_things (after_calls first.core.made first.core.objects m.xs)) a ≡ decide V a)) (sym start)
          ((hitless-steady applies m.xs (m.ys ++ s.service.left) m.left).0 a));
      stays = λ a k l proper least less most new_now. stays a k l least less most new_now;
      forwarded = λ a k proper least most alike.
          let m = moment k least most in
          let old = subst (λ o. forward (chip_things o) a ≡ forward V a) start alike in
          subst (λ o. forward (chip_things o) a ≡ forward (things_after s.effects from) a) (sym m.chip)
          (((hitless-steady applies m.xs (m.ys ++ s.service.left) m.left).1 a old).0 ∙ ap (λ o. forward (chip_things o) a) (sym start));
    }
      where
        stays : (a : Packet) (k l : ℕ) → from ≤ k → k ≤ l → l ≤ to → decide (things_after s.effects k) a ≡ decide V a → decide (things_after s.effects l) a ≡ decide V a
        stays a k l least less most now =
            let m = moment k least (omega (arith, less, most)) in
            let sum = total in
            let parts = ap length m.parts ∙ length-append m.xs m.ys in
            let number = m.number in
            let r = cut_list (l - k) m.ys (omega (arith, less, most, sum, parts, number)) in
            let e = r.3 in
            let longer = length-append m.xs r.0 in
            let split : u.done ≡ (m.xs ++ r.0) ++ r.1 = m.parts ∙ ap (λ z. m.xs ++ z) r.2 ∙ sym (append_assoc m.xs r.0 r.1) in
            subst (λ o. decide (chip_things o) a ≡ decide V a) (sym (chip_by l (m.xs ++ r.0) r.1 split (omega (arith, less, number, e, longer))))
            (hitless-kept applies m.xs r.0 (r.1 ++ s.service.left) (left_of_all_calls (m.xs ++ r.0) r.1 split ∙ append_assoc m.xs r.0 (r.1 ++ s.service.left)) a (subst (λ o. decide (chip_things o) a ≡ decide V a) m.chip now))

  -- an apply that is under way
  pub under-steady : IsSteadyApply plan capacities rows s.effects x.mode from to
  under-steady =
      let short = is_short plan is workers capacities u.first u.began u.holds x rows same in
      let most = short.short in
      let left = ap length u.all ∙ length-append u.done s.service.left in
      let sum = total in
      let number = u.number in
      let size = ap (λ (o : Objects). length o) start in
      record {
        hitless = λ e. subst (λ o. FitsTogether capacities o (IsThingOf plan rows)) (sym start) (fits_when plan is workers capacities u.first u.began u.holds x rows same e);
        routers = λ e. subst (λ o. HasSameRouters o (IsThingOf plan rows)) (sym start) (routers_when plan is workers capacities u.first u.began u.holds x rows same e);
        fitting = λ fits routers. hitless_when plan is workers capacities u.first u.began u.holds x rows same (subst (λ o. FitsTogether capacities o (IsThingOf plan rows)) start fits) (subst (λ o. HasSameRouters o (IsThingOf plan rows)) start routers);
        view = new plan is workers capacities u.first u.began u.holds x;
        into = into plan is workers capacities u.first u.began u.holds x rows same;
        back = back plan is workers capacities u.first u.began u.holds x rows same;
        apart = (view plan is workers capacities u.first u.began u.holds x).named;
        steady = steady;
        front = u.before;
        during = u.done;
        behind = [];
        parts = u.effects ∙ ap (λ z. u.before ++ z) (sym (append-nil u.done));
        at = sym u.number;
        long = omega (arith, sum, number);
        made = made;
        kept = λ e entry i. subst (λ o. IsUnwanted o (new plan is workers capacities u.first u.began u.holds x) entry) (sym start) (removed_unwanted plan is workers capacities u.first u.began u.holds x rows same e entry (subst (IsIn (call.Remove entry)) (sym u.all) (in-left (call.Remove entry) u.done s.service.left i)));
        names = short.names;
        distinct = short.distinct;
        of = short.of;
        short = omega (arith, most, left, sum, number, size);
      }
    where
      made : (hitless : x.mode ≡ mode.Hitless) (kind : Kind) → (lacking : List ThingName) × AreLacking (things_after s.effects from) (new plan is workers capacities u.first u.began u.holds x) kind lacking × (count_by (makes_kind kind) u.done ≤ length lacking)
      made hitless kind =
          let y = made_few plan is workers capacities u.first u.began u.holds x rows same hitless kind in
          let all = y.2 in
          let parts = ap (count_by (makes_kind kind)) u.all ∙ sum_by-append (λ c. cond (makes_kind kind c) 1 0) u.done s.service.left in
          (y.0, subst (λ o. AreLacking (chip_things o) (new plan is workers capacities u.first u.began u.holds x) kind y.0) (sym start) y.1, omega (arith, all, parts))
