-- over a whole log: each apply is steady and short, and no call takes effect behind a fault or a restart
use Rattle.std.proofs.Common.{◌≡◌, ◌⊎◌, ◌≤◌, ◌∷◌, ◌++◌, ◌∙◌, inl, inr, ℕ, List, [], length, Option, None, Some, refl, sym, ap, subst, arith}
use Rattle.std.proofs.lemmas.List.{append-nil, append_assoc}
use Rattle.std.proofs.lemmas.Option.{same_Some}
use Rattle.table_schema.specs.Plan.{IsPlan, Ports}
use Rattle.table_schema.specs.declared.write.Sent.{Sent}
use Rattle.sai_types.specs.declared.ids.Rid.{Rid}
use Rattle.sai_types.specs.declared.body.Call.{Call}
use Rattle.sai_types.specs.declared.plan.Mode.{Mode}
use Rattle.sai_types.specs.declared.thing.Thing.{Thing}
use Rattle.sai_types.specs.After.{chip_after}
use Rattle.sai_types.specs.Forwarding.{decide, forward}
use Rattle.sai_types.specs.Named.{named, those}
use Rattle.sai_types.specs.Objects.{Objects}
use Rattle.switch_model.specs.Desired.{IsThingOf}
use Rattle.switch_model.specs.Good.{TypedRows}
use Rattle.switch_model.specs.History.{History}
use Rattle.switch_model.specs.Marks.{applied_rows}
use Rattle.switch_model.specs.Promises.{applied_at}
use Rattle.switch_model.specs.Room.{FitsTogether, HasSameRouters}
use Rattle.switch_model.specs.Sound.{AreWithin}
use Rattle.switch_model.specs.Steady.{IsSteady, things_after}
use Rattle.switch_model.specs.declared.mark.Mark.{Mark}
use Rattle.switch_model.specs.declared.mark.MarkEvent.{MarkEvent}
use Rattle.switch_model.specs.declared.mark.MarkEvent.TheVariants as event
use Rattle.switch_machine.specs.Events.{with_made_call}
use Rattle.machine_laws.specs.Logged.{IsLoggedEvent}
use Rattle.machine_laws.proofs.Staying.{chip_after-front, good-front}
use Rattle.plan_laws.specs.Bounds.{IsUnwanted}
use Rattle.plan_laws.specs.Views.{AreLacking}
use Rattle.warm_state.specs.declared.warm.Warm.TheVariants.{Applying, Reconciled}
use Rattle.restart_laws.specs.Applied.{AreFollowed, IsFollowed, IsSteadyApply}
use Rattle.restart_laws.specs.Logged.{AddsFault, AreLoggedSteps, IsLeftIn, IsLoggedStep, IsWarmAfter, LoggedService, OfMachine, OfService, Records, last_mark, mark_now, new_session, session_after, switch_of}
use Rattle.restart_laws.specs.Restored.{waiting_of}
use Rattle.restart_laws.specs.Service.{CallFails, IsDue, IsServiceEvent, OfApply, OfFault, OfFinish, OfFlight, OfList, OfListFault, OfPlan, OfRestart, OfRestore, OfTake, OfWork}
use Rattle.restart_laws.proofs.Ended.{apart}
use Rattle.restart_laws.proofs.Logged.{IsToldLog, told-first, told-step}
use Rattle.restart_laws.proofs.Marking.{last-more}
use Rattle.restart_laws.proofs.Steadied.{under-steady}
use Rattle.restart_laws.proofs.Underway.{IsUnderWay, under-step}

module _ (plan : Ports) (is : IsPlan plan) (workers : ℕ) (capacities : List ℕ) where
  -- ---- what was so stays so when more follows

  abbrev view_at : Objects → List Thing
  view_at o = those (named o)

  steady_more : (old new : List Thing) (es fs : List (Call Rid)) (from to : ℕ) → to ≤ length es → IsSteady old new es from to → IsSteady old new (es ++ fs) from to
  steady_more old new es fs from to within x = record {
    decided = λ a k proper least most. subst (λ o. (decide (view_at o) a ≡ decide old a) ⊎ (decide (view_at o) a ≡ decide new a)) (same k most) (x.decided a k proper least most);
    stays = λ a k l proper least less most now. subst (λ o. decide (view_at o) a ≡ decide new a) (same l most) (x.stays a k l proper least less most (subst (λ o. decide (view_at o) a ≡ decide new a) (sym (same k (omega (arith, less, most)))) now));
    forwarded = λ a k proper least most alike. subst (λ o. forward (view_at o) a ≡ forward old a) (same k most) (x.forwarded a k proper least most alike);
  }
    where
      same : (k : ℕ) → k ≤ to → chip_after es k ≡ chip_after (es ++ fs) k
      same k le = sym (chip_after-front es fs k (omega (arith, le, within)))

  apply_more : (rows : TypedRows) (es fs : List (Call Rid)) (mode : Mode) (from to : ℕ) → from ≤ length es → to ≤ length es → IsSteadyApply plan capacities rows es mode from to → IsSteadyApply plan capacities rows (es ++ fs) mode from to
  apply_more rows es fs mode from to least most x =
      let same = chip_after-front es fs from least in
      let short = x.short in
      let size = ap (λ (o : Objects). length o) same in
      record {
        hitless = λ e. subst (λ o. FitsTogether capacities o (IsThingOf plan rows)) (sym same) (x.hitless e);
        routers = λ e. subst (λ o. HasSameRouters o (IsThingOf plan rows)) (sym same) (x.routers e);
        fitting = λ fits routers. x.fitting (subst (λ o. FitsTogether capacities o (IsThingOf plan rows)) same fits) (subst (λ o. HasSameRouters o (IsThingOf plan rows)) same routers);
        view = x.view;
        into = x.into;
        back = x.back;
        apart = x.apart;
        steady = λ e. subst (λ o. IsSteady (view_at o) x.view (es ++ fs) from to) (sym same) (steady_more (things_after es from) x.view es fs from to most (x.steady e));
        front = x.front;
        during = x.during;
        behind = x.behind ++ fs;
        parts = ap (λ z. z ++ fs) x.parts ∙ append_assoc x.front (x.during ++ x.behind) fs ∙ ap (λ z. x.front ++ z) (append_assoc x.during x.behind fs);
        at = x.at;
        long = x.long;
        made = λ e kind. let y = x.made e kind in (y.0, subst (λ o. AreLacking (view_at o) x.view kind y.0) (sym same) y.1, y.2);
        kept = λ e entry i. subst (λ o. IsUnwanted o x.view entry) (sym same) (x.kept e entry i);
        names = x.names;
        distinct = x.distinct;
        of = x.of;
        short = omega (arith, short, size);
      }

  followed_more : (taken : List Sent) (es fs : List (Call Rid)) (mark : Mark) (e : MarkEvent) (to : ℕ) → mark.effects ≤ length es → to ≤ length es → IsFollowed plan capacities taken es mark e to → IsFollowed plan capacities taken (es ++ fs) mark e to
  followed_more taken es fs mark (event.ApplyBegan mode waits) to least most x = apply_more (applied_at plan taken mark waits) es fs mode mark.effects to least most x
  followed_more taken es fs mark event.Restarted to least most x = x
  followed_more taken es fs mark (event.Faulted a b) to least most x = x
  followed_more taken es fs mark event.ApplyEnded to least most x = x
  followed_more taken es fs mark (event.Settled waits turns) to least most x = x

  followed_taken : (taken : List Sent) (sent : Sent) (es : List (Call Rid)) (mark : Mark) (e : MarkEvent) (to : ℕ) → mark.taken ≤ length taken → IsFollowed plan capacities taken es mark e to → IsFollowed plan capacities (taken ++ sent ∷ []) es mark e to
  followed_taken taken sent es mark (event.ApplyBegan mode waits) to le x = subst (λ g. IsSteadyApply plan capacities (applied_rows waits g) es mode mark.effects to) (sym (good-front plan taken sent mark.taken le)) x
  followed_taken taken sent es mark event.Restarted to le x = x
  followed_taken taken sent es mark (event.Faulted a b) to le x = x
  followed_taken taken sent es mark event.ApplyEnded to le x = x
  followed_taken taken sent es mark (event.Settled waits turns) to le x = x

  -- ---- all marks but the last

  abbrev AreClosed : List Sent → List (Call Rid) → List Mark → Type 0
  AreClosed taken es [] = Unit {0}
  AreClosed taken es (m ∷ []) = Unit {0}
  AreClosed taken es (m ∷ n ∷ ms) = IsFollowed plan capacities taken es m m.event n.effects × AreClosed taken es (n ∷ ms)

  closed_more : (t : ℕ) (taken : List Sent) (es fs : List (Call Rid)) (ms : List Mark) → AreWithin t (length es) ms → AreClosed taken es ms → AreClosed taken (es ++ fs) ms
  closed_more t taken es fs [] within x = tt
  closed_more t taken es fs (m ∷ []) within x = tt
  closed_more t taken es fs (m ∷ n ∷ ms) within x = (followed_more taken es fs m m.event n.effects within.1 within.3.1 x.0, closed_more t taken es fs (n ∷ ms) within.3 x.1)

  closed_taken : (n : ℕ) (taken : List Sent) (sent : Sent) (es : List (Call Rid)) (ms : List Mark) → AreWithin (length taken) n ms → AreClosed taken es ms → AreClosed (taken ++ sent ∷ []) es ms
  closed_taken k taken sent es [] within x = tt
  closed_taken k taken sent es (m ∷ []) within x = tt
  closed_taken k taken sent es (m ∷ n ∷ ms) within x = (followed_taken taken sent es m m.event n.effects within.0 x.0, closed_taken k taken sent es (n ∷ ms) within.3 x.1)

  -- the last one
  abbrev Last : List Sent → List (Call Rid) → List Mark → ℕ → Type 0
  Last taken es ms to = (m : Mark) → last_mark None ms ≡ Some m → IsFollowed plan capacities taken es m m.event to

  closed_mark : (taken : List Sent) (es : List (Call Rid)) (ms : List Mark) (mark : Mark) → AreClosed taken es ms → Last taken es ms mark.effects → AreClosed taken es (ms ++ mark ∷ [])
  closed_mark taken es [] mark x last = tt
  closed_mark taken es (m ∷ []) mark x last = (last m refl, tt)
  closed_mark taken es (m ∷ n ∷ ms) mark x last = (x.0, closed_mark taken es (n ∷ ms) mark x.1 last)

  -- and all of them
  all_followed : (taken : List Sent) (es : List (Call Rid)) (ms : List Mark) → AreClosed taken es ms → Last taken es ms (length es) → AreFollowed plan capacities taken es ms
  all_followed taken es [] x last = tt
  all_followed taken es (m ∷ []) x last = (last m refl, tt)
  all_followed taken es (m ∷ n ∷ ms) x last = (x.0, all_followed taken es (n ∷ ms) x.1 last)

  -- ---- the last mark, by what is under way

  abbrev Told : LoggedService → Type 0
  Told = IsToldLog plan is workers capacities

  abbrev Under : LoggedService → Type 0
  Under s = IsUnderWay plan is workers capacities s

  apply_last : (s : LoggedService) → Under s → Last s.log.taken s.effects s.log.marks (length s.effects)
  apply_last s u m e =
      let same = same_Some u.mark m (sym u.last ∙ e) in
      subst (λ (z : Mark). IsFollowed plan capacities s.log.taken s.effects z z.event (length s.effects)) same
      (subst (λ z. IsFollowed plan capacities s.log.taken s.effects u.mark z (length s.effects)) (sym u.event_is) (under-steady plan is workers capacities s u))

  settled_by : (taken : List Sent) (es : List (Call Rid)) (mark : Mark) (e : MarkEvent) (to : ℕ) → IsLeftIn e Reconciled → IsFollowed plan capacities taken es mark e to
  settled_by taken es mark (event.Settled waits turns) to h = tt
  settled_by taken es mark (event.Faulted a b) to h = absurd cc
  settled_by taken es mark event.Restarted to (inl h) = absurd cc
  settled_by taken es mark event.Restarted to (inr h) = absurd cc
  settled_by taken es mark (event.ApplyBegan mode waits) to h = absurd cc
  settled_by taken es mark event.ApplyEnded to h = tt

  reconciled_last : (taken : List Sent) (es : List (Call Rid)) (ms : List Mark) (to : ℕ) → IsWarmAfter (last_mark None ms) Reconciled → Last taken es ms to
  reconciled_last taken es ms to warm m e = settled_by taken es m m.event to (subst (λ o. IsWarmAfter o Reconciled) e warm)

  -- the same apply after one call more, whether it was answered so or not
  under_call : (s : LoggedService) (call : Call Rid) (rest : List (Call Rid)) → Under s → s.service.left ≡ call ∷ rest → Under (record { service = record { warm = s.service.warm; core = s.service.core; seen = s.service.seen; left = rest }; log = s.log; effects = s.effects ++ call ∷ [] })
  under_call s call rest u next = record {
    first = u.first;
    began = u.began;
    restores = u.restores;
    holds = u.holds;
    before = u.before;
    done = u.done ++ call ∷ [];
    effects = ap (λ z. z ++ call ∷ []) u.effects ∙ append_assoc u.before u.done (call ∷ []);
    all = u.all ∙ ap (λ z. u.done ++ z) next ∙ sym (append_assoc u.done (call ∷ []) rest);
    objects = u.objects;
    made = u.made;
    machine = u.machine;
    mark = u.mark;
    last = u.last;
    event_is = u.event_is;
    number = u.number;
    least = u.least;
    taken = u.taken;
  }

  -- ---- with each event

  record IsFollowing (s : LoggedService) : Type 0 where
    told : Told s
    under : s.service.warm ≡ Applying → Under s
    closed : AreClosed s.log.taken s.effects s.log.marks
    last : Last s.log.taken s.effects s.log.marks (length s.effects)

  -- what holds of the marks so far, over later effects
  record Carries (s : LoggedService) (effects : List (Call Rid)) : Type 0 where
    closed : AreClosed s.log.taken effects s.log.marks
    last : Last s.log.taken effects s.log.marks (length effects)

  same_carries : (s : LoggedService) (effects : List (Call Rid)) → effects ≡ s.effects ++ [] → IsFollowing s → Carries s effects
  same_carries s effects e x = subst (Carries s) (sym (e ∙ append-nil s.effects)) (record { closed = x.closed; last = x.last })

  more_carries : (s : LoggedService) (call : Call Rid) (effects : List (Call Rid)) → effects ≡ s.effects ++ call ∷ [] → IsFollowing s → Last s.log.taken (s.effects ++ call ∷ []) s.log.marks (length (s.effects ++ call ∷ [])) → Carries s effects
  more_carries s call effects e x last = subst (Carries s) (sym e) (record { closed = closed_more (length s.log.taken) s.log.taken s.effects (call ∷ []) s.log.marks x.told.tells.within x.closed; last = last })

  worked_carries : (s : LoggedService) (c : Option (Call Rid)) (effects : List (Call Rid)) → effects ≡ s.effects ++ with_made_call c [] → IsFollowing s → s.service.warm ≡ Reconciled → Carries s effects
  worked_carries s None effects e x at = same_carries s effects e x
  worked_carries s (Some call) effects e x at = more_carries s call effects e x (reconciled_last s.log.taken (s.effects ++ call ∷ []) s.log.marks (length (s.effects ++ call ∷ [])) (subst (IsWarmAfter (last_mark None s.log.marks)) at x.told.warm))

  applied_carries : (s : LoggedService) (call : Call Rid) (rest : List (Call Rid)) (effects : List (Call Rid)) → effects ≡ s.effects ++ call ∷ [] → IsFollowing s → s.service.warm ≡ Applying → s.service.left ≡ call ∷ rest → Carries s effects
  applied_carries s call rest effects e x at next = more_carries s call effects e x (apply_last _ (under_call s call rest (x.under at) next))

  fault_carries : (s t : LoggedService) (c : Option (Call Rid)) (y : CallFails workers s.service c t.service) → t.effects ≡ s.effects ++ with_made_call c [] → IsFollowing s → Carries s t.effects
  fault_carries s t None y e x = same_carries s t.effects e x
  fault_carries s t (Some c) y e x = by y.due
    where
      by : IsDue workers s.service y.call → Carries s t.effects
      by (OfFlight at due) = worked_carries s (Some c) t.effects e x at
      by (OfPlan rest at next) = applied_carries s c rest t.effects e x at (next ∙ ap (λ z. z ∷ rest) (sym y.chip.0))

  -- no mark is added
  unmarked : (s t : LoggedService) → Told t → (t.service.warm ≡ Applying → Under t) → t.log.taken ≡ s.log.taken → t.log.marks ≡ s.log.marks → Carries s t.effects → IsFollowing t
  unmarked s t told under taken marks c = record {
    told = told;
    under = under;
    closed = subst (λ z. AreClosed z t.effects t.log.marks) (sym taken) (subst (AreClosed s.log.taken t.effects) (sym marks) c.closed);
    last = subst (λ z. Last z t.effects t.log.marks (length t.effects)) (sym taken) (subst (λ z. Last s.log.taken t.effects z (length t.effects)) (sym marks) c.last);
  }

  written : (s t : LoggedService) (sent : Sent) → Told t → (t.service.warm ≡ Applying → Under t) → t.log.taken ≡ s.log.taken ++ sent ∷ [] → t.log.marks ≡ s.log.marks → IsFollowing s → t.effects ≡ s.effects → IsFollowing t
  written s t sent told under taken marks x same =
      let within = x.told.tells.within in
      record {
        told = told;
        under = under;
        closed = subst (λ z. AreClosed t.log.taken z t.log.marks) (sym same) (subst (λ z. AreClosed z s.effects t.log.marks) (sym taken) (subst (AreClosed (s.log.taken ++ sent ∷ []) s.effects) (sym marks) (closed_taken (length s.effects) s.log.taken sent s.effects s.log.marks within x.closed)));
        last = subst (λ z. Last t.log.taken z t.log.marks (length z)) (sym same) (subst (λ z. Last z s.effects t.log.marks (length s.effects)) (sym taken) (subst (λ z. Last (s.log.taken ++ sent ∷ []) s.effects z (length s.effects)) (sym marks)
            (λ m e. followed_taken s.log.taken sent s.effects m m.event (length s.effects) (taken_last (length s.effects) None s.log.marks (λ n h. absurd cc) within m e) (x.last m e))));
      }
    where
      taken_last : (n : ℕ) (o : Option Mark) (ms : List Mark) → ((m : Mark) → o ≡ Some m → m.taken ≤ length s.log.taken) → AreWithin (length s.log.taken) n ms → (m : Mark) → last_mark o ms ≡ Some m → m.taken ≤ length s.log.taken
      taken_last n o [] first within m e = first m e
      taken_last n o (k ∷ ms) first within m e = taken_last n (Some k) ms (λ j h. subst (λ z. z ≤ length s.log.taken) (ap (λ (z : Mark). z.taken) (same_Some k j h)) within.0) within.3 m e

  -- one is added
  marked : (s t : LoggedService) (e : MarkEvent) → Told t → (t.service.warm ≡ Applying → Under t) → t.log.taken ≡ s.log.taken → t.log.marks ≡ s.log.marks ++ mark_now s.log t.effects e ∷ [] → Carries s t.effects → IsFollowed plan capacities t.log.taken t.effects (mark_now s.log t.effects e) e (length t.effects) → IsFollowing t
  marked s t e told under taken marks c now = record {
    told = told;
    under = under;
    closed = subst (λ z. AreClosed z t.effects t.log.marks) (sym taken) (subst (AreClosed s.log.taken t.effects) (sym marks) (closed_mark s.log.taken t.effects s.log.marks (mark_now s.log t.effects e) c.closed c.last));
    last = λ m h. subst (λ (z : Mark). IsFollowed plan capacities t.log.taken t.effects z z.event (length t.effects)) (same_Some (mark_now s.log t.effects e) m (sym (ap (last_mark None) marks ∙ last-more None s.log.marks (mark_now s.log t.effects e)) ∙ h)) now;
  }

  fault_log : (s t : LoggedService) → AddsFault s t → (a : ℕ) × (b : ℕ) × (t.log.taken ≡ s.log.taken) × (t.log.marks ≡ s.log.marks ++ mark_now s.log t.effects (event.Faulted a b) ∷ [])
  fault_log s t (a, b, less, inl x) = (a, b, ap (λ (z : History). z.taken) x, ap (λ (z : History). z.marks) x)
  fault_log s t (a, b, less, inr x) = (a, b, ap (λ (z : History). z.taken) x, ap (λ (z : History). z.marks) x)

  module _ (s t : LoggedService) (x : IsFollowing s) (told : Told t) (under : t.service.warm ≡ Applying → Under t) where
    begun_now : (e : MarkEvent) → t.service.warm ≡ Applying → t.log.marks ≡ s.log.marks ++ mark_now s.log t.effects e ∷ [] → IsFollowed plan capacities t.log.taken t.effects (mark_now s.log t.effects e) e (length t.effects)
    begun_now e at marks = apply_last t (under at) (mark_now s.log t.effects e) (ap (last_mark None) marks ∙ last-more None s.log.marks (mark_now s.log t.effects e))

    following_service : (c : Option (Call Rid)) (e : IsServiceEvent plan workers capacities s.service c t.service) → t.effects ≡ s.effects ++ with_made_call c [] → Records s t e → IsFollowing t
    following_service _ (OfTake _ y) effects (sent, same, log) = written s t sent told under (ap (λ (z : History). z.taken) log) (ap (λ (z : History). z.marks) log) x (effects ∙ append-nil s.effects)
    following_service _ (OfWork c _ y) effects records = absurd records
    following_service _ (OfFault c _ y) effects records = let f = fault_log s t records in marked s t (event.Faulted f.0 f.1) told under f.2 f.3 (fault_carries s t c y effects x) refl
    following_service _ (OfListFault _ y) effects records = let f = fault_log s t records in marked s t (event.Faulted f.0 f.1) told under f.2 f.3 (same_carries s t.effects effects x) refl
    following_service _ (OfRestart _ y) effects records = marked s t event.Restarted told under (ap (λ (z : History). z.taken) records) (ap (λ (z : History). z.marks) records) (same_carries s t.effects effects x) refl
    following_service _ (OfList _ y) effects records = unmarked s t told under (ap (λ (z : History). z.taken) records) (ap (λ (z : History). z.marks) records) (same_carries s t.effects effects x)
    following_service _ (OfRestore _ y) effects records = marked s t (event.ApplyBegan y.mode (waiting_of y.restored.waits)) told under (ap (λ (z : History). z.taken) records) (ap (λ (z : History). z.marks) records) (same_carries s t.effects effects x) (begun_now (event.ApplyBegan y.mode (waiting_of y.restored.waits)) y.warm (ap (λ (z : History). z.marks) records))
    following_service _ (OfApply call _ y) effects records = unmarked s t told under (ap (λ (z : History). z.taken) records) (ap (λ (z : History). z.marks) records) (applied_carries s call t.service.left t.effects effects x y.before y.next)
    following_service _ (OfFinish _ y) effects records = marked s t event.ApplyEnded told under (ap (λ (z : History). z.taken) records) (ap (λ (z : History). z.marks) records) (same_carries s t.effects effects x) tt

    following_machine : s.service.warm ≡ Reconciled → IsLoggedEvent plan workers capacities (switch_of s) (switch_of t) → IsFollowing t
    following_machine at (inl y) = written s t y.sent told under (ap (λ (z : History). z.taken) y.log) (ap (λ (z : History). z.marks) y.log) x y.effects
    following_machine at (inr (inl y)) = unmarked s t told under (ap (λ (z : History). z.taken) y.log) (ap (λ (z : History). z.marks) y.log) (worked_carries s y.call t.effects y.effects x at)
    following_machine at (inr (inr y)) =
        marked s t (event.Settled y.waits y.turns) told under (ap (λ (z : History). z.taken) y.log)
        (ap (λ (z : History). z.marks) y.log ∙ ap (λ z. s.log.marks ++ mark_now s.log z (event.Settled y.waits y.turns) ∷ []) (sym y.effects))
        (same_carries s t.effects (y.effects ∙ sym (append-nil s.effects)) x) tt

  following_step : (s t : LoggedService) → IsFollowing s → IsLoggedStep plan workers capacities s t → IsFollowing t
  following_step s t x step = by step
    where
      told : Told t
      told = told-step plan is workers capacities s t x.told step

      by : IsLoggedStep plan workers capacities s t → IsFollowing t
      by (OfMachine before after e) = following_machine s t x told (under-step plan is workers capacities s t x.told x.under step) before e
      by (OfService c e effects records) = following_service s t x told (under-step plan is workers capacities s t x.told x.under step) c e effects records

  following_session : (s : LoggedService) (ts : List LoggedService) → IsFollowing s → AreLoggedSteps plan workers capacities s ts → IsFollowing (session_after s ts)
  following_session s [] x run = x
  following_session s (t ∷ ts) x run = following_session t ts (following_step s t x run.0) run.1

  following_first : IsFollowing new_session
  following_first = record { told = told-first plan is workers capacities; under = λ at. apart Reconciled Applying at (λ e. cc); closed = tt; last = λ m e. absurd cc }

  pub log-followed : (ts : List LoggedService) → AreLoggedSteps plan workers capacities new_session ts → AreFollowed plan capacities (session_after new_session ts).log.taken (session_after new_session ts).effects (session_after new_session ts).log.marks
  log-followed ts run =
      let s = session_after new_session ts in
      let x = following_session new_session ts following_first run in
      all_followed s.log.taken s.effects s.log.marks x.closed x.last
