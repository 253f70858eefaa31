-- what a settling comes to, for the round that it ends or stops
use Rattle.std.proofs.Common.{true, ◌≡◌, ◌⊎◌, inl, inr, ℕ, ◌+◌, ◌<◌, ◌≤◌, List, [], ◌∷◌, ◌++◌, length, Some, None, Result, Ok, Err, refl, sym, ap, ◌∙◌, subst, arith}
use Rattle.std.proofs.lemmas.List.{append-nil}
use Rattle.swss_types.specs.declared.out_of_memory.OutOfMemory.{OutOfMemory}
use Rattle.table_schema.specs.Plan.{Ports}
use Rattle.table_schema.specs.Rows.{rows_of}
use Rattle.table_schema.specs.declared.key.Key.{Key}
use Rattle.table_schema.specs.declared.row.Row.{Row}
use Rattle.table_schema.specs.declared.write.Sent.{Sent}
use Rattle.sai_types.specs.ChipState.{ChipState, IsAskedOnce}
use Rattle.sai_types.specs.declared.ids.Rid.{Rid}
use Rattle.sai_types.specs.declared.body.Call.{Call}
use Rattle.sai_types.specs.declared.plan.PlanCall.{PlanCall}
use Rattle.switch_model.specs.History.{History, log_size}
use Rattle.switch_model.specs.Desired.{IsClosed, IsThingOf}
use Rattle.switch_model.specs.Good.{good_rows}
use Rattle.switch_model.specs.Marks.{Waiting, sent_writes}
use Rattle.switch_model.specs.Promises.{good_rows_at}
use Rattle.switch_model.specs.Room.{HasRoomForView}
use Rattle.switch_model.specs.Sound.{is_suspect}
use Rattle.switch_model.specs.declared.mark.MarkEvent.TheVariants as event
use Rattle.switch_machine.specs.Next.{MustWait}
use Rattle.machine_laws.specs.Order.{AreMarksInOrder, MayEndRound}
use Rattle.producer_table.specs.Pending.{ArePendingInOrder}
use Rattle.restart_laws.specs.Logged.{LoggedService, last_mark}
use Rattle.restart_laws.specs.Restored.{IsPass, IsRestored}
use Rattle.switch_machine.specs.Events.{SwitchState, fresh_view}
use Rattle.flight_board.specs.Applied.{row_at}
use Rattle.flight_board.specs.Board.{flown_at}
use Rattle.warm_state.specs.declared.warm.Warm.{Warm}
use Rattle.warm_state.specs.declared.warm.Warm.TheVariants as warm
use Rattle.session_laws.specs.Core.{CoreState, IsFullFor, mark_at, size_beside}
use Rattle.syncd_core.specs.Run.{tied_calls}
use Rattle.session_laws.specs.Service.Built.{IsBuilt}
use Rattle.session_laws.specs.Service.Events.{MakesMore}
use Rattle.session_laws.specs.Service.Standing.{IsApplyingCore, written_of}
use Rattle.session_laws.proofs.ByFirst.{by_any}
use Rattle.session_laws.proofs.Service.ByFirst.{core-away}
use Rattle.session_laws.proofs.Service.Joining.{one-more}
use Rattle.session_laws.proofs.Service.Popped.{none-waits, popped-all}
use Rattle.session_laws.proofs.Service.States.{suspect-reconciled}
use Rattle.round_laws.specs.Awaited.{AwaitsCall}
use Rattle.round_laws.specs.Named.{keys_named}
use Rattle.round_laws.proofs.Awaited.{apply-awaited, call-awaited, keys-awaited, ops-few}
use Rattle.round_laws.proofs.Between.{its-log, its-mark}
use Rattle.round_laws.proofs.Growing.{effects-grow}
use Rattle.round_laws.proofs.Listed.{listed-few}
use Rattle.round_laws.proofs.Sessions.{leads-on, log-ordered, one-on, sized, some-on, warm-after}
use Rattle.orch_core.specs.ComingBack.{IsFullOnWay, places_on_way, restarts_due, restarts_marked}
use Rattle.orch_core.specs.Restarting.{FaultsOnWay, IsFullOncePopped, StaysInService, places_left}
use Rattle.orch_core.specs.Settled.{Settles, SettlesSoFar, SettlesWhole, StopsAtMark, StopsFaulted, StopsFull}
use Rattle.orch_core.proofs.Serving.{settling_serves}
use Rattle.orch_core.specs.declared.answer.Settled.{Settled}
use Rattle.orch_core.specs.declared.answer.Settled.TheVariants as settled
use Rattle.swss_script.specs.Sent.{sent_in_round}
use Rattle.swss_script.specs.declared.parts.Round.{Round}
use Rattle.swss_run.specs.Faults.{places_beside}
use Rattle.swss_run.specs.Full.{AreActsMade, AwaitsEnd, AwaitsRestore, IsFull}
use Rattle.swss_run.specs.Full.IsFull.{AtApplyEnd, AtCall, AtFault, AtList, AtMark, AtRestore, AtRestoring}
use Rattle.swss_run.specs.Rounds.{Ran}
use Rattle.swss_run.specs.Running.{HasCome, KeepsPlan, StopsRound}
use Rattle.swss_run.specs.declared.status.Status.{Status}
use Rattle.swss_run.specs.declared.status.Status.TheVariants as status
use Rattle.swss_run.proofs.Counting.{HasRestarted, restart-last, restarts-stopped, suspect-now}
use Rattle.swss_run.proofs.Faulting.{LeavesFault, beside-two, beside-way}
use Rattle.swss_run.proofs.OnWay.{come-stays, come-steps, since_steps}
use Rattle.swss_run.proofs.Draining.{drains-behind}
use Rattle.swss_run.proofs.Over.{IsCutSo, IsOver, drained_by, over-failed, over-settled, turned_behind}
use Rattle.orch_core.proofs.Chips.{effects_asked}
use Rattle.swss_run.proofs.Behind.{IsBehind, ends-behind, log-behind, same-last, turned-behind}
use Rattle.switch_model.specs.declared.mark.Mark.{Mark}

-- a round that stopped with a full log
abbrev pub IsFullStop : Round → CoreState → ChipState → CoreState → ChipState → Type 0
IsFullStop round old sim new sim' =
    (stops : StopsRound round old sim new sim') × IsFull new.board.plan new.sync.capacities new.limit round new.log sim' stops.since stops.come.within.session × (new.limit < log_size new.log (length sim'.effects) + 2 + length (keys_named new.log.taken))

-- or with this status
abbrev pub IsStopped : Round → CoreState → ChipState → Status → CoreState → ChipState → Type 0
IsStopped round old sim ended new sim' = ((ended ≡ status.LogFull) × IsFullStop round old sim new sim') ⊎ ((ended ≡ status.OutOfMemory) × StopsRound round old sim new sim')

module _ (round : Round) (old : CoreState) (sim : ChipState) (since : Ran) (new : CoreState) (sim' : ChipState) (come : HasCome old sim since new sim') (all : since.sent ≡ sent_in_round round) where
  -- it stops there
  abbrev pub stops_here : (w : Warm) → HasRestarted round old.log.marks since.marks w → StopsRound round old sim new sim'
  stops_here w restarted = record {
    since = since;
    rest = [];
    front = sym all ∙ sym (append-nil since.sent);
    restarts = restarts-stopped round old.log.marks since.marks w restarted (subst (λ (h : History). AreMarksInOrder None h.marks) come.log (log-ordered new sim' come.within).order);
    come = come;
  }

  -- all acts were made
  acts-made : (w : Warm) → HasRestarted round old.log.marks since.marks w → AreActsMade round since
  acts-made w restarted = record { sent = all; restarts = restarted.least }

-- ---- on the way back

module _ (round : Round) (old : CoreState) (sim : ChipState) (since : Ran) (c : CoreState) (cchip : ChipState) (come : HasCome old sim since c cchip) (all : since.sent ≡ sent_in_round round) (restarted : HasRestarted round old.log.marks since.marks c.warm) (new : CoreState) (sim' : ChipState) (asked : IsAskedOnce cchip sim') (stays : StaysInService come.within.session c new sim') where
  -- the later core stands for the same session
  stayed : (x : HasCome old sim since new sim') × (x.within.session ≡ come.within.session)
  stayed = come-stays old sim since c cchip come new sim' asked stays

  then : HasCome old sim since new sim'
  then = stayed.0

  made : AreActsMade round since
  made = acts-made round old sim since new sim' then all c.warm restarted

  same_size : size_beside c (length cchip.effects) ≡ log_size new.log (length sim'.effects)
  same_size = sized c cchip come.within ∙ ap (λ (h : History). log_size h (length cchip.effects)) (sym stays.log) ∙ ap (λ es. log_size new.log (length es)) (sym (effects_asked asked))

  abbrev FullSo : Type 0
  FullSo = IsFull new.board.plan new.sync.capacities new.limit round new.log sim' since come.within.session

  abbrev ManySo : Type 0
  ManySo = new.limit < log_size new.log (length sim'.effects) + 2 + length (keys_named new.log.taken)

  -- the same of the later core
  as_new : (P : Ports → List ℕ → Type 0) → P c.board.plan c.sync.capacities → P new.board.plan new.sync.capacities
  as_new P h = subst (λ p. P p new.sync.capacities) (sym stays.plan) (subst (P c.board.plan) (sym stays.capacities) h)

  need_few : (need : ℕ) → need ≤ 2 → IsFullFor c (length cchip.effects) need → (new.limit < log_size new.log (length sim'.effects) + need) × ManySo
  need_few need few full =
      let size = same_size in
      let limit = stays.limit in
      let short : new.limit < log_size new.log (length sim'.effects) + need = omega (arith, full, size, limit) in
      (short, omega (arith, short, few))

  at_fault : c.warm ≡ warm.Suspect → IsFullFor c (length cchip.effects) 1 → FullSo × ManySo
  at_fault at full =
      let short = need_few 1 (omega arith) full in
      (AtFault made (ap (λ (h : History). is_suspect h.marks) stays.log ∙ suspect-now c.log.marks c.warm (warm-after c cchip come.within) at) short.0, short.1)

  at_list : c.warm ≡ warm.Initialized → IsFullFor c (length cchip.effects) 1 → FullSo × ManySo
  at_list at full =
      let short = need_few 1 (omega arith) full in
      let last = restart-last c.log.marks c.warm (warm-after c cchip come.within) at in
      (AtList last.0 made (ap (λ (h : History). last_mark None h.marks) stays.log ∙ last.1) last.2 short.0, short.1)

  -- a restore, once all that waits is popped
  module _ (at : c.warm ≡ warm.Restored) (full : IsFullOncePopped come.within.session c cchip) where
    abbrev first : CoreState
    first = record c { tables = full.tables }

    abbrev built : IsBuilt first full.full.built []
    built = full.full.all

    abbrev view : SwitchState
    view = built.own.service.core

    abbrev restored : IsRestored c.board.plan 4 c.sync.capacities come.within.session.service.core.written view
    restored = record {
      written = written_of first;
      keys = built.keys;
      popped = popped-all first come.within.session.service.core.written full.stands.always.ahead full.popped.waiting;
      none = none-waits first come.within.session.service.core.written full.stands.always.ahead full.popped.waiting;
      all = built.all;
      rising = built.rising;
      waits = built.waits;
      pass = subst (λ l. IsPass c.board.plan 4 c.sync.capacities (fresh_view (written_of first) built.keys) built.keys l view) (append-nil built.waits) (built.pass [] view (refl, refl));
    }

    awaits : AwaitsRestore c.board.plan c.sync.capacities come.within.session built.waits
    awaits = record { warm = come.within.stands.always.warm_is ∙ at; view = view; restored = restored; lists = refl }

    at_restore : FullSo × ManySo
    at_restore =
        let size = same_size in
        let limit = stays.limit in
        let lack = full.full.full in
        let few : length built.waits ≤ length (keys_named new.log.taken) = subst (λ (h : History). length built.waits ≤ length (keys_named h.taken)) (sym stays.log) (listed-few first full.full.built built) in
        let short : new.limit < log_size new.log (length sim'.effects) + 1 + length built.waits = omega (arith, lack, size, limit) in
        (AtRestore built.waits made (as_new (λ p l. AwaitsRestore p l come.within.session built.waits) awaits) short, omega (arith, short, few))

  -- a call of the plan, or its end
  module _ (at : c.warm ≡ warm.Applying) where
    core_applying : IsApplyingCore c come.within.session.service
    core_applying = (come.within.stands.applying at).1

    ends : c.sync.left ≡ [] → AwaitsEnd come.within.session
    ends none = record {
      warm = come.within.stands.always.warm_is ∙ at;
      none = core_applying.underway.left_are ∙ ap (tied_calls come.within.session.service.core.made c.sync.view) none;
    }

    awaits_call : (next : PlanCall) (rest : List PlanCall) → c.sync.left ≡ next ∷ rest → AwaitsCall come.within.session
    awaits_call next rest left = apply-awaited c cchip come.within at next rest left

    at_plan : IsFullFor c (length cchip.effects) (places_left c.sync.left) → FullSo × ManySo
    at_plan full = by c.sync.left refl
      where
        by : (left : List PlanCall) → c.sync.left ≡ left → FullSo × ManySo
        by [] none =
            let short = need_few 1 (omega arith) (subst (λ l. IsFullFor c (length cchip.effects) (places_left l)) none full) in
            (AtApplyEnd made (ends none) short.0, short.1)
        by (next ∷ rest) some =
            let short = need_few 2 (omega arith) (subst (λ l. IsFullFor c (length cchip.effects) (places_left l)) some full) in
            (AtCall made (awaits_call next rest some) short.0, short.1)

  full_way : (w : Warm) → c.warm ≡ w → IsFullOnWay w come.within.session c cchip → FullSo × ManySo
  full_way warm.Suspect at full = at_fault at full
  full_way warm.Initialized at full = at_list at full
  full_way warm.Restored at (inl full) =
      let short = need_few 1 (omega arith) full in
      (AtRestoring made (come.within.stands.always.warm_is ∙ at) short.0, short.1)
  full_way warm.Restored at (inr full) = at_restore at full
  full_way warm.Applying at full = at_plan at full
  full_way warm.Reconciled at full = absurd full

  -- the same of the session that the later core and its chip stand for
  abbrev IsFullAt : Type 0
  IsFullAt = (x : HasCome old sim since new sim') × IsFull new.board.plan new.sync.capacities new.limit round new.log sim' since x.within.session × ManySo

  full_at : FullSo × ManySo → IsFullAt
  full_at x = (stayed.0, subst (λ s. IsFull new.board.plan new.sync.capacities new.limit round new.log sim' since s) (sym stayed.1) x.0, x.1)

  pub full-way : IsFullOnWay c.warm come.within.session c cchip → IsFullStop round old sim new sim'
  full-way full =
      let x = full_at (full_way c.warm refl full) in
      (stops_here round old sim since new sim' x.0 all c.warm restarted, x.1, x.2)

  pub short-way : StopsRound round old sim new sim'
  short-way = stops_here round old sim since new sim' then all c.warm restarted

-- where the good rows are closed and there is room for their things, no key waits, and there were at most four turns
abbrev LeavesNone : Waiting → ℕ → Ports → List ℕ → List Sent → Type 0
LeavesNone waits turns plan capacities taken = IsClosed (good_rows plan (rows_of (sent_writes taken))) → HasRoomForView capacities (IsThingOf plan (good_rows plan (rows_of (sent_writes taken)))) → (waits ≡ []) × (turns ≤ 4)

-- a call that failed there
module _ (round : Round) (old : CoreState) (sim : ChipState) (since : Ran) (c : CoreState) (cchip : ChipState) (come : HasCome old sim since c cchip) (all : since.sent ≡ sent_in_round round) (restarted : HasRestarted round old.log.marks since.marks c.warm) (new : CoreState) (sim' : ChipState) where
  abbrev left_way : FaultsOnWay (places_on_way c.warm) true come.within.session c cchip new sim' → LeavesFault c new sim'
  left_way f = record {
    before = cchip.faults;
    one = f.one;
    log = f.log;
    need = places_on_way c.warm;
    places = f.places;
    few = f.few;
    beside = subst (λ (h : History). places_beside h.marks + 1 ≤ places_on_way c.warm) (sym f.log) (beside-way c cchip come.within (mark_at c (length sim'.effects) (event.Faulted cchip.faults sim'.faults)));
    limit = f.makes.limit;
  }

  pub fault-way : ((calls : List (Call Rid)) → IsCutSo old sim since calls) → (restarts_due c.warm ≡ 0) × FaultsOnWay (places_on_way c.warm) true come.within.session c cchip new sim' → ArePendingInOrder new.tables.waiting → IsOver round old sim status.ChipFault new sim'
  fault-way so (none, f) order =
      let stays = core-away c new cchip sim' come.within.session f.makes.later come.within.stands f.makes.stands (λ h. suspect-reconciled (sym f.warm ∙ h)) in
      let more = one-more 0 c new sim' come.within.session f.makes (by_any 0 come.within.session f.makes.later stays) in
      let grown = effects-grow c new cchip sim' come.within more in
      over-failed round old sim since c cchip come all restarted none new sim' (left_way f) grown.0 grown.1 (one-on c new cchip sim' come.within f.makes (stays 1)).0
      (record { plan = f.makes.plan; capacities = f.makes.capacities; limit = f.makes.limit }) (so grown.0) refl f.warm order

  -- ---- a settling of a core that is reconciled

  module _ (at : c.warm ≡ warm.Reconciled) where
    none_due : restarts_due c.warm ≡ 0
    none_due = ap restarts_due at

    more_of : (r : Result Settled OutOfMemory) → Settles come.within.session c cchip r new sim' → MakesMore 0 c come.within.session new sim'
    more_of r e = settling_serves 0 come.within.session c cchip come.within.stands r new sim' e

    same_of : (r : Result Settled OutOfMemory) → Settles come.within.session c cchip r new sim' → KeepsPlan c new
    same_of r e = let more = more_of r e in record { plan = more.plan; capacities = more.capacities; limit = more.limit }

    few_faulted : (f : StopsFaulted (SettlesSoFar c.board.plan c.sync.capacities) come.within.session c cchip new sim') → length sim'.effects + 1 ≤ sim'.before_fault + 2
    few_faulted f = let few = f.marks.few in omega (arith, few)

    abbrev left_faulted : StopsFaulted (SettlesSoFar c.board.plan c.sync.capacities) come.within.session c cchip new sim' → LeavesFault c new sim'
    left_faulted f = record { before = cchip.faults; one = f.marks.one; log = f.marks.log; need = 2; places = f.marks.places; few = few_faulted f; beside = beside-two new.log.marks; limit = f.steps.limit }

    pub settled-faulted : ((calls : List (Call Rid)) → sim'.effects ≡ cchip.effects ++ calls → IsCutSo old sim since calls) → Settles come.within.session c cchip (Ok settled.Faulted) new sim' → ArePendingInOrder new.tables.waiting → IsOver round old sim status.ChipFault new sim'
    settled-faulted so e order =
        let more = more_of (Ok settled.Faulted) e in
        let grown = effects-grow c new cchip sim' come.within more in
        over-failed round old sim since c cchip come all restarted none_due new sim' (left_faulted e.0) grown.0 grown.1 (some-on c new cchip sim' come.within (omega arith) more).0 (same_of (Ok settled.Faulted) e) (so grown.0 grown.1) refl e.0.marks.warm order

    -- it ended at its mark, behind a restart and its apply
    pub settled-behind : IsBehind old sim since c cchip come → 1 ≤ restarts_marked since.marks → ((v : ℕ) → v < 4 → flown_at c.board v ≡ None) → ((k : Key) (row : Row) → row_at c.board.applied k ≡ Some row → good_rows_at c.board.plan c.log.taken (length c.log.taken) k ≡ Some row) → SettlesWhole come.within.session c cchip new sim' → IsOver round old sim status.Done new sim'
    settled-behind x some free rows e =
        let y = ends-behind old sim since c cchip come x new sim' e.settles in
        let log = log-behind old sim since c cchip come x new sim' y in
        let its : y.mark ≡ its-mark c new cchip sim' come.within e.settles = (same-last c.log.marks c.log.marks y.mark (its-mark c new cchip sim' come.within e.settles) (ap (λ (h : History). h.marks) (sym log ∙ its-log c new cchip sim' come.within e.settles))).1 in
        let is : y.mark.event ≡ event.Settled e.settles.settling.waits e.settles.settling.turns = ap (λ (m : Mark). m.event) its in
        let may : MayEndRound y.mark.event = subst MayEndRound (sym is) tt in
        let same = same_of (Ok settled.Settled) e in
        over-settled round old sim since c cchip come all restarted none_due new sim' y.mark may log y.calls y.effects y.later.resting.within same e.settles.settling.waits e.settles.settling.turns is y.later e.places e.keeps
        (turned_behind round old sim since c cchip come all restarted none_due new sim' y.mark may log y.calls y.effects y.later.resting.within same some e.settles.settling.waits e.settles.settling.turns is (turned-behind old sim since c cchip come x new sim' y))
        (drained_by round old sim since c cchip come all restarted none_due new sim' y.mark may log y.calls y.effects y.later.resting.within same e.settles.settling.waits e.settles.settling.turns is
        (drains_old (λ closed room. drains-behind c new cchip sim' come.within at e.settles free rows closed room)))
      where
        drains_old : LeavesNone e.settles.settling.waits e.settles.settling.turns c.board.plan c.sync.capacities c.log.taken → LeavesNone e.settles.settling.waits e.settles.settling.turns old.board.plan old.sync.capacities (old.log.taken ++ since.sent)
        drains_old d = subst (λ p. LeavesNone e.settles.settling.waits e.settles.settling.turns p old.sync.capacities (old.log.taken ++ since.sent)) come.same.plan (subst (λ l. LeavesNone e.settles.settling.waits e.settles.settling.turns c.board.plan l (old.log.taken ++ since.sent)) come.same.capacities (subst (λ (h : History). LeavesNone e.settles.settling.waits e.settles.settling.turns c.board.plan c.sync.capacities h.taken) come.log d))

    -- the log was full
    full-call : StopsFull (SettlesSoFar c.board.plan c.sync.capacities) come.within.session c cchip new sim' → IsFullStop round old sim new sim'
    full-call e =
        let more = more_of (Ok settled.LogFull) (inl e) in
        let within = (some-on c new cchip sim' come.within (omega arith) more).0 in
        let then = come-steps old sim since c cchip come new sim' e.keeps more within e.log in
        let now = since_steps old sim since c cchip come new sim' e.keeps (effects-grow c new cchip sim' come.within more).0 in
        let size = sized new sim' within in
        let full = e.full in (
          stops_here round old sim now new sim' then all c.warm restarted,
          AtCall (acts-made round old sim now new sim' then all c.warm restarted) (call-awaited new sim' within e.warm e.flying.0 e.flying.1 e.flying.2) (omega (arith, full, size)),
          omega (arith, full, size),
        )

    full-mark : StopsAtMark (SettlesSoFar c.board.plan c.sync.capacities) come.within.session c cchip new sim' → IsFullStop round old sim new sim'
    full-mark e =
        let more = more_of (Ok settled.LogFull) (inr e) in
        let there = leads-on c new cchip sim' come.within (ap (λ (h : History). h.taken) e.log) (inl e.at_rest.warm) (omega arith) e.later e.leads in
        let within = there.0 in
        let then = come-steps old sim since c cchip come new sim' e.keeps more within e.log in
        let now = since_steps old sim since c cchip come new sim' e.keeps (effects-grow c new cchip sim' come.within more).0 in
        let awaited = keys-awaited new sim' within e.at_rest.warm e.at_rest.popped e.at_rest.free e.order (λ k to_sync. subst (λ (s : LoggedService). MustWait new.board.plan 4 new.sync.capacities s.service.core k) (sym there.1) (e.waits k to_sync)) in
        let size = sized new sim' within in
        let full = e.full in
        let many = awaited.1 in
        let few = ops-few new sim' within (inl e.at_rest.warm) e.order in (
          stops_here round old sim now new sim' then all c.warm restarted,
          AtMark awaited.0 (acts-made round old sim now new sim' then all c.warm restarted) awaited.2 (omega (arith, full, size, many)),
          omega (arith, full, size, few),
        )

    pub settled-full : Settles come.within.session c cchip (Ok settled.LogFull) new sim' → IsFullStop round old sim new sim'
    settled-full (inl e) = full-call e
    settled-full (inr e) = full-mark e

    pub settled-short : (o : OutOfMemory) → Settles come.within.session c cchip (Err o) new sim' → StopsRound round old sim new sim'
    settled-short o e =
        let more = more_of (Err o) e in
        let within = (some-on c new cchip sim' come.within (omega arith) more).0 in
        let now = since_steps old sim since c cchip come new sim' e.keeps (effects-grow c new cchip sim' come.within more).0 in
        stops_here round old sim now new sim' (come-steps old sim since c cchip come new sim' e.keeps more within e.log) all c.warm restarted
