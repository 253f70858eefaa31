-- a round that is over
use Rattle.std.proofs.Common.{◌≡◌, ◌⊎◌, inl, inr, ℕ, ◌+◌, ◌<◌, ◌≤◌, true, false, List, [], ◌∷◌, ◌++◌, length, Some, None, refl, sym, ap, ◌∙◌, subst, arith}
use Rattle.std.proofs.lemmas.Bool.{false≢true}
use Rattle.std.proofs.lemmas.List.{append_assoc}
use Rattle.std.proofs.lemmas.Option.{same_Some}
use Rattle.table_schema.specs.Rows.{rows_of}
use Rattle.sai_types.specs.ChipState.{ChipState}
use Rattle.sai_types.specs.declared.ids.Rid.{Rid}
use Rattle.sai_types.specs.declared.body.Call.{Call}
use Rattle.switch_model.specs.History.{History, log_size, with_end, with_mark}
use Rattle.switch_model.specs.Desired.{IsClosed, IsThingOf}
use Rattle.switch_model.specs.Good.{good_rows}
use Rattle.switch_model.specs.Marks.{Waiting, sent_writes}
use Rattle.switch_model.specs.Room.{HasRoomForView}
use Rattle.switch_model.specs.Sound.{is_fault, is_suspect}
use Rattle.switch_model.specs.declared.mark.Mark.{Mark}
use Rattle.switch_model.specs.declared.mark.MarkEvent.{MarkEvent}
use Rattle.switch_model.specs.declared.mark.MarkEvent.TheVariants as event
use Rattle.machine_laws.specs.Order.{AreMarksInOrder, IsSettledMark, MayEndRound}
use Rattle.producer_table.specs.Pending.{ArePendingInOrder}
use Rattle.restart_laws.specs.Logged.{IsLeftIn, IsWarmAfter, last_mark}
use Rattle.restart_laws.proofs.Marking.{last-more}
use Rattle.warm_state.specs.declared.warm.Warm.{Warm}
use Rattle.warm_state.specs.declared.warm.Warm.TheVariants as warm
use Rattle.session_laws.specs.Core.{CoreState, size_beside}
use Rattle.round_laws.specs.Between.{IsBetweenRounds, IsReadyForRound, mark_of, round_from}
use Rattle.round_laws.specs.Ended.{CountsCalls, LeavesSettled}
use Rattle.round_laws.specs.Sessions.{InSession}
use Rattle.round_laws.specs.Turns.{IsMadeSoFar}
use Rattle.round_laws.proofs.Ready.{between-ready, suspect-ready}
use Rattle.round_laws.proofs.Sessions.{log-ordered, sized, warm-after}
use Rattle.orch_core.specs.ComingBack.{restarts_due, restarts_marked}
use Rattle.orch_core.specs.Outcomes.{KeepsChip}
use Rattle.swss_script.specs.Sent.{sent_in_round}
use Rattle.swss_script.specs.declared.parts.Round.{Round}
use Rattle.swss_service.specs.Faults.{FaultsRise}
use Rattle.swss_run.specs.Faults.{places_beside}
use Rattle.swss_run.specs.Rounds.{Ran}
use Rattle.swss_run.specs.Running.{EndsRound, HasCome, KeepsPlan, with_round}
use Rattle.swss_run.specs.Turned.{DrainsBehind, EndedApply, EndsTurned, IsRoundTurned, behind_apply}
use Rattle.swss_run.specs.declared.status.Status.{Status}
use Rattle.swss_run.specs.declared.status.Status.TheVariants as status
use Rattle.swss_run.proofs.Behind.{same-last, same-last-two}
use Rattle.swss_run.proofs.Counting.{HasRestarted, fault_unsettled, restarts-ended, restarts-mark, rise-mark, suspect-last}
use Rattle.swss_run.proofs.Faulting.{LeavesFault, fault_mark, fits-faulted, places-faulted, rise-faulted}
use Rattle.swss_run.proofs.OnWay.{same-trans}

-- how the last round ended, if one did: at the mark of a settling that ended, or at that of a fault
abbrev pub IsEndedAs : Status → CoreState → ChipState → Type 0
IsEndedAs ended core sim = ((ended ≡ status.Done) × (is_suspect core.log.marks ≡ false)) ⊎ ((ended ≡ status.ChipFault) × (is_suspect core.log.marks ≡ true) × (0 < sim.faults))

-- a round ended with this status, and the next may begin
pub record IsOver (round : Round) (old : CoreState) (sim : ChipState) (ended : Status) (new : CoreState) (sim' : ChipState) : Type 0 where
  pub ran : Ran
  pub ends : EndsRound round old sim ran new sim'
  pub ready : IsReadyForRound 1 new sim'
  pub how : IsEndedAs ended new sim'

-- where a fault ends it, and no mark was made before, its calls are those of its turns so far; and so are those behind an apply, where the mark of its end came right before
pub record IsCutSo (old : CoreState) (sim : ChipState) (since : Ran) (calls : List (Call Rid)) : Type 0 where
  pub whole : since.marks ≡ [] → LeavesSettled (mark_of old) → (mark : Mark) → IsMadeSoFar old.board.plan old.sync.capacities (round_from (mark_of old) old sim since.sent (since.calls ++ calls) mark)
  pub behind : (earlier : List Mark) (ended : Mark) → since.marks ≡ earlier ++ ended ∷ [] → ended.event ≡ event.ApplyEnded → (mark : Mark) → (x : EndedApply sim.effects (record { marks = since.marks ++ mark ∷ []; sent = since.sent; calls = since.calls ++ calls }) (mark ∷ [])) × IsMadeSoFar old.board.plan old.sync.capacities (behind_apply old.log.taken sim.effects (record { marks = since.marks ++ mark ∷ []; sent = since.sent; calls = since.calls ++ calls }) (mark ∷ []) x mark)

-- a list that is one mark has no other
pub alone : (xs : List Mark) (x m : Mark) → xs ++ x ∷ [] ≡ m ∷ [] → (xs ≡ []) × (x ≡ m)
alone [] x m is = (refl, cc)
alone (y ∷ []) x m is = cc
alone (y ∷ z ∷ zs) x m is = cc

-- the mark of a settling that ended is that of no fault
-- no list with a last mark is empty
pub empty-last : (xs : List Mark) (x : Mark) → [] ≡ xs ++ x ∷ [] → ⊥
empty-last [] x is = cc
empty-last (y ∷ xs) x is = cc

pub unfailed : (mark m : Mark) (waits : Waiting) (turns : ℕ) → mark.event ≡ event.Settled waits turns → mark ≡ m → is_fault m.event ≡ true → ⊥
unfailed mark m waits turns is same bad = false≢true (sym (ap is_fault is) ∙ (ap (λ (x : Mark). is_fault x.event) same ∙ bad))

-- a round that restarted has a mark before its last
pub marked_before : (marks : List Mark) → 1 ≤ restarts_marked marks → marks ≡ [] → ⊥
marked_before marks some none = let count : restarts_marked marks ≡ 0 = ap restarts_marked none in omega (arith, count, some)

-- the mark of the end of an apply leaves a core reconciled
pub ended-warm : (marks earlier : List Mark) (ended : Mark) (w : Warm) → marks ≡ earlier ++ ended ∷ [] → ended.event ≡ event.ApplyEnded → IsWarmAfter (last_mark None marks) w → w ≡ warm.Reconciled
ended-warm marks earlier ended w is end left = subst (λ e. IsLeftIn e w) end (subst (λ o. IsWarmAfter o w) (ap (λ l. last_mark None l) is ∙ last-more None earlier ended) left)

-- a round that restarted, and then did not come to the end of an apply
pub uncut : (old : CoreState) (sim : ChipState) (since : Ran) (c : CoreState) (cchip : ChipState) → HasCome old sim since c cchip → 1 ≤ restarts_marked since.marks → (c.warm ≡ warm.Reconciled → ⊥) → (calls : List (Call Rid)) → IsCutSo old sim since calls
uncut old sim since c cchip come some away calls = record {
  whole = λ none left mark. absurd (marked_before since.marks some none);
  behind = λ earlier ended is end mark. absurd (away (ended-warm c.log.marks (old.log.marks ++ earlier) ended c.warm (ap (λ (h : History). h.marks) come.log ∙ ap (λ l. old.log.marks ++ l) is ∙ sym (append_assoc old.log.marks earlier (ended ∷ []))) end (warm-after c cchip come.within)));
}

-- one that did not restart
pub cut-plain : (old : CoreState) (sim : ChipState) (since : Ran) (calls : List (Call Rid)) → since.marks ≡ [] → ((mark : Mark) → IsMadeSoFar old.board.plan old.sync.capacities (round_from (mark_of old) old sim since.sent (since.calls ++ calls) mark)) → IsCutSo old sim since calls
cut-plain old sim since calls none so = record {
  whole = λ unmarked left mark. so mark;
  behind = λ earlier ended is end mark. absurd (empty-last earlier ended (sym none ∙ is));
}

module _ (round : Round) (old : CoreState) (sim : ChipState) (since : Ran) (c : CoreState) (cchip : ChipState) (come : HasCome old sim since c cchip) (all : since.sent ≡ sent_in_round round) (restarted : HasRestarted round old.log.marks since.marks c.warm) (none : restarts_due c.warm ≡ 0) (new : CoreState) (sim' : ChipState) (mark : Mark) (may : MayEndRound mark.event) (log : new.log ≡ with_end (with_mark c.log mark)) (calls : List (Call Rid)) (grown : sim'.effects ≡ cchip.effects ++ calls) (within : InSession 1 new sim') (same : KeepsPlan c new) where
  abbrev pub ran_now : Ran
  ran_now = record { marks = since.marks ++ mark ∷ []; sent = since.sent; calls = since.calls ++ calls }

  log_now : new.log ≡ with_round old.log ran_now
  log_now =
      log
      ∙ ap (λ h. with_end (with_mark h mark)) come.log
      ∙ ap (λ ms. record { taken = old.log.taken ++ since.sent; marks = ms; ends = old.log.ends ++ length ms ∷ [] }) (append_assoc old.log.marks since.marks (mark ∷ []))

  calls_now : sim'.effects ≡ sim.effects ++ (since.calls ++ calls)
  calls_now = grown ∙ ap (λ l. l ++ calls) come.calls ∙ append_assoc sim.effects since.calls calls

  order_now : AreMarksInOrder None (old.log.marks ++ (since.marks ++ mark ∷ []))
  order_now = subst (λ (h : History). AreMarksInOrder None h.marks) log_now (log-ordered new sim' within).order

  last_now : mark_of new ≡ Some mark
  last_now = ap (λ (h : History). last_mark None h.marks) log ∙ last-more None c.log.marks mark

  suspect_now : is_suspect new.log.marks ≡ is_fault mark.event
  suspect_now = ap (λ (h : History). is_suspect h.marks) log ∙ suspect-last c.log.marks mark

  ends_now : mark.taken ≡ length new.log.taken → mark.effects ≡ length sim'.effects
      → IsRoundTurned old.board.plan old.sync.capacities (mark_of old) old.log.taken sim.effects ran_now → DrainsBehind old.board.plan old.sync.capacities old.log.taken ran_now
      → log_size new.log (length sim'.effects) ≤ new.limit
      → (is_suspect new.log.marks ≡ true → log_size new.log sim'.before_fault + places_beside new.log.marks ≤ new.limit)
      → FaultsRise 0 new.log.marks sim'.faults → EndsRound round old sim ran_now new sim'
  ends_now taken effects turned drained places fault_places faults = record {
    before = since.marks;
    mark = mark;
    marks = refl;
    way = come.way;
    fenced = come.fenced;
    settling = may;
    sent = all;
    restarts = restarts-ended round old.log.marks since.marks c.warm mark restarted none may order_now;
    taken = taken ∙ ap (λ (h : History). length h.taken) log_now;
    effects = effects ∙ ap length calls_now;
    log = log_now;
    calls = calls_now;
    turned = turned;
    drained = drained;
    within = within;
    same = same-trans old c new come.same same;
    places = places;
    fault_places = fault_places;
    faults = faults;
  }

  -- the mark is the last
  is_last : (earlier : List Mark) (m : Mark) → since.marks ++ mark ∷ [] ≡ earlier ++ m ∷ [] → mark ≡ m
  is_last earlier m is = (same-last since.marks earlier mark m is).1

  unsettled_fault : is_fault mark.event ≡ true → (m : Mark) → mark ≡ m → IsSettledMark m.event → ⊥
  unsettled_fault bad m same settled = fault_unsettled mark.event bad (subst (λ (x : Mark). IsSettledMark x.event) (sym same) settled)

  -- where it restarted its turns are those behind its last apply
  pub turned_behind : 1 ≤ restarts_marked since.marks → (waits : Waiting) (turns : ℕ) → mark.event ≡ event.Settled waits turns → (x : EndedApply sim.effects ran_now (mark ∷ [])) × EndsTurned old.board.plan old.sync.capacities (behind_apply old.log.taken sim.effects ran_now (mark ∷ []) x mark) → IsRoundTurned old.board.plan old.sync.capacities (mark_of old) old.log.taken sim.effects ran_now
  turned_behind some waits turns at so = record {
    whole = λ m is settled left. absurd (marked_before since.marks some (alone since.marks mark m is).0);
    cut = λ m is bad left. absurd (marked_before since.marks some (alone since.marks mark m is).0);
    behind = λ earlier m is settled restarts. subst (λ k. (x : EndedApply sim.effects ran_now (k ∷ [])) × EndsTurned old.board.plan old.sync.capacities (behind_apply old.log.taken sim.effects ran_now (k ∷ []) x k)) (is_last earlier m is) so;
    cut_behind = λ earlier ended m is end bad. absurd (unfailed mark m waits turns at (same-last-two since.marks earlier mark m ended is).1 bad);
  }

  -- where it ended with a fault it is cut off
  turned_failed : is_fault mark.event ≡ true → IsCutSo old sim since calls → IsRoundTurned old.board.plan old.sync.capacities (mark_of old) old.log.taken sim.effects ran_now
  turned_failed bad so = record {
    whole = λ m is settled left. absurd (unsettled_fault bad m (alone since.marks mark m is).1 settled);
    cut = λ m is failed left. so.whole (alone since.marks mark m is).0 left m;
    behind = λ earlier m is settled restarts. absurd (unsettled_fault bad m (is_last earlier m is) settled);
    cut_behind = λ earlier ended m is end failed.
        let two = same-last-two since.marks earlier mark m ended is in
        subst (λ k. (x : EndedApply sim.effects ran_now (k ∷ [])) × IsMadeSoFar old.board.plan old.sync.capacities (behind_apply old.log.taken sim.effects ran_now (k ∷ []) x k)) two.1 (so.behind earlier ended two.0 end mark);
  }

  drained_failed : is_fault mark.event ≡ true → DrainsBehind old.board.plan old.sync.capacities old.log.taken ran_now
  drained_failed bad = λ m waits turns last is some closed room. absurd (unfailed m mark waits turns is (sym (same_Some mark m (sym (last-more None since.marks mark) ∙ last))) bad)

  -- where it did not restart nothing more is said of draining
  pub drained_none : restarts_marked since.marks ≡ 0 → DrainsBehind old.board.plan old.sync.capacities old.log.taken ran_now
  drained_none none = λ m waits turns last is some closed room. absurd (impossible (restarts-mark since.marks mark may ∙ none) some)
    where
      impossible : restarts_marked (since.marks ++ mark ∷ []) ≡ 0 → 1 ≤ restarts_marked (since.marks ++ mark ∷ []) → ⊥
      impossible none some = omega (arith, none, some)

  -- where it did, by its settling
  pub drained_by : (waits : Waiting) (turns : ℕ) → mark.event ≡ event.Settled waits turns
      → (IsClosed (good_rows old.board.plan (rows_of (sent_writes (old.log.taken ++ since.sent)))) → HasRoomForView old.sync.capacities (IsThingOf old.board.plan (good_rows old.board.plan (rows_of (sent_writes (old.log.taken ++ since.sent))))) → (waits ≡ []) × (turns ≤ 4))
      → DrainsBehind old.board.plan old.sync.capacities old.log.taken ran_now
  drained_by waits turns at so = λ m ws n last is some closed room.
      let same : mark ≡ m = same_Some mark m (sym (last-more None since.marks mark) ∙ last) in
      let event_same : event.Settled waits turns ≡ event.Settled ws n = sym at ∙ ap (λ (x : Mark). x.event) same ∙ is in
      let waits_same : waits ≡ ws = cc in
      let turns_same : turns ≡ n = cc in
      let d = so closed room in
      (sym waits_same ∙ d.0, subst (λ k. k ≤ 4) turns_same d.1)

  -- its settling ended
  pub over-settled : (waits : Waiting) (turns : ℕ) → mark.event ≡ event.Settled waits turns → IsBetweenRounds 1 new sim' → size_beside new (length sim'.effects) ≤ new.limit → KeepsChip c cchip new sim'
      → IsRoundTurned old.board.plan old.sync.capacities (mark_of old) old.log.taken sim.effects ran_now → DrainsBehind old.board.plan old.sync.capacities old.log.taken ran_now → IsOver round old sim status.Done new sim'
  over-settled waits turns is between places keeps turned drained =
      let size = sized new sim' within in
      let known : is_suspect new.log.marks ≡ false = suspect_now ∙ ap is_fault is in
      record {
        ran = ran_now;
        ends = ends_now (between.resting.taken mark last_now) (settled_calls mark.event is (between.resting.effects mark last_now)) turned drained (omega (arith, size, places)) (λ bad. absurd (apart known bad)) rise;
        ready = between-ready new sim' between;
        how = inl (refl, known);
      }
    where
      apart : is_suspect new.log.marks ≡ false → is_suspect new.log.marks ≡ true → ⊥
      apart a b = cc

      settled_calls : (e : MarkEvent) → e ≡ event.Settled waits turns → CountsCalls e mark.effects (length sim'.effects) → mark.effects ≡ length sim'.effects
      settled_calls e at h = subst (λ x. CountsCalls x mark.effects (length sim'.effects)) at h

      counts : (e : MarkEvent) → e ≡ event.Settled waits turns → FaultsRise 0 (c.log.marks ++ record { taken = mark.taken; effects = mark.effects; event = e } ∷ []) sim'.faults
      counts e at =
          subst (λ x. FaultsRise 0 (c.log.marks ++ record { taken = mark.taken; effects = mark.effects; event = x } ∷ []) sim'.faults) (sym at)
          (rise-mark 0 cchip.faults sim'.faults c.log.marks (record { taken = mark.taken; effects = mark.effects; event = event.Settled waits turns }) come.faults tt keeps.faults)

      rise : FaultsRise 0 new.log.marks sim'.faults
      rise = subst (λ (h : History). FaultsRise 0 h.marks sim'.faults) (sym log) (counts mark.event is)

-- a call failed in it
module _ (round : Round) (old : CoreState) (sim : ChipState) (since : Ran) (c : CoreState) (cchip : ChipState) (come : HasCome old sim since c cchip) (all : since.sent ≡ sent_in_round round) (restarted : HasRestarted round old.log.marks since.marks c.warm) (none : restarts_due c.warm ≡ 0) (new : CoreState) (sim' : ChipState) (e : LeavesFault c new sim') (calls : List (Call Rid)) (grown : sim'.effects ≡ cchip.effects ++ calls) (within : InSession 1 new sim') (same : KeepsPlan c new) where
  abbrev failed : Mark
  failed = fault_mark c new cchip sim' come.within e

  pub over-failed : IsCutSo old sim since calls → e.before ≡ cchip.faults → new.warm ≡ warm.Suspect → ArePendingInOrder new.tables.waiting → IsOver round old sim status.ChipFault new sim'
  over-failed so least at order =
      let one = e.one in
      record {
        ran = ran_now round old sim since c cchip come all restarted none new sim' failed tt e.log calls grown within same;
        ends =
            ends_now round old sim since c cchip come all restarted none new sim' failed tt e.log calls grown within same
            (ap (λ (h : History). length h.taken) (sym e.log)) refl
            (turned_failed round old sim since c cchip come all restarted none new sim' failed tt e.log calls grown within same refl so)
            (drained_failed round old sim since c cchip come all restarted none new sim' failed tt e.log calls grown within same refl)
            (fits-faulted c new cchip sim' come.within e)
            (λ bad. places-faulted c new cchip sim' come.within e)
            (rise-faulted c new cchip sim' come.within e least come.faults);
        ready = suspect-ready new sim' within order at;
        how = inr (refl, suspect_now round old sim since c cchip come all restarted none new sim' failed tt e.log calls grown within same, omega (arith, one));
      }
