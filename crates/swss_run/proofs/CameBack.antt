-- the settling of a core that has come so far in a round, all of whose acts were made
use Rattle.std.proofs.Common.{◌≡◌, ℕ, ◌+◌, ◌<◌, ◌≤◌, ◌∷◌, ◌++◌, true, List, [], length, Some, None, Result, Ok, Err, inl, inr, refl, sym, ap, ◌∙◌, subst, arith}
use Rattle.swss_types.specs.declared.out_of_memory.OutOfMemory.{OutOfMemory}
use Rattle.table_schema.specs.declared.key.Key.{Key}
use Rattle.table_schema.specs.declared.row.Row.{Row}
use Rattle.sai_types.specs.ChipState.{ChipState}
use Rattle.sai_types.specs.declared.ids.Rid.{Rid}
use Rattle.sai_types.specs.declared.body.Call.{Call}
use Rattle.switch_model.specs.Promises.{good_rows_at}
use Rattle.switch_model.specs.declared.mark.MarkEvent.TheVariants as event
use Rattle.producer_table.specs.Pending.{ArePendingInOrder}
use Rattle.flight_board.specs.Applied.{row_at}
use Rattle.flight_board.specs.Board.{BoardState, flown_at}
use Rattle.restart_laws.specs.Logged.{LoggedService}
use Rattle.warm_state.specs.declared.warm.Warm.TheVariants as warm
use Rattle.session_laws.specs.Core.{CoreState, mark_at}
use Rattle.round_laws.specs.Sessions.{InSession}
use Rattle.round_laws.proofs.Sessions.{counts-within, steps-on, warm-after}
use Rattle.orch_core.specs.ComingBack.{Back, ComesBack, ComesTo, HasRestored, IsFullOnWay, SettlesFrom, Stopped, StopsBack, is_unrestored, places_on_way, restarts_due, restarts_marked}
use Rattle.orch_core.specs.Restarting.{FaultsOnWay, StaysInService}
use Rattle.orch_core.specs.Settled.{Settles, SettlesSoFar}
use Rattle.orch_core.specs.declared.answer.Settled.{Settled}
use Rattle.orch_core.specs.declared.answer.Settled.TheVariants as settled
use Rattle.orch_core.proofs.Coming.{restarts_both}
use Rattle.swss_script.specs.Sent.{sent_in_round}
use Rattle.swss_script.specs.declared.parts.Round.{Round}
use Rattle.swss_run.specs.Rounds.{Ran}
use Rattle.swss_run.specs.Running.{HasCome, StopsRound, settling_ended}
use Rattle.swss_run.specs.declared.status.Status.{Status}
use Rattle.swss_run.specs.declared.status.Status.TheVariants as status
use Rattle.swss_run.proofs.Counting.{HasRestarted}
use Rattle.swss_run.proofs.Draining.{begun-rows}
use Rattle.swss_run.proofs.OnWay.{come-coming, restarted-coming, since_coming}
use Rattle.swss_run.proofs.Over.{IsCutSo, IsOver, ended-warm, marked_before, uncut}
use Rattle.swss_run.proofs.Settling.{IsFullStop, IsStopped, fault-way, full-way, settled-behind, settled-faulted, settled-full, settled-short, short-way}
use Rattle.std.proofs.lemmas.List.{append_assoc, append_cancel_left}
use Rattle.swss_run.proofs.Behind.{IsBehind, IsTurnedSince, failed-behind, since-same, stopped-behind, unended}
use Rattle.switch_model.specs.declared.mark.Mark.{Mark}
use Rattle.switch_model.specs.Sound.{AreWithin}
use Rattle.switch_model.specs.History.{History}
use Rattle.switch_machine.specs.Events.{SwitchState}
use Rattle.round_laws.proofs.Behind.{behind-rests}
use Rattle.round_laws.proofs.Between.{its-log}
use Rattle.orch_core.proofs.Serving.{settling_serves}

-- a mark counts no more calls than there are
least_within : (taken effects : ℕ) (xs : List Mark) (mark : Mark) (ys : List Mark) → AreWithin taken effects (xs ++ mark ∷ ys) → mark.effects ≤ effects
least_within taken effects [] mark ys h = h.1
least_within taken effects (x ∷ xs) mark ys h = least_within taken effects xs mark ys h.3

-- ---- what a settling answered

module _ (P : Status → Type 0) (Q : Result Settled OutOfMemory → Type 0) where
  -- the round ended
  by_end : (Q (Ok settled.Settled) → P status.Done) → (Q (Ok settled.Faulted) → P status.ChipFault) → (r : Result Settled OutOfMemory) (ended : Status) → settling_ended r ≡ Ok ended → Q r → P ended
  by_end settles faults (Ok settled.Settled) ended same q = let is : status.Done ≡ ended = cc in subst P is (settles q)
  by_end settles faults (Ok settled.Faulted) ended same q = let is : status.ChipFault ≡ ended = cc in subst P is (faults q)
  by_end settles faults (Ok settled.LogFull) ended same q = cc
  by_end settles faults (Err wanting) ended same q = cc

  -- or it was stopped
  by_stop : (Q (Ok settled.LogFull) → P status.LogFull) → ((wanting : OutOfMemory) → Q (Err wanting) → P status.OutOfMemory) → (r : Result Settled OutOfMemory) (ended : Status) → settling_ended r ≡ Err ended → Q r → P ended
  by_stop full short (Ok settled.Settled) ended same q = cc
  by_stop full short (Ok settled.Faulted) ended same q = cc
  by_stop full short (Ok settled.LogFull) ended same q = let is : status.LogFull ≡ ended = cc in subst P is (full q)
  by_stop full short (Err wanting) ended same q = let is : status.OutOfMemory ≡ ended = cc in subst P is (short wanting q)

-- ---- a core that is reconciled

module _ (round : Round) (old : CoreState) (sim : ChipState) (since : Ran) (c : CoreState) (cchip : ChipState) (come : HasCome old sim since c cchip) (all : since.sent ≡ sent_in_round round) (restarted : HasRestarted round old.log.marks since.marks c.warm) (new : CoreState) (sim' : ChipState) (at : c.warm ≡ warm.Reconciled) where
  pub ends-over : (Settles come.within.session c cchip (Ok settled.Settled) new sim' → IsOver round old sim status.Done new sim') → (Settles come.within.session c cchip (Ok settled.Faulted) new sim' → (calls : List (Call Rid)) → sim'.effects ≡ cchip.effects ++ calls → IsCutSo old sim since calls) → (r : Result Settled OutOfMemory) (ended : Status) → settling_ended r ≡ Ok ended → Settles come.within.session c cchip r new sim' → ArePendingInOrder new.tables.waiting → IsOver round old sim ended new sim'
  ends-over whole cut r ended same e order =
      by_end (λ z. IsOver round old sim z new sim') (λ a. Settles come.within.session c cchip a new sim') whole
      (λ h. settled-faulted round old sim since c cchip come all restarted new sim' at (cut h) h order) r ended same e

  pub ends-stopped : (r : Result Settled OutOfMemory) (ended : Status) → settling_ended r ≡ Err ended → Settles come.within.session c cchip r new sim' → IsStopped round old sim ended new sim'
  ends-stopped r ended same e =
      by_stop (λ z. IsStopped round old sim z new sim') (λ a. Settles come.within.session c cchip a new sim')
      (λ h. inl (refl, settled-full round old sim since c cchip come all restarted new sim' at h))
      (λ wanting h. inr (refl, settled-short round old sim since c cchip come all restarted new sim' at wanting h)) r ended same e

-- ---- a core that is not, and whose rows are still to be restored, and no call took effect in the round so far

module _ (round : Round) (old : CoreState) (sim : ChipState) (since : Ran) (mid : CoreState) (chip : ChipState) (come : HasCome old sim since mid chip) (all : since.sent ≡ sent_in_round round) (restarted : HasRestarted round old.log.marks since.marks mid.warm) (new : CoreState) (sim' : ChipState) (uncalled : chip.effects ≡ sim.effects) where
  -- whole events of its coming back
  module _ (c : CoreState) (cchip : ChipState) (later : LoggedService) (comes : ComesTo come.within.session later mid chip c cchip) where
    abbrev since_on : Ran
    since_on = since_coming old sim since mid chip come c uncalled cchip later comes

    on : (z : HasCome old sim since_on c cchip) × (z.within.session ≡ later)
    on = come-coming old sim since mid chip come c uncalled cchip later comes

    restarted_on : HasRestarted round old.log.marks since_on.marks c.warm
    restarted_on = restarted-coming old sim since mid chip come c uncalled cchip later comes round old.log.marks restarted

  -- it was stopped
  on_full : StopsBack come.within.session mid chip (Ok settled.LogFull) new sim' → IsFullStop round old sim new sim'
  on_full h =
      let z = on h.mid h.mid_chip h.later h.comes in
      full-way round old sim (since_on h.mid h.mid_chip h.later h.comes) h.mid h.mid_chip z.0 all (restarted_on h.mid h.mid_chip h.later h.comes) new sim' (inl h.stops.0)
      (subst (StaysInService z.0.within.session h.mid new) (sym h.stops.0) (subst (λ s. StaysInService s h.mid new h.mid_chip) (sym z.1) h.stops.1)) (subst (λ s. IsFullOnWay h.mid.warm s h.mid h.mid_chip) (sym z.1) h.stops.2)

  on_short : (o : OutOfMemory) → StopsBack come.within.session mid chip (Err o) new sim' → StopsRound round old sim new sim'
  on_short o h =
      let z = on h.mid h.mid_chip h.later h.comes in
      short-way round old sim (since_on h.mid h.mid_chip h.later h.comes) h.mid h.mid_chip z.0 all (restarted_on h.mid h.mid_chip h.later h.comes) new sim' h.stops.0
      (subst (λ s. StaysInService s h.mid new sim') (sym z.1) h.stops.1)

  module _ (some : 1 ≤ restarts_marked since.marks + restarts_due mid.warm) (out : is_unrestored mid.warm ≡ true) where
    -- it failed on its way, behind a restart
    on_failed : StopsBack come.within.session mid chip (Ok settled.Faulted) new sim' → ArePendingInOrder new.tables.waiting → IsOver round old sim status.ChipFault new sim'
    on_failed h order =
        let z = on h.mid h.mid_chip h.later h.comes in
        let both = restarts_both since.marks h.comes.added in
        let made = h.comes.restarts in
        let none = h.stops.0 in
        fault-way round old sim (since_on h.mid h.mid_chip h.later h.comes) h.mid h.mid_chip z.0 all (restarted_on h.mid h.mid_chip h.later h.comes) new sim'
        (uncut old sim (since_on h.mid h.mid_chip h.later h.comes) h.mid h.mid_chip z.0 (omega (arith, some, both, made, none)) h.warm)
        (none, subst (λ s. FaultsOnWay (places_on_way h.mid.warm) true s h.mid h.mid_chip new sim') (sym z.1) h.stops.1) order

    -- it came back
    module _ (c : CoreState) (cchip : ChipState) (x : ComesBack come.within.session mid chip c cchip) where
      some_back : 1 ≤ restarts_marked (since_on c cchip x.later x.comes).marks
      some_back =
          let both = restarts_both since.marks x.comes.added in
          let made = x.comes.restarts in
          let due : restarts_due c.warm ≡ 0 = ap restarts_due x.warm in
          let least = some in
          omega (arith, least, both, made, due)

      -- the rows were restored on the way
      restored_back : HasRestored come.within.session mid c cchip
      restored_back = x.comes.restored out (ap is_unrestored x.warm)

      begun_in : InSession 1 restored_back.begun restored_back.begun_chip
      begun_in = (steps-on mid restored_back.begun chip restored_back.begun_chip come.within restored_back.then restored_back.steps restored_back.are (restored_back.few 1 (omega arith)) restored_back.is restored_back.stands restored_back.plan restored_back.capacities).0

      marks_begun : restored_back.begun.log.marks ≡ (mid.log.marks ++ restored_back.earlier) ++ restored_back.mark ∷ []
      marks_begun = restored_back.marks ∙ sym (append_assoc mid.log.marks restored_back.earlier (restored_back.mark ∷ []))

      abbrev ended_back : Mark
      ended_back = mark_at restored_back.begun (length cchip.effects) event.ApplyEnded

      -- the marks that were made on the way
      marks_back : c.log.marks ≡ mid.log.marks ++ (restored_back.earlier ++ restored_back.mark ∷ ended_back ∷ [])
      marks_back =
          restored_back.ends x.warm
          ∙ ap (λ l. l ++ ended_back ∷ []) restored_back.marks
          ∙ append_assoc mid.log.marks (restored_back.earlier ++ restored_back.mark ∷ []) (ended_back ∷ [])
          ∙ ap (λ l. mid.log.marks ++ l) (append_assoc restored_back.earlier (restored_back.mark ∷ []) (ended_back ∷ []))

      -- the mark of the beginning of the apply counts no more calls than there are
      counted_back : restored_back.mark.effects ≤ length cchip.effects
      counted_back = least_within (length c.log.taken) (length cchip.effects) (mid.log.marks ++ restored_back.earlier) restored_back.mark (ended_back ∷ []) (subst (AreWithin (length c.log.taken) (length cchip.effects)) (marks_back ∙ sym (append_assoc mid.log.marks restored_back.earlier (restored_back.mark ∷ ended_back ∷ []))) (counts-within c cchip (on c cchip x.later x.comes).0.within))

      free_back : (v : ℕ) → v < 4 → flown_at c.board v ≡ None
      free_back v less = ap (λ (b : BoardState). flown_at b v) restored_back.board ∙ restored_back.free v less

      taken_back : c.log.taken ≡ restored_back.begun.log.taken
      taken_back = x.comes.taken ∙ sym restored_back.taken

      rows_back : (k : Key) (row : Row) → row_at c.board.applied k ≡ Some row → good_rows_at c.board.plan c.log.taken (length c.log.taken) k ≡ Some row
      rows_back k row there =
          ap (λ ts. good_rows_at c.board.plan ts (length ts) k) taken_back
          ∙ ap (λ (b : BoardState). good_rows_at b.plan restored_back.begun.log.taken (length restored_back.begun.log.taken) k) restored_back.board
          ∙ begun-rows restored_back.begun restored_back.begun_chip begun_in restored_back.warm (mid.log.marks ++ restored_back.earlier) restored_back.mark marks_begun (restored_back.counts ∙ ap length (sym restored_back.taken)) k row
          (ap (λ (b : BoardState). row_at b.applied k) (sym restored_back.board) ∙ there)

      -- the core behind the apply
      behind_back : IsBehind old sim (since_on c cchip x.later x.comes) c cchip (on c cchip x.later x.comes).0
      behind_back = record {
        earlier = since.marks ++ restored_back.earlier;
        began = restored_back.mark;
        ended = ended_back;
        marks = ap (λ l. since.marks ++ l) (append_cancel_left mid.log.marks x.comes.added (restored_back.earlier ++ restored_back.mark ∷ ended_back ∷ []) (sym x.comes.marks ∙ marks_back)) ∙ sym (append_assoc since.marks restored_back.earlier (restored_back.mark ∷ ended_back ∷ []));
        end = refl;
        counted = refl;
        resting =
            behind-rests restored_back.begun restored_back.begun_chip begun_in restored_back.warm (mid.log.marks ++ restored_back.earlier) restored_back.mark marks_begun restored_back.mode restored_back.waits restored_back.event_is
            (restored_back.counts ∙ ap length (sym restored_back.taken)) restored_back.popped restored_back.lists c cchip (on c cchip x.later x.comes).0.within x.warm free_back taken_back restored_back.board restored_back.tables counted_back;
        within = refl;
      }

      as_on : (r : Result Settled OutOfMemory) → Settles x.later c cchip r new sim' → Settles (on c cchip x.later x.comes).0.within.session c cchip r new sim'
      as_on r h = subst (λ s. Settles s c cchip r new sim') (sym (on c cchip x.later x.comes).1) h

      abbrev on_back : HasCome old sim (since_on c cchip x.later x.comes) c cchip
      on_back = (on c cchip x.later x.comes).0

      -- where a call fails behind it
      cut_back : Settles on_back.within.session c cchip (Ok settled.Faulted) new sim' → (calls : List (Call Rid)) → sim'.effects ≡ cchip.effects ++ calls → IsCutSo old sim (since_on c cchip x.later x.comes) calls
      cut_back h calls grown = record {
        whole = λ none left mark. absurd (marked_before (since_on c cchip x.later x.comes).marks some_back none);
        behind = λ earlier ended is end mark. failed-behind old sim (since_on c cchip x.later x.comes) c cchip on_back behind_back new sim' calls grown h.0 (mark ∷ []) mark;
      }

      -- where it does not end
      module _ (stops : StopsRound round old sim new sim') where
        ends_kept : c.log.ends ≡ old.log.ends
        ends_kept = ap (λ (h : History). h.ends) on_back.log

        since_back : (r : Result Settled OutOfMemory) → Settles on_back.within.session c cchip r new sim' → new.log ≡ c.log → (t : SwitchState) (calls : List (Call Rid)) → SettlesSoFar c.board.plan c.sync.capacities on_back.within.session.service.core t calls → sim'.effects ≡ cchip.effects ++ calls → IsTurnedSince old sim stops.since
        since_back r h log t calls so grown =
            subst (IsTurnedSince old sim) (sym (since-same old sim stops.since new sim' stops.come (since_on c cchip x.later x.comes) c cchip on_back log calls grown))
            (stopped-behind old sim (since_on c cchip x.later x.comes) c cchip on_back behind_back new sim' calls grown t calls so grown (settling_serves 0 on_back.within.session c cchip on_back.within.stands r new sim' h) log)

        back_since : (r : Result Settled OutOfMemory) → Settles on_back.within.session c cchip r new sim' → IsTurnedSince old sim stops.since
        back_since (Ok settled.Settled) h = absurd (unended old sim stops.since new sim' stops.come c.log.ends _ (ap (λ (l : History). l.ends) (its-log c new cchip sim' on_back.within h.settles)) ends_kept)
        back_since (Ok settled.Faulted) h = absurd (unended old sim stops.since new sim' stops.come c.log.ends _ (ap (λ (l : History). l.ends) h.0.marks.log) ends_kept)
        back_since (Ok settled.LogFull) (inl h) = since_back (Ok settled.LogFull) (inl h) h.log h.then h.calls h.so h.effects
        back_since (Ok settled.LogFull) (inr h) = since_back (Ok settled.LogFull) (inr h) h.log h.later.service.core h.calls h.so h.effects
        back_since (Err wanting) h = since_back (Err wanting) h h.log h.then h.calls h.so h.effects

      back_over : (r : Result Settled OutOfMemory) (ended : Status) → settling_ended r ≡ Ok ended → Settles x.later c cchip r new sim' → ArePendingInOrder new.tables.waiting → IsOver round old sim ended new sim'
      back_over r ended same h order =
          ends-over round old sim (since_on c cchip x.later x.comes) c cchip (on c cchip x.later x.comes).0 all (restarted_on c cchip x.later x.comes) new sim' x.warm
          (settled-behind round old sim (since_on c cchip x.later x.comes) c cchip (on c cchip x.later x.comes).0 all (restarted_on c cchip x.later x.comes) new sim' x.warm behind_back some_back free_back rows_back)
          cut_back r ended same (as_on r h) order

      back_stopped : (r : Result Settled OutOfMemory) (ended : Status) → settling_ended r ≡ Err ended → Settles x.later c cchip r new sim' → IsStopped round old sim ended new sim'
      back_stopped r ended same h = ends-stopped round old sim (since_on c cchip x.later x.comes) c cchip (on c cchip x.later x.comes).0 all (restarted_on c cchip x.later x.comes) new sim' x.warm r ended same (as_on r h)

    -- its settling
    pub from-over : (r : Result Settled OutOfMemory) (ended : Status) → settling_ended r ≡ Ok ended → SettlesFrom come.within.session mid chip r new sim' → ArePendingInOrder new.tables.waiting → IsOver round old sim ended new sim'
    from-over r ended same (Back c cchip x h) order = back_over c cchip x r ended same h order
    from-over r ended same (Stopped h) order =
        by_end (λ z. IsOver round old sim z new sim') (λ a. StopsBack come.within.session mid chip a new sim') (λ none. absurd none) (λ failed. on_failed failed order) r ended same h

    pub from-stopped : (r : Result Settled OutOfMemory) (ended : Status) → settling_ended r ≡ Err ended → SettlesFrom come.within.session mid chip r new sim' → IsStopped round old sim ended new sim'
    from-stopped r ended same (Back c cchip x h) = back_stopped c cchip x r ended same h
    from-stopped r ended same (Stopped h) =
        by_stop (λ z. IsStopped round old sim z new sim') (λ a. StopsBack come.within.session mid chip a new sim') (λ full. inl (refl, on_full full)) (λ wanting short. inr (refl, on_short wanting short)) r ended same h

    -- and its calls behind an apply, where it does not end
    module _ (stops : StopsRound round old sim new sim') (earlier : List Mark) (ended : Mark) (is : stops.since.marks ≡ earlier ++ ended ∷ []) (end : ended.event ≡ event.ApplyEnded) where
      -- a core that was stopped on its way is behind none
      stopped_early : (c : CoreState) (cchip : ChipState) (later : LoggedService) → ComesTo come.within.session later mid chip c cchip → (c.warm ≡ warm.Reconciled → ⊥) → new.log ≡ c.log → ⊥
      stopped_early c cchip later comes not same =
          not (ended-warm c.log.marks (old.log.marks ++ earlier) ended c.warm
          (ap (λ (h : History). h.marks) (sym same ∙ stops.come.log) ∙ ap (λ l. old.log.marks ++ l) is ∙ sym (append_assoc old.log.marks earlier (ended ∷ []))) end
          (warm-after c cchip (on c cchip later comes).0.within))

      stopped_since : (r : Result Settled OutOfMemory) → StopsBack come.within.session mid chip r new sim' → IsTurnedSince old sim stops.since
      stopped_since (Ok settled.Settled) h = absurd h
      stopped_since (Ok settled.Faulted) h = absurd (unended old sim stops.since new sim' stops.come h.mid.log.ends _ (ap (λ (l : History). l.ends) h.stops.1.log) (ap (λ (l : History). l.ends) (on h.mid h.mid_chip h.later h.comes).0.log))
      stopped_since (Ok settled.LogFull) h = absurd (stopped_early h.mid h.mid_chip h.later h.comes h.warm h.stops.1.log)
      stopped_since (Err wanting) h = absurd (stopped_early h.mid h.mid_chip h.later h.comes h.warm h.stops.1.log)

      pub from-since : (r : Result Settled OutOfMemory) → SettlesFrom come.within.session mid chip r new sim' → IsTurnedSince old sim stops.since
      from-since r (Back c cchip x h) = back_since c cchip x stops r (as_on c cchip x r h)
      from-since r (Stopped h) = stopped_since r h
