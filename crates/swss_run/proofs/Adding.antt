-- what a settling adds to the log and to the calls, by any number of workers, whatever came before
use Rattle.std.proofs.Common.{◌≡◌, inl, inr, ℕ, ◌+◌, ◌<◌, ◌≤◌, List, [], ◌∷◌, ◌++◌, length, Result, Ok, Err, refl, sym, ap, ◌∙◌, subst, arith}
use Rattle.std.proofs.lemmas.List.{append_assoc}
use Rattle.swss_types.specs.declared.out_of_memory.OutOfMemory.{OutOfMemory}
use Rattle.sai_types.specs.ChipState.{ChipState, IsAskedOnce}
use Rattle.sai_types.specs.declared.ids.Rid.{Rid}
use Rattle.sai_types.specs.declared.body.Call.{Call}
use Rattle.sai_types.specs.declared.plan.PlanCall.{PlanCall}
use Rattle.switch_model.specs.History.{History, listed_by, log_size, with_end, with_mark}
use Rattle.switch_model.specs.Sound.{is_fault, is_suspect}
use Rattle.switch_model.specs.declared.mark.Mark.{Mark}
use Rattle.switch_model.specs.declared.mark.MarkEvent.TheVariants as event
use Rattle.machine_laws.specs.Order.{MayEndRound}
use Rattle.restart_laws.specs.Logged.{LoggedService}
use Rattle.warm_state.specs.declared.warm.Warm.{Warm}
use Rattle.warm_state.specs.declared.warm.Warm.TheVariants as warm
use Rattle.session_laws.specs.Core.{CoreState, IsFullFor, mark_at, size_beside}
use Rattle.session_laws.specs.Service.Events.{MakesMore}
use Rattle.round_laws.specs.Named.{keys_named}
use Rattle.round_laws.specs.Sessions.{InSession}
use Rattle.round_laws.proofs.Awaited.{ops-few}
use Rattle.round_laws.proofs.Between.{its-log, its-mark}
use Rattle.round_laws.proofs.Growing.{effects-grow}
use Rattle.round_laws.proofs.Listed.{listed-few}
use Rattle.round_laws.proofs.Sessions.{sized, some-on, steps-on}
use Rattle.orch_core.specs.ComingBack.{Back, ComesTo, IsFullOnWay, SettlesFrom, Stopped, StopsBack, places_on_way, restarts_due, restarts_marked}
use Rattle.orch_core.specs.Outcomes.{IsWithinLimit, KeepsChip}
use Rattle.orch_core.specs.Restarting.{IsFullOncePopped, StaysInService, places_left}
use Rattle.orch_core.specs.Settled.{Settles, SettlesWhole}
use Rattle.orch_core.specs.declared.answer.Settled.{Settled}
use Rattle.orch_core.specs.declared.answer.Settled.TheVariants as settled
use Rattle.orch_core.proofs.Chips.{keeps_alike, keeps_asked}
use Rattle.orch_core.proofs.Coming.{restarts_both}
use Rattle.orch_core.proofs.Serving.{settle_serves}
use Rattle.swss_service.specs.Faults.{FaultsRise}
use Rattle.swss_run.specs.Faults.{places_beside}
use Rattle.swss_run.specs.Running.{KeepsPlan, settling_ended}
use Rattle.swss_run.specs.RunningBeside.{IsInRun}
use Rattle.swss_run.specs.declared.status.Status.{Status}
use Rattle.swss_run.specs.declared.status.Status.TheVariants as status
use Rattle.swss_run.proofs.Counting.{no_restart, rise-later, rise-mark, rise-way, suspect-last}
use Rattle.swss_run.proofs.Faulting.{LeavesFault, beside-two, beside-way, fits-faulted, rise-faulted}
use Rattle.swss_run.proofs.Over.{IsEndedAs}

-- how far a settling came: no write was taken, and of the restarts that were due at most so many were made
pub record Adds (workers : ℕ) (mid : CoreState) (chip : ChipState) (new : CoreState) (chip' : ChipState) : Type 0 where
  pub here : IsInRun workers new chip'
  pub same : KeepsPlan mid new
  pub taken : new.log.taken ≡ mid.log.taken
  pub added : List Mark
  pub marks : new.log.marks ≡ mid.log.marks ++ added
  pub restarts : restarts_marked added ≤ restarts_due mid.warm
  pub calls : List (Call Rid)
  pub effects : chip'.effects ≡ chip.effects ++ calls

-- it ended at its mark
pub record AddsEnd (workers : ℕ) (mid : CoreState) (chip : ChipState) (new : CoreState) (chip' : ChipState) : Type 0 where
  pub adds : Adds workers mid chip new chip'
  pub before : List Mark
  pub mark : Mark
  pub last : adds.added ≡ before ++ mark ∷ []
  pub settling : MayEndRound mark.event
  pub counts_taken : mark.taken ≡ length new.log.taken
  pub counts_effects : mark.effects ≡ length chip'.effects
  pub restarted : restarts_marked adds.added ≡ restarts_due mid.warm
  pub ends : new.log.ends ≡ mid.log.ends ++ length new.log.marks ∷ []

-- or it stopped
pub record AddsSome (workers : ℕ) (mid : CoreState) (chip : ChipState) (new : CoreState) (chip' : ChipState) : Type 0 where
  pub adds : Adds workers mid chip new chip'
  pub ends : new.log.ends ≡ mid.log.ends

-- by how it ended
abbrev pub AddsBy : ℕ → CoreState → ChipState → Result Status Status → CoreState → ChipState → Type 0
AddsBy workers mid chip (Ok ended) new chip' = AddsEnd workers mid chip new chip' × IsEndedAs ended new chip'
AddsBy workers mid chip (Err status.LogFull) new chip' = AddsSome workers mid chip new chip' × (new.limit < log_size new.log (length chip'.effects) + 2 + length (keys_named new.log.taken))
AddsBy workers mid chip (Err status.OutOfMemory) new chip' = AddsSome workers mid chip new chip'
AddsBy workers mid chip (Err _) new chip' = ⊥

module _ {workers : ℕ} (some : 0 < workers) (mid : CoreState) (chip : ChipState) (start : IsInRun workers mid chip) (new : CoreState) (chip' : ChipState) where
  limit_mid : IsWithinLimit mid chip
  limit_mid = let size = sized mid chip start.within in let places = start.places in omega (arith, size, places)

  module _ (more : MakesMore 0 mid start.within.session new chip') where
    in_new : InSession workers new chip'
    in_new = (some-on mid new chip chip' start.within some more).0

    grown : (calls : List (Call Rid)) × (chip'.effects ≡ chip.effects ++ calls)
    grown = effects-grow mid new chip chip' start.within more

    abbrev same_plan : KeepsPlan mid new
    same_plan = record { plan = more.plan; capacities = more.capacities; limit = more.limit }

    -- whole events of its coming back
    module _ (c : CoreState) (cchip : ChipState) (later : LoggedService) (x : ComesTo start.within.session later mid chip c cchip) where
      in_c : (z : InSession workers c cchip) × (z.session ≡ later)
      in_c = steps-on mid c chip cchip start.within later x.steps x.are (x.few workers some) x.is x.stands x.plan x.capacities

      rise_c : FaultsRise 0 c.log.marks cchip.faults
      rise_c = subst (λ l. FaultsRise 0 l cchip.faults) (sym x.marks) (rise-way 0 cchip.faults mid.log.marks x.added (rise-later 0 chip.faults cchip.faults mid.log.marks start.faults x.keeps.faults) x.way)

      -- nothing was logged behind them
      still : new.log ≡ c.log → KeepsChip c cchip new chip' → AddsSome workers mid chip new chip'
      still log keeps = record {
        adds = record {
          here = record {
            within = in_new;
            places = let size = sized new chip' in_new in let within = keeps.limit (x.keeps.limit limit_mid) in omega (arith, size, within);
            faults = subst (λ (h : History). FaultsRise 0 h.marks chip'.faults) (sym log) (rise-later 0 cchip.faults chip'.faults c.log.marks rise_c keeps.faults);
          };
          same = same_plan;
          taken = ap (λ (h : History). h.taken) log ∙ x.taken;
          added = x.added;
          marks = ap (λ (h : History). h.marks) log ∙ x.marks;
          restarts = let made = x.restarts in omega (arith, made);
          calls = grown.0;
          effects = grown.1;
        };
        ends = ap (λ (h : History). h.ends) log ∙ x.ends;
      }

      -- the same session still
      stayed : IsAskedOnce cchip chip' → StaysInService in_c.0.session c new chip' → AddsSome workers mid chip new chip'
      stayed asked stays = still stays.log (keeps_asked asked (keeps_alike c new cchip cchip refl stays.log (stays.stands.always.listed ∙ ap (λ (h : History). listed_by h.marks) stays.log ∙ sym in_c.0.stands.always.listed) stays.limit))

      -- a mark ended it
      module _ (mark : Mark) (log : new.log ≡ with_end (with_mark c.log mark)) (may : MayEndRound mark.event) (due : restarts_due c.warm ≡ 0) where
        taken_now : new.log.taken ≡ c.log.taken
        taken_now = ap (λ (h : History). h.taken) log

        restarts_now : restarts_marked (x.added ++ mark ∷ []) ≡ restarts_due mid.warm
        restarts_now = let both = restarts_both x.added (mark ∷ []) in let none = no_restart mark.event may in let made = x.restarts in omega (arith, both, none, made, due)

        ended : FaultsRise 0 new.log.marks chip'.faults → log_size new.log (length chip'.effects) ≤ new.limit → mark.taken ≡ length new.log.taken → mark.effects ≡ length chip'.effects → AddsEnd workers mid chip new chip'
        ended rise places taken effects = record {
          adds = record {
            here = record { within = in_new; places = places; faults = rise };
            same = same_plan;
            taken = taken_now ∙ x.taken;
            added = x.added ++ mark ∷ [];
            marks = ap (λ (h : History). h.marks) log ∙ ap (λ l. l ++ mark ∷ []) x.marks ∙ append_assoc mid.log.marks x.added (mark ∷ []);
            restarts = let made = restarts_now in omega (arith, made);
            calls = grown.0;
            effects = grown.1;
          };
          before = x.added;
          mark = mark;
          last = refl;
          settling = may;
          counts_taken = taken;
          counts_effects = effects;
          restarted = restarts_now;
          ends = ap (λ (h : History). h.ends) log ∙ ap (λ l. l ++ length (c.log.marks ++ mark ∷ []) ∷ []) x.ends ∙ ap (λ l. mid.log.ends ++ length l ∷ []) (sym (ap (λ (h : History). h.marks) log));
        }

        suspect_now : is_suspect new.log.marks ≡ is_fault mark.event
        suspect_now = ap (λ (h : History). is_suspect h.marks) log ∙ suspect-last c.log.marks mark

      -- that of a fault
      failed : (e : LeavesFault c new chip') → e.before ≡ cchip.faults → restarts_due c.warm ≡ 0 → AddsBy workers mid chip (Ok status.ChipFault) new chip'
      failed e least due =
          let mark = mark_at c (length chip'.effects) (event.Faulted e.before chip'.faults) in
          let one = e.one in (
            ended mark e.log tt due (rise-faulted c new cchip chip' in_c.0 e least rise_c) (fits-faulted c new cchip chip' in_c.0 e) (ap (λ (h : History). length h.taken) (sym e.log)) refl,
            inr (refl, suspect_now mark e.log tt due, omega (arith, one)),
          )

      -- ---- a settling of a core that is reconciled

      module _ (at : c.warm ≡ warm.Reconciled) where
        none_due : restarts_due c.warm ≡ 0
        none_due = ap restarts_due at

        settled-whole : SettlesWhole in_c.0.session c cchip new chip' → AddsBy workers mid chip (Ok status.Done) new chip'
        settled-whole e =
            let mark = its-mark c new cchip chip' in_c.0 e.settles in
            let log = its-log c new cchip chip' in_c.0 e.settles in
            let size = sized new chip' in_new in
            let places = e.places in (
              ended mark log tt none_due
                  (subst (λ (h : History). FaultsRise 0 h.marks chip'.faults) (sym log) (rise-mark 0 cchip.faults chip'.faults c.log.marks mark rise_c tt e.keeps.faults))
                  (omega (arith, size, places))
                  (ap (λ (h : History). length h.taken) in_c.0.stands.always.log ∙ ap length (sym (ap (λ (h : History). h.taken) log)))
                  (ap length e.settles.leads.stands.effects),
              inl (refl, suspect_now mark log tt none_due),
            )

        many-two : {need : ℕ} → need ≤ 2 → IsFullFor new (length chip'.effects) need → new.limit < log_size new.log (length chip'.effects) + 2 + length (keys_named new.log.taken)
        many-two few full = let size = sized new chip' in_new in omega (arith, few, full, size)

        settled-by : (r : Result Settled OutOfMemory) → Settles in_c.0.session c cchip r new chip' → AddsBy workers mid chip (settling_ended r) new chip'
        settled-by (Ok settled.Settled) e = settled-whole e
        settled-by (Ok settled.Faulted) e =
            let few = e.0.marks.few in
            failed (record { before = cchip.faults; one = e.0.marks.one; log = e.0.marks.log; need = 2; places = e.0.marks.places; few = omega (arith, few); beside = beside-two new.log.marks; limit = e.0.steps.limit }) refl none_due
        settled-by (Ok settled.LogFull) (inl e) = (still e.log e.keeps, many-two (omega arith) e.full)
        settled-by (Ok settled.LogFull) (inr e) =
            let few = ops-few new chip' in_new (inl e.at_rest.warm) e.order in
            let size = sized new chip' in_new in
            let full = e.full in
            (still e.log e.keeps, omega (arith, few, size, full))
        settled-by (Err wanting) e = still e.log e.keeps

      -- ---- it was stopped on its way back

      module _ (stays : StaysInService in_c.0.session c new chip') (same_chip : chip' ≡ cchip) where
        size_way : size_beside c (length cchip.effects) ≡ log_size new.log (length chip'.effects)
        size_way = sized c cchip in_c.0 ∙ ap (λ (h : History). log_size h (length cchip.effects)) (sym stays.log) ∙ ap (λ (z : ChipState). log_size new.log (length z.effects)) (sym same_chip)

        abbrev IsMany : Type 0
        IsMany = new.limit < log_size new.log (length chip'.effects) + 2 + length (keys_named new.log.taken)

        many_few : (need : ℕ) → need ≤ 2 → IsFullFor c (length cchip.effects) need → IsMany
        many_few need few full = let size = size_way in let limit = stays.limit in omega (arith, few, full, size, limit)

        many_popped : IsFullOncePopped in_c.0.session c cchip → IsMany
        many_popped full =
            let first = record c { tables = full.tables } in
            let size = size_way in
            let limit = stays.limit in
            let lack = full.full.full in
            let few : length full.full.all.waits ≤ length (keys_named new.log.taken) = subst (λ (h : History). length full.full.all.waits ≤ length (keys_named h.taken)) (sym stays.log) (listed-few first full.full.built full.full.all) in
            omega (arith, lack, size, limit, few)

        places_few : (calls : List PlanCall) → places_left calls ≤ 2
        places_few [] = omega arith
        places_few (call ∷ calls) = omega arith

        many_way : (w : Warm) → IsFullOnWay w in_c.0.session c cchip → IsMany
        many_way warm.Suspect full = many_few 1 (omega arith) full
        many_way warm.Initialized full = many_few 1 (omega arith) full
        many_way warm.Restored (inl full) = many_few 1 (omega arith) full
        many_way warm.Restored (inr full) = many_popped full
        many_way warm.Applying full = many_few (places_left c.sync.left) (places_few c.sync.left) full
        many_way warm.Reconciled full = absurd full

    stopped-by : (r : Result Settled OutOfMemory) → StopsBack start.within.session mid chip r new chip' → AddsBy workers mid chip (settling_ended r) new chip'
    stopped-by (Ok settled.Settled) h = absurd h
    stopped-by (Ok settled.Faulted) h =
        let c = h.mid in
        let z = in_c c h.mid_chip h.later h.comes in
        let f = h.stops.1 in
        failed c h.mid_chip h.later h.comes
        (record {
          before = h.mid_chip.faults;
          one = f.one;
          log = f.log;
          need = places_on_way c.warm;
          places = f.places;
          few = f.few;
          beside = subst (λ (l : History). places_beside l.marks + 1 ≤ places_on_way c.warm) (sym f.log) (beside-way c h.mid_chip z.0 (mark_at c (length chip'.effects) (event.Faulted h.mid_chip.faults chip'.faults)));
          limit = f.makes.limit;
        })
        refl h.stops.0
    stopped-by (Ok settled.LogFull) h =
        let z = in_c h.mid h.mid_chip h.later h.comes in
        let stays = subst (λ s. StaysInService s h.mid new chip') (sym z.1) (subst (λ d. StaysInService h.later h.mid new d) (sym h.stops.0) h.stops.1) in
        (stayed h.mid h.mid_chip h.later h.comes (inl h.stops.0) stays, many_way h.mid h.mid_chip h.later h.comes stays h.stops.0 h.mid.warm (subst (λ s. IsFullOnWay h.mid.warm s h.mid h.mid_chip) (sym z.1) h.stops.2))
    stopped-by (Err wanting) h =
        let z = in_c h.mid h.mid_chip h.later h.comes in
        stayed h.mid h.mid_chip h.later h.comes h.stops.0 (subst (λ s. StaysInService s h.mid new chip') (sym z.1) h.stops.1)

  -- whatever it answers
  pub settling-adds : (r : Result Settled OutOfMemory) → SettlesFrom start.within.session mid chip r new chip' → AddsBy workers mid chip (settling_ended r) new chip'
  settling-adds r (Back c cchip x h) =
      let more = settle_serves start.within.session mid chip r new chip' (Back c cchip x h) in
      settled-by more c cchip x.later x.comes x.warm r (subst (λ s. Settles s c cchip r new chip') (sym (in_c more c cchip x.later x.comes).1) h)
  settling-adds r (Stopped h) = stopped-by (settle_serves start.within.session mid chip r new chip' (Stopped h)) r h
