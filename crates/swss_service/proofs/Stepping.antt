-- a step of a worker goes on
use Rattle.std.proofs.Common.{◌≡◌, inl, inr, ℕ, ◌+◌, ◌≤◌, false, List, [], ◌∷◌, ◌++◌, length, Result, Ok, Err, refl, sym, ap, ◌∙◌, subst, arith}
use Rattle.std.proofs.lemmas.List.{append-nil, length-append}
use Rattle.swss_types.specs.declared.out_of_memory.OutOfMemory.{OutOfMemory}
use Rattle.sai_types.specs.ChipState.{ChipState, IsAskedOnce}
use Rattle.sai_types.specs.declared.plan.PlanCall.{PlanCall}
use Rattle.switch_model.specs.History.{History, listed_by, size_listing, with_mark}
use Rattle.switch_model.specs.declared.mark.Mark.{Mark}
use Rattle.switch_model.specs.declared.mark.MarkEvent.TheVariants as event
use Rattle.restart_laws.specs.Logged.{LoggedService}
use Rattle.warm_state.specs.declared.warm.Warm.{Warm}
use Rattle.warm_state.specs.declared.warm.Warm.TheVariants as warm
use Rattle.session_laws.specs.Core.{CoreState, IsFullFor, mark_at, size_beside}
use Rattle.session_laws.specs.Service.Events.{MakesMore}
use Rattle.session_laws.specs.Service.Standing.{IsServiceOf}
use Rattle.session_laws.proofs.Service.Marking.{listed-so}
use Rattle.orch_core.specs.ComingBack.{restarts_at, restarts_marked}
use Rattle.orch_core.specs.Outcomes.{FaultsCall, IsWithinLimit, KeepsChip, Part, StepsInPart, StepsTo, Unbegun, Uncalled}
use Rattle.round_laws.specs.Named.{keys_named}
use Rattle.round_laws.proofs.Listed.{listed-few}
use Rattle.orch_core.specs.Restarting.{AppliesOut, FaultsOnWay, IsFullToRestore, IsInService, ListsOut, RestoresOut, RestoresRows, StaysInService, StepsFrom, places_left}
use Rattle.orch_core.specs.declared.answer.Step.{Step}
use Rattle.orch_core.specs.declared.answer.Step.TheVariants as step
use Rattle.orch_core.proofs.Chips.{keeps_alike, keeps_asked}
use Rattle.swss_service.specs.CoreAndChip.{beside}
use Rattle.swss_service.specs.Faults.{FaultsRise}
use Rattle.swss_service.specs.Going.{HasGoneOn}
use Rattle.swss_service.specs.Served.{LacksPlaces}

-- what a step records: marks, none of which is that of a restart; each fault has its mark
pub record RecordsStep (c : CoreState) (chip : ChipState) (d : CoreState) (dchip : ChipState) : Type 0 where
  pub marks : List Mark
  pub log : d.log ≡ record { taken = c.log.taken; marks = c.log.marks ++ marks; ends = c.log.ends }
  pub none : restarts_marked marks ≡ 0
  pub faults : FaultsRise chip.faults marks dchip.faults
  pub places : IsWithinLimit c chip → IsWithinLimit d dchip
  pub fails : dchip.fails ≡ chip.fails

module _ (c : CoreState) (chip : ChipState) where
  -- the log is the same
  records-none : (d : CoreState) (dchip : ChipState) → d.log ≡ c.log → KeepsChip c chip d dchip → RecordsStep c chip d dchip
  records-none d dchip log keeps = record {
    marks = [];
    log = log ∙ ap (λ l. record { taken = c.log.taken; marks = l; ends = c.log.ends }) (sym (append-nil c.log.marks));
    none = refl;
    faults = keeps.faults;
    places = keeps.limit;
    fails = keeps.fails;
  }

  -- a mark that is neither a restart's nor a fault's
  records-mark : (d : CoreState) (dchip : ChipState) (mark : Mark) → restarts_at mark.event ≡ 0 → FaultsRise chip.faults (mark ∷ []) chip.faults → d.log ≡ with_mark c.log mark → KeepsChip c chip d dchip → RecordsStep c chip d dchip
  records-mark d dchip mark none rise log keeps = record {
    marks = mark ∷ [];
    log = log;
    none = omega (arith, none);
    faults = subst (FaultsRise chip.faults (mark ∷ [])) (sym keeps.faults) rise;
    places = keeps.limit;
    fails = keeps.fails;
  }

  -- a fault's
  records-fault : (d : CoreState) (dchip : ChipState) (n : ℕ) → dchip.faults ≡ chip.faults + 1 → d.log ≡ with_mark c.log (mark_at c n (event.Faulted chip.faults dchip.faults)) → (IsWithinLimit c chip → IsWithinLimit d dchip) → dchip.fails ≡ chip.fails → RecordsStep c chip d dchip
  records-fault d dchip n one log places fails = record {
    marks = mark_at c n (event.Faulted chip.faults dchip.faults) ∷ [];
    log = log;
    none = refl;
    faults = ((refl, one), refl);
    places = places;
    fails = fails;
  }

  module _ (s : LoggedService) (is : IsServiceOf c chip s) where
    -- nothing was done, but that the chip may have been asked once
    keeps-same : (d : CoreState) → d ≡ c → KeepsChip c chip d chip
    keeps-same d same = keeps_alike c d chip chip refl (ap (λ (z : CoreState). z.log) same) (ap (λ (z : CoreState). z.listed) same) (ap (λ (z : CoreState). z.limit) same)

    records-asked : (d : CoreState) (dchip : ChipState) → d ≡ c → IsAskedOnce chip dchip → RecordsStep c chip d dchip
    records-asked d dchip same asked = records-none d dchip (ap (λ (z : CoreState). z.log) same) (keeps_asked asked (keeps-same d same))

    records-same : (d : CoreState) (dchip : ChipState) → d ≡ c → dchip ≡ chip → RecordsStep c chip d dchip
    records-same d dchip same there = records-asked d dchip same (inl there)

    -- a core that stands for a session with the same log
    listed-same : (d : CoreState) (listed : d.listed ≡ listed_by d.log.marks) → d.log ≡ c.log → d.listed ≡ c.listed
    listed-same d listed log = listed ∙ ap (λ (h : History). listed_by h.marks) log ∙ sym is.always.listed

    records-stays : (d : CoreState) (dchip : ChipState) → dchip ≡ chip → StaysInService s c d chip → RecordsStep c chip d dchip
    records-stays d dchip there x = records-none d dchip x.log (keeps_alike c d chip dchip there x.log (listed-same d x.stands.always.listed x.log) x.limit)

    -- a fault's, whose call had so many places
    fault-within : (d : CoreState) (dchip : ChipState) (n before after need : ℕ) → d.log ≡ with_mark c.log (mark_at c n (event.Faulted before after)) → d.listed ≡ listed_by d.log.marks → d.limit ≡ c.limit → size_beside c dchip.before_fault + need ≤ c.limit → length dchip.effects + 1 ≤ dchip.before_fault + need → IsWithinLimit d dchip
    fault-within d dchip n before after need log listed limit places few =
        let mark = mark_at c n (event.Faulted before after) in
        let taken : length d.log.taken ≡ length c.log.taken = ap (λ (h : History). length h.taken) log in
        let marks : length d.log.marks ≡ length c.log.marks + 1 = ap (λ (h : History). length h.marks) log ∙ length-append c.log.marks (mark ∷ []) in
        let same : d.listed ≡ c.listed + 0 = listed ∙ ap (λ (h : History). listed_by h.marks) log ∙ sym (listed-so c.log.marks mark c.listed 0 refl is.always.listed) in
        omega (arith, places, few, taken, marks, same, limit)

    records-call : (w : ℕ) (d : CoreState) (dchip : ChipState) → FaultsCall false s w c chip d dchip → RecordsStep c chip d dchip
    records-call w d dchip x =
        let few = x.marks.few in
        records-fault d dchip (length dchip.effects) x.marks.one x.marks.log
        (λ h. fault-within d dchip (length dchip.effects) chip.faults dchip.faults 2 x.marks.log x.makes.stands.listed x.makes.limit x.marks.places (omega (arith, few))) x.fails

    records-way : (need : ℕ) (d : CoreState) (dchip : ChipState) → FaultsOnWay need false s c chip d dchip → RecordsStep c chip d dchip
    records-way need d dchip x =
        records-fault d dchip (length dchip.effects) x.one x.log
        (λ h. fault-within d dchip (length dchip.effects) chip.faults dchip.faults need x.log x.makes.stands.always.listed x.makes.limit x.places x.few) x.fails

    -- ---- by the warm state

    part-records : (w : ℕ) (d : CoreState) (dchip : ChipState) → StepsInPart s w c chip d dchip → RecordsStep c chip d dchip
    part-records w d dchip (Uncalled due asked stays room) = records-none d dchip stays.log (keeps_asked asked (keeps_alike c d chip chip refl stays.log (listed-same d stays.stands.listed stays.log) stays.limit))
    part-records w d dchip (Unbegun none there stays) = records-none d dchip stays.log (keeps_alike c d chip dchip there stays.log (listed-same d stays.stands.listed stays.log) stays.limit)
    part-records w d dchip (Part next there pops part) = records-none d dchip (ap (λ (z : CoreState). z.log) pops.1) (keeps_alike c d chip dchip there (ap (λ (z : CoreState). z.log) pops.1) (ap (λ (z : CoreState). z.listed) pops.1) (ap (λ (z : CoreState). z.limit) pops.1))

    work-records : (w : ℕ) (r : Result Step OutOfMemory) (d : CoreState) (dchip : ChipState) → StepsTo s w c chip r d dchip → RecordsStep c chip d dchip
    work-records w (Ok step.Did) d dchip x = records-none d dchip (sym x.makes.stands.log ∙ ap (λ (t : LoggedService). t.log) x.moves ∙ is.always.log) x.keeps
    work-records w (Ok step.Idle) d dchip x = records-none d dchip (ap (λ (z : CoreState). z.log) x.1.2) (keeps_alike c d chip dchip x.0 (ap (λ (z : CoreState). z.log) x.1.2) (ap (λ (z : CoreState). z.listed) x.1.2) (ap (λ (z : CoreState). z.limit) x.1.2))
    work-records w (Ok step.Suspect) d dchip x = records-same d dchip x.0 x.1
    work-records w (Ok step.Faulted) d dchip x = records-call w d dchip x.0
    work-records w (Ok step.LogFull) d dchip x = records-same d dchip x.0 x.1
    work-records w (Err e) d dchip x = part-records w d dchip x

    list-records : (r : Result Step OutOfMemory) (d : CoreState) (dchip : ChipState) → ListsOut false s c chip r d dchip → RecordsStep c chip d dchip
    list-records (Ok step.Did) d dchip x = records-none d dchip (ap (λ (z : CoreState). z.log) x.is) (keeps_asked (inr x.chip_is) (keeps_alike c d chip chip refl (ap (λ (z : CoreState). z.log) x.is) (ap (λ (z : CoreState). z.listed) x.is) (ap (λ (z : CoreState). z.limit) x.is)))
    list-records (Ok step.Faulted) d dchip x = records-way 1 d dchip x
    list-records (Ok step.LogFull) d dchip x = records-same d dchip x.0 x.1
    list-records (Ok step.Idle) d dchip x = absurd x
    list-records (Ok step.Suspect) d dchip x = absurd x
    list-records (Err e) d dchip x = records-asked d dchip x.0 x.1

    restored-within : (d : CoreState) → RestoresRows s c chip d → IsWithinLimit d chip
    restored-within d x =
        let mark = mark_at c (length chip.effects) (event.ApplyBegan x.mode x.waits) in
        let room = x.room in
        let limit = x.makes.limit in
        let taken : length d.log.taken ≡ length c.log.taken = ap (λ (h : History). length h.taken) x.log in
        let marks : length d.log.marks ≡ length c.log.marks + 1 = ap (λ (h : History). length h.marks) x.log ∙ length-append c.log.marks (mark ∷ []) in
        let listed : d.listed ≡ c.listed + length x.waits = x.makes.stands.always.listed ∙ ap (λ (h : History). listed_by h.marks) x.log ∙ sym (listed-so c.log.marks mark c.listed (length x.waits) refl is.always.listed) in
        omega (arith, room, limit, taken, marks, listed)

    restore-records : (r : Result Step OutOfMemory) (d : CoreState) (dchip : ChipState) → RestoresOut s c chip r d dchip → RecordsStep c chip d dchip
    restore-records (Ok step.Did) d dchip x =
        subst (λ z. RecordsStep c chip d z) (sym x.0)
        (records-mark d chip (mark_at c (length chip.effects) (event.ApplyBegan x.1.mode x.1.waits)) refl (tt, refl) x.1.log (record { fails = refl; faults = refl; limit = λ h. restored-within d x.1 }))
    restore-records (Ok step.LogFull) d dchip x = records-stays d dchip x.0 x.1
    restore-records (Ok step.Faulted) d dchip x = absurd x
    restore-records (Ok step.Idle) d dchip x = absurd x
    restore-records (Ok step.Suspect) d dchip x = absurd x
    restore-records (Err e) d dchip x = records-stays d dchip x.0 x.1

    apply-records : (r : Result Step OutOfMemory) (d : CoreState) (dchip : ChipState) → AppliesOut false s c chip r d dchip → RecordsStep c chip d dchip
    apply-records (Ok step.Did) d dchip (inl x) = records-none d dchip x.log x.keeps
    apply-records (Ok step.Did) d dchip (inr x) = records-mark d dchip (mark_at c (length dchip.effects) event.ApplyEnded) refl (tt, refl) x.log x.keeps
    apply-records (Ok step.Faulted) d dchip x = records-way 2 d dchip x
    apply-records (Ok step.LogFull) d dchip x = records-same d dchip x.0 x.1
    apply-records (Ok step.Idle) d dchip x = absurd x
    apply-records (Ok step.Suspect) d dchip x = absurd x
    apply-records (Err e) d dchip x = records-asked d dchip x.0 x.1

    pub step-records : (w : ℕ) (r : Result Step OutOfMemory) (d : CoreState) (dchip : ChipState) → StepsFrom c.warm w s c chip r d dchip → RecordsStep c chip d dchip
    step-records w r d dchip = by c.warm refl
      where
        by : (v : Warm) → c.warm ≡ v → StepsFrom v w s c chip r d dchip → RecordsStep c chip d dchip
        by warm.Initialized at x = list-records r d dchip x
        by warm.Restored at x = restore-records r d dchip x
        by warm.Applying at x = apply-records r d dchip x
        by warm.Reconciled at x = work-records w r d dchip x
        by warm.Suspect at x = records-same d dchip x.1 x.2

-- ---- a full log

module _ (c : CoreState) (chip : ChipState) where
  lacks-so : (d : CoreState) (dchip : ChipState) (need : ℕ) → d.log ≡ c.log → d.listed ≡ c.listed → d.limit ≡ c.limit → dchip ≡ chip → IsFullFor c (length chip.effects) need → need ≤ 2 + length (keys_named c.log.taken) → LacksPlaces (beside d dchip)
  lacks-so d dchip need log listed limit there full few =
      let size : size_beside d (length dchip.effects) ≡ size_beside c (length chip.effects) =
      ap (λ (h : History). size_listing d.listed h (length dchip.effects)) log ∙ ap (λ n. size_listing n c.log (length dchip.effects)) listed ∙ ap (λ (z : ChipState). size_beside c (length z.effects)) there in
      let keys : length (keys_named d.log.taken) ≡ length (keys_named c.log.taken) = ap (λ (h : History). length (keys_named h.taken)) log in
      omega (arith, size, keys, limit, full, few)

  -- nothing was done
  pub lacks-same : (d : CoreState) (dchip : ChipState) (need : ℕ) → d ≡ c → dchip ≡ chip → IsFullFor c (length chip.effects) need → need ≤ 2 → LacksPlaces (beside d dchip)
  lacks-same d dchip need same there full few =
      lacks-so d dchip need (ap (λ (z : CoreState). z.log) same) (ap (λ (z : CoreState). z.listed) same) (ap (λ (z : CoreState). z.limit) same) there full (omega (arith, few))

  full-suspect : (r : Result Step OutOfMemory) → r ≡ Ok step.LogFull → r ≡ Ok step.Suspect → ⊥
  full-suspect r full suspect = cc

  places-few : (left : List PlanCall) → places_left left ≤ 2
  places-few [] = omega arith
  places-few (call ∷ left) = omega arith

  module _ (s : LoggedService) (is : IsServiceOf c chip s) where
    lacks-restore : (d : CoreState) (dchip : ChipState) → dchip ≡ chip → StaysInService s c d chip → IsFullToRestore s c chip → LacksPlaces (beside d dchip)
    lacks-restore d dchip there x (inl full) = lacks-so d dchip 1 x.log (listed-same c chip s is d x.stands.always.listed x.log) x.limit there full (omega arith)
    lacks-restore d dchip there x (inr full) =
        let few = listed-few (record c { tables = full.tables }) full.full.built full.full.all in
        lacks-so d dchip (1 + length full.full.all.waits) x.log (listed-same c chip s is d x.stands.always.listed x.log) x.limit there full.full.full (omega (arith, few))

    -- a step finds the log full only where it has fewer places than any event can need
    pub step-lacks : (w : ℕ) (d : CoreState) (dchip : ChipState) → StepsFrom c.warm w s c chip (Ok step.LogFull) d dchip → LacksPlaces (beside d dchip)
    step-lacks w d dchip = by c.warm
      where
        by : (v : Warm) → StepsFrom v w s c chip (Ok step.LogFull) d dchip → LacksPlaces (beside d dchip)
        by warm.Initialized x = lacks-same d dchip 1 x.0 x.1 x.2 (omega arith)
        by warm.Restored x = lacks-restore d dchip x.0 x.1 x.2
        by warm.Applying x = lacks-same d dchip (places_left c.sync.left) x.0 x.1 x.2 (places-few c.sync.left)
        by warm.Reconciled x = lacks-same d dchip 2 x.0 x.1 x.2 (omega arith)
        by warm.Suspect x = absurd (full-suspect (Ok step.LogFull) refl x.0)

-- what a worker does, those behind it may do
pub more-up : (v w : ℕ) → v ≤ w → (c d : CoreState) (dchip : ChipState) (s : LoggedService) → MakesMore v c s d dchip → MakesMore w c s d dchip
more-up v w le c d dchip s x = record { steps = x.steps; are = x.are; few = λ n less first. x.few n (omega (arith, le, less)) first; stands = x.stands; plan = x.plan; capacities = x.capacities; limit = x.limit }

-- a step of a core that stands for a session goes on from it: it takes no write, and makes no restart
pub gone-stepped : (last : ℕ) (c : CoreState) (chip : ChipState) (x : IsInService c chip) (w : ℕ) → w ≤ last → (r : Result Step OutOfMemory) (d : CoreState) (dchip : ChipState)
    → ((s : LoggedService) → IsServiceOf c chip s → StepsFrom c.warm w s c chip r d dchip) → ((s : LoggedService) → IsServiceOf c chip s → MakesMore w c s d dchip)
    → (marks : List Mark) × HasGoneOn last (beside c chip) d dchip [] marks × (restarts_marked marks ≡ 0)
gone-stepped last c chip x w le r d dchip steps goes =
    let done = step-records c chip x.0 x.1 w r d dchip (steps x.0 x.1) in (
      done.marks,
      record {
        began = x;
        steps = λ s is. more-up w last le c d dchip s (goes s is);
        log = done.log ∙ ap (λ l. record { taken = l; marks = c.log.marks ++ done.marks; ends = c.log.ends }) (sym (append-nil c.log.taken));
        faults = done.faults;
        places = done.places;
        fails = done.fails;
      },
      done.none,
    )
