-- whatever the core's calls answer, the core and its chip stand for a session of the service, to which whole events lead
use Rattle.std.proofs.Common.{◌≡◌, ◌⊎◌, ◌∙◌, inl, inr, ℕ, Bool, true, false, [], Result, Ok, Err, refl, sym, ap, subst}
use Rattle.swss_types.specs.declared.out_of_memory.OutOfMemory.{OutOfMemory}
use Rattle.sai_types.specs.ChipState.{ChipState, IsAskedOnce}
use Rattle.switch_model.specs.History.{History}
use Rattle.switch_model.specs.declared.mark.Mark.{Mark}
use Rattle.restart_laws.specs.Logged.{LoggedService, session_after}
use Rattle.session_laws.proofs.Settling.Leading.{leads_some}
use Rattle.warm_state.specs.declared.warm.Warm.{Warm}
use Rattle.warm_state.specs.declared.warm.Warm.TheVariants as warm
use Rattle.session_laws.specs.Core.{CoreState}
use Rattle.session_laws.specs.Events.{MakesOne, MakesSome}
use Rattle.session_laws.specs.Service.Events.{MakesMore, MakesNext}
use Rattle.session_laws.specs.Service.Standing.{IsServiceOf}
use Rattle.session_laws.proofs.Asked.{service_asked_once}
use Rattle.session_laws.specs.Workers.{IsByFirst, StaysByFirst}
use Rattle.session_laws.proofs.ByFirst.{away_stays, by_any, next_stays, none_stay}
use Rattle.session_laws.proofs.Service.ByFirst.{core-away}
use Rattle.session_laws.proofs.Service.Joining.{both-more, more-for, none-more, one-more}
use Rattle.session_laws.proofs.Service.Sessions.{session-of, step-next, steps-more}
use Rattle.session_laws.proofs.Service.States.{applying-reconciled, restored-reconciled, suspect-reconciled}
use Rattle.round_laws.specs.Sessions.{InSession, InSteadySession}
use Rattle.round_laws.proofs.Sessions.{one-on, steady-session}
use Rattle.orch_core.specs.ComingBack.{Back, ComesTo, SettlesFrom, Stopped, StopsAfter, StopsOnWay}
use Rattle.orch_core.specs.Outcomes.{Part, PopsAlone, StaysInSession, StepsInPart, StepsTo, Unbegun, Uncalled, with_fault}
use Rattle.orch_core.specs.Restarting.{AppliesOut, ListsOut, RestartsStep, RestoresOut, StaysInService, StepsFrom}
use Rattle.orch_core.specs.Settled.{Settles}
use Rattle.orch_core.specs.Taking.{TakesNext}
use Rattle.orch_core.specs.declared.answer.LogFull.{LogFull}
use Rattle.orch_core.specs.declared.answer.TakeFault.{TakeFault}
use Rattle.orch_core.specs.declared.answer.Ran.{Ran}
use Rattle.orch_core.specs.declared.answer.Ran.TheVariants as ran
use Rattle.orch_core.specs.declared.answer.Settled.{Settled}
use Rattle.orch_core.specs.declared.answer.Settled.TheVariants as settled
use Rattle.orch_core.specs.declared.answer.Step.{Step}
use Rattle.orch_core.specs.declared.answer.Step.TheVariants as step
use Rattle.orch_core.proofs.Walks.{some_same, warm_same}

-- the mark of a fault leaves the writes taken
fault_taken : (ends : Bool) (h : History) (m : Mark) → (with_fault ends h m).taken ≡ h.taken
fault_taken true h m = refl
fault_taken false h m = refl

module _ (w : ℕ) (s : LoggedService) (c : CoreState) (chip : ChipState) (is : IsServiceOf c chip s) where
  -- nothing was done
  pub same_serves : (d : CoreState) (dchip : ChipState) → d ≡ c → dchip ≡ chip → MakesMore w c s d dchip
  same_serves d dchip same there = subst (λ z. MakesMore w c s z dchip) (sym same) (subst (λ z. MakesMore w c s c z) (sym there) (none-more w c chip s is))

  -- nor was anything made of the chip's answer
  asked_serves : (d : CoreState) (dchip : ChipState) → d ≡ c → IsAskedOnce chip dchip → MakesMore w c s d dchip
  asked_serves d dchip same asked = subst (λ z. MakesMore w c s z dchip) (sym same) (record { steps = []; are = tt; few = none_stay w s; stands = service_asked_once c chip dchip s asked is; plan = refl; capacities = refl; limit = refl })

  stays_serves : (d : CoreState) (dchip : ChipState) → StaysInService s c d dchip → MakesMore w c s d dchip
  stays_serves d dchip x = record { steps = []; are = tt; few = none_stay w s; stands = x.stands; plan = x.plan; capacities = x.capacities; limit = x.limit }

  still_serves : (d : CoreState) (dchip : ChipState) → dchip ≡ chip → StaysInService s c d chip → MakesMore w c s d dchip
  still_serves d dchip there x = subst (λ z. MakesMore w c s d z) (sym there) (stays_serves d chip x)

  -- steps of a session are steps of the service
  one_serves : (d : CoreState) (dchip : ChipState) → d.log.taken ≡ c.log.taken → (d.warm ≡ warm.Reconciled) ⊎ (d.warm ≡ warm.Suspect) → (x : MakesOne c s d dchip) → StaysByFirst w s x.later → MakesMore w c s d dchip
  one_serves d dchip taken at x stays = let y = step-next c d chip dchip s is taken at x in one-more w c d dchip s y.0 (subst (StaysByFirst w s) (sym y.1) stays)

  some_serves : (d : CoreState) (dchip : ChipState) → d.log.taken ≡ c.log.taken → (d.warm ≡ warm.Reconciled) ⊎ (d.warm ≡ warm.Suspect) → MakesSome c s d dchip → MakesMore w c s d dchip
  some_serves d dchip taken at x = more-for w c d dchip s (steps-more c d chip dchip s is taken at x).0

  -- a step after which the core is not reconciled
  away_serves : (d : CoreState) (dchip : ChipState) (x : MakesNext c s d dchip) → (d.warm ≡ warm.Reconciled → ⊥) → MakesMore w c s d dchip
  away_serves d dchip x away = one-more w c d dchip s x (by_any w s x.later (core-away c d chip dchip s x.later is x.stands away))

  -- ---- a step

  module _ (at : c.warm ≡ warm.Reconciled) where
    pops_serve : (d : CoreState) → PopsAlone c d → MakesMore w c s d chip
    pops_serve d (t, same, pops) =
        let x = pops chip s (session-of c chip s is at) in
        some_serves d chip (ap (λ (z : CoreState). z.log.taken) same) (inl (ap (λ (z : CoreState). z.warm) same ∙ at)) (leads_some c d chip s x.later x.leads)

    unmade_serves : (d : CoreState) (dchip : ChipState) → StaysInSession s c d dchip → MakesMore w c s d dchip
    unmade_serves d dchip x = some_serves d dchip (ap (λ (h : History). h.taken) x.log) (inl (x.warm ∙ at)) (record { steps = []; are = tt; few = none_stay 0 s; stands = x.stands; plan = x.plan; capacities = x.capacities; limit = x.limit })

    -- memory was refused
    part_serves : (d : CoreState) (dchip : ChipState) → StepsInPart s w c chip d dchip → MakesMore w c s d dchip
    part_serves d dchip (Uncalled flying asked x room) = unmade_serves d dchip x
    part_serves d dchip (Unbegun none there x) = subst (λ z. MakesMore w c s d z) (sym there) (unmade_serves d chip x)
    part_serves d dchip (Part next there x few) = subst (λ z. MakesMore w c s d z) (sym there) (pops_serve d x)

    pub work_serves : (r : Result Step OutOfMemory) (d : CoreState) (dchip : ChipState) → StepsTo s w c chip r d dchip → MakesMore w c s d dchip
    work_serves (Ok step.Did) d dchip x =
        let log : d.log ≡ c.log = sym x.makes.stands.log ∙ ap (λ (t : LoggedService). t.log) x.moves ∙ is.always.log in
        let same : d.warm ≡ c.warm = sym x.makes.stands.warm_is ∙ ap (λ (t : LoggedService). t.service.warm) x.moves ∙ is.always.warm_is in
        one_serves d dchip (ap (λ (h : History). h.taken) log) (inl (same ∙ at)) x.makes (next_stays s x.makes.later (ap (λ (t : LoggedService). t.service.warm) x.moves) c.board.plan 4 c.sync.capacities w x.call x.next)
    work_serves (Ok step.Idle) d dchip x =
        subst (λ z. MakesMore w c s d z) (sym x.0)
        (some_serves d chip (ap (λ (z : CoreState). z.log.taken) x.1.2) (inl (warm_same c d x.1 ∙ at)) (some_same c d s chip x.1 x.2))
    work_serves (Ok step.Suspect) d dchip x = same_serves d dchip x.0 x.1
    work_serves (Ok step.Faulted) d dchip x = one_serves d dchip (ap (λ (h : History). h.taken) x.0.marks.log) (inr x.0.marks.warm) x.0.makes (by_any w s x.0.makes.later (away_stays s x.0.makes.later (λ h. suspect-reconciled (sym x.0.marks.warm ∙ sym x.0.makes.stands.warm_is ∙ h))))
    work_serves (Ok step.LogFull) d dchip x = same_serves d dchip x.0 x.1
    work_serves (Err e) d dchip x = part_serves d dchip x

  pub list_serves : (ends : Bool) (r : Result Step OutOfMemory) (d : CoreState) (dchip : ChipState) → ListsOut ends s c chip r d dchip → MakesMore w c s d dchip
  list_serves ends (Ok step.Did) d dchip x = away_serves d dchip x.makes (λ h. restored-reconciled (sym (ap (λ (z : CoreState). z.warm) x.is) ∙ h))
  list_serves ends (Ok step.Faulted) d dchip x = away_serves d dchip x.makes (λ h. suspect-reconciled (sym x.warm ∙ h))
  list_serves ends (Ok step.LogFull) d dchip x = same_serves d dchip x.0 x.1
  list_serves ends (Ok step.Idle) d dchip x = absurd x
  list_serves ends (Ok step.Suspect) d dchip x = absurd x
  list_serves ends (Err e) d dchip x = asked_serves d dchip x.0 x.1

  pub restore_serves : (r : Result Step OutOfMemory) (d : CoreState) (dchip : ChipState) → RestoresOut s c chip r d dchip → MakesMore w c s d dchip
  restore_serves (Ok step.Did) d dchip x = subst (λ z. MakesMore w c s d z) (sym x.0) (away_serves d chip x.1.makes (λ h. applying-reconciled (sym x.1.warm ∙ h)))
  restore_serves (Ok step.LogFull) d dchip x = still_serves d dchip x.0 x.1
  restore_serves (Ok step.Faulted) d dchip x = absurd x
  restore_serves (Ok step.Idle) d dchip x = absurd x
  restore_serves (Ok step.Suspect) d dchip x = absurd x
  restore_serves (Err e) d dchip x = still_serves d dchip x.0 x.1

  pub apply_serves : (ends : Bool) (r : Result Step OutOfMemory) (d : CoreState) (dchip : ChipState) → AppliesOut ends s c chip r d dchip → MakesMore w c s d dchip
  apply_serves ends (Ok step.Did) d dchip (inl x) = away_serves d dchip x.makes (λ h. applying-reconciled (sym x.warm ∙ h))
  apply_serves ends (Ok step.Did) d dchip (inr x) = more-for w c d dchip s x.makes
  apply_serves ends (Ok step.Faulted) d dchip x = away_serves d dchip x.makes (λ h. suspect-reconciled (sym x.warm ∙ h))
  apply_serves ends (Ok step.LogFull) d dchip x = same_serves d dchip x.0 x.1
  apply_serves ends (Ok step.Idle) d dchip x = absurd x
  apply_serves ends (Ok step.Suspect) d dchip x = absurd x
  apply_serves ends (Err e) d dchip x = asked_serves d dchip x.0 x.1

  pub step_serves : (r : Result Step OutOfMemory) (d : CoreState) (dchip : ChipState) → StepsFrom c.warm w s c chip r d dchip → MakesMore w c s d dchip
  step_serves r d dchip = by c.warm refl
    where
      by : (v : Warm) → c.warm ≡ v → StepsFrom v w s c chip r d dchip → MakesMore w c s d dchip
      by warm.Initialized at x = list_serves false r d dchip x
      by warm.Restored at x = restore_serves r d dchip x
      by warm.Applying at x = apply_serves false r d dchip x
      by warm.Reconciled at x = work_serves at r d dchip x
      by warm.Suspect at x = same_serves d dchip x.1 x.2

  -- ---- a settling of a core that is reconciled

  pub settling_serves : (r : Result Settled OutOfMemory) (d : CoreState) (dchip : ChipState) → Settles s c chip r d dchip → MakesMore w c s d dchip
  settling_serves (Ok settled.Settled) d dchip x =
      let taken : d.log.taken ≡ c.log.taken = ap (λ (h : History). h.taken) (sym x.settles.leads.stands.log ∙ x.settles.settling.log) ∙ ap (λ (h : History). h.taken) is.always.log in
      some_serves d dchip taken (inl x.settles.warm) (leads_some c d dchip s x.settles.later x.settles.leads)
  settling_serves (Ok settled.Faulted) d dchip x = some_serves d dchip (ap (λ (h : History). h.taken) x.0.marks.log) (inr x.0.marks.warm) x.0.steps
  settling_serves (Ok settled.LogFull) d dchip (inl x) = some_serves d dchip (ap (λ (h : History). h.taken) x.log) (inl x.warm) x.steps
  settling_serves (Ok settled.LogFull) d dchip (inr x) = some_serves d dchip (ap (λ (h : History). h.taken) x.log) (inl x.at_rest.warm) (leads_some c d dchip s x.later x.leads)
  settling_serves (Err e) d dchip x = some_serves d dchip (ap (λ (h : History). h.taken) x.log) (inl x.warm) x.steps

-- ---- and of any core

pub comes_serves : (s t : LoggedService) (c : CoreState) (chip : ChipState) (d : CoreState) (dchip : ChipState) → ComesTo s t c chip d dchip → (x : MakesMore 0 c s d dchip) × (session_after s x.steps ≡ t)
comes_serves s t c chip d dchip x = (record { steps = x.steps; are = x.are; few = x.few; stands = subst (IsServiceOf d dchip) (sym x.is) x.stands; plan = x.plan; capacities = x.capacities; limit = x.limit }, x.is)

after_coming : (s t : LoggedService) (c d e : CoreState) (chip dchip echip : ChipState) → ComesTo s t c chip d dchip → MakesMore 0 d t e echip → MakesMore 0 c s e echip
after_coming s t c d e chip dchip echip x y = let z = comes_serves s t c chip d dchip x in both-more 0 c d e dchip echip s z.0 (subst (λ u. MakesMore 0 d u e echip) (sym z.1) y)

module _ (s : LoggedService) (c : CoreState) (chip : ChipState) where
  way_serves : (is : IsServiceOf c chip s) (r : Result Ran OutOfMemory) (d : CoreState) (dchip : ChipState) → StopsOnWay s c chip r d dchip → MakesMore 0 c s d dchip
  way_serves is (Ok ran.Whole) d dchip x = absurd x
  way_serves is (Ok ran.Faulted) d dchip x = away_serves 0 s c chip is d dchip x.1.makes (λ h. suspect-reconciled (sym x.1.warm ∙ h))
  way_serves is (Ok ran.LogFull) d dchip x = still_serves 0 s c chip is d dchip x.0 x.1
  way_serves is (Err e) d dchip x = stays_serves 0 s c chip is d dchip x.1

stops_serves : (s : LoggedService) (c : CoreState) (chip : ChipState) (r : Result Ran OutOfMemory) (d : CoreState) (dchip : ChipState) → StopsAfter s c chip r d dchip → MakesMore 0 c s d dchip
stops_serves s c chip r d dchip x = after_coming s x.later c x.mid d chip x.mid_chip dchip x.comes (way_serves x.later x.mid x.mid_chip x.comes.stands r d dchip x.stops)

pub settle_serves : (s : LoggedService) (c : CoreState) (chip : ChipState) (r : Result Settled OutOfMemory) (d : CoreState) (dchip : ChipState) → SettlesFrom s c chip r d dchip → MakesMore 0 c s d dchip
settle_serves s c chip r d dchip (Back mid mid_chip x h) = after_coming s x.later c mid d chip mid_chip dchip x.comes (settling_serves 0 x.later mid mid_chip x.comes.stands r d dchip h)
settle_serves s c chip (Ok settled.Settled) d dchip (Stopped h) = absurd h
settle_serves s c chip (Ok settled.Faulted) d dchip (Stopped h) = stops_serves s c chip (Ok ran.Faulted) d dchip h
settle_serves s c chip (Ok settled.LogFull) d dchip (Stopped h) = stops_serves s c chip (Ok ran.LogFull) d dchip h
settle_serves s c chip (Err e) d dchip (Stopped h) = stops_serves s c chip (Err e) d dchip h

-- ---- a write that comes, and a restart: they leave a session that came about in one, whoever has operations under way

module _ (c : CoreState) (chip : ChipState) (d : CoreState) where
  pub still_steady : {workers : ℕ} → d ≡ c → InSession workers c chip → InSteadySession workers d chip
  still_steady {workers} same x = subst (λ z. InSteadySession workers z chip) (sym same) (steady-session c chip x)

  pub taken_steady : {workers : ℕ} → ((s : LoggedService) → IsServiceOf c chip s → MakesNext c s d chip) → ((s t : LoggedService) → IsServiceOf c chip s → IsServiceOf d chip t → (n : ℕ) → IsByFirst n s → IsByFirst n t) → InSession workers c chip → InSteadySession workers d chip
  taken_steady {workers} next stays x = let y = next x.session x.stands in steady-session d chip (one-on c d chip chip x y (stays x.session y.later x.stands y.stands workers)).0
