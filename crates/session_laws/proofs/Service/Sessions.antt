-- while the core is reconciled its session is one of the service, and so it is after steps
use Rattle.std.proofs.Common.{◌≡◌, ◌⊎◌, ◌∷◌, inl, inr, ℕ, true, List, [], refl, sym, subst}
use Rattle.table_schema.specs.Plan.{IsPlan, Ports}
use Rattle.table_schema.specs.declared.write.Sent.{Sent}
use Rattle.table_schema.specs.declared.write.Write.{Write}
use Rattle.sai_types.specs.Alike.{IsIn}
use Rattle.sai_types.specs.ChipState.{ChipState}
use Rattle.switch_model.specs.Marks.{sent_writes, written_key}
use Rattle.switch_machine.specs.Written.{HasNoWrite, Written}
use Rattle.machine_laws.specs.Reading.{IsOnSwitch}
use Rattle.warm_state.specs.declared.warm.Warm.TheVariants as warm
use Rattle.restart_laws.specs.Invariant.{Holds}
use Rattle.restart_laws.specs.Logged.{AreLoggedSteps, LoggedService, new_session, session_after}
use Rattle.restart_laws.proofs.Holding.{holds-new}
use Rattle.session_laws.specs.Core.{CoreState, new_core}
use Rattle.session_laws.specs.Events.{MakesOne, MakesSome}
use Rattle.session_laws.specs.Standing.{IsSessionOf}
use Rattle.session_laws.proofs.Beginning.{new_stands}
use Rattle.session_laws.specs.Service.Events.{MakesMore, MakesNext}
use Rattle.session_laws.specs.Service.Standing.{AreKeysOnSwitch, HaveNumbers, IsAhead, IsServiceOf, written_of}
use Rattle.session_laws.proofs.Service.Holding.{step-holds}
use Rattle.session_laws.proofs.Service.Numbers.{step-numbers}
use Rattle.session_laws.proofs.Service.States.{not-in, reconciled-applying, reconciled-initialized, reconciled-restored, suspect-applying, suspect-initialized, suspect-restored}

pub session-of : (c : CoreState) (chip : ChipState) (s : LoggedService) → IsServiceOf c chip s → c.warm ≡ warm.Reconciled → IsSessionOf c chip s
session-of c chip s is at = let x = is.working at in record {
  plan = is.always.plan;
  capacities = is.always.capacities;
  clean = is.always.clean;
  warm_is = is.always.warm_is;
  written = x.0.written;
  to_sync = x.0.to_sync;
  objects = is.always.objects;
  made = is.always.made;
  log = is.always.log;
  effects = is.always.effects;
  listed = is.always.listed;
  to_sync_read = is.always.read.to_sync;
  waiting_read = λ k. subst (λ z. (HasNoWrite z k → ⊥) → IsOnSwitch k) (sym x.0.written) (is.always.read.waiting k);
  working = λ _. x.1;
}

pub exactly-ahead : (s now : Written) → s ≡ now → IsAhead s now
exactly-ahead s now same = subst (IsAhead s) same (record { taken = refl; whole = λ k. refl })

module _ (c : CoreState) (chip : ChipState) (s : LoggedService) (is : IsSessionOf c chip s) (holds : Holds c.board.plan 4 c.sync.capacities s.service) (numbers : HaveNumbers s.service.core.objects) (taken : (w : Write) → IsIn w (sent_writes c.log.taken) → IsOnSwitch (written_key w)) where
  read_of : AreKeysOnSwitch c
  read_of = record {
    taken = taken;
    to_sync = is.to_sync_read;
    waiting = λ k. subst (λ z. (HasNoWrite z k → ⊥) → IsOnSwitch k) is.written (is.waiting_read k);
  }

  by : (c.warm ≡ warm.Initialized → ⊥) → (c.warm ≡ warm.Restored → ⊥) → (c.warm ≡ warm.Applying → ⊥) → IsServiceOf c chip s
  by no_first no_seen no_apply = record {
    always = record {
      plan = is.plan;
      capacities = is.capacities;
      clean = is.clean;
      warm_is = is.warm_is;
      holds = holds;
      numbers = numbers;
      ahead = exactly-ahead s.service.core.written (written_of c) is.written;
      objects = is.objects;
      made = is.made;
      log = is.log;
      effects = is.effects;
      listed = is.listed;
      read = read_of;
    };
    working = λ at. (record { written = is.written; to_sync = is.to_sync }, is.working at);
    restarted = λ at. absurd (no_first at);
    seen = λ at. absurd (no_seen at);
    applying = λ at. absurd (no_apply at);
  }

  pub service-of : (c.warm ≡ warm.Reconciled) ⊎ (c.warm ≡ warm.Suspect) → IsServiceOf c chip s
  service-of (inl at) = by (not-in warm.Reconciled warm.Initialized c.warm at reconciled-initialized) (not-in warm.Reconciled warm.Restored c.warm at reconciled-restored) (not-in warm.Reconciled warm.Applying c.warm at reconciled-applying)
  service-of (inr at) = by (not-in warm.Suspect warm.Initialized c.warm at suspect-initialized) (not-in warm.Suspect warm.Restored c.warm at suspect-restored) (not-in warm.Suspect warm.Applying c.warm at suspect-applying)

pub first-service : (plan : Ports) (capacities : List ℕ) (limit : ℕ) (chip : ChipState) → IsPlan plan → chip.objects ≡ [] → chip.effects ≡ [] → chip.clean ≡ true → chip.capacities ≡ capacities → IsServiceOf (new_core plan capacities limit) chip new_session
first-service plan capacities limit chip is none no_effects clean same = service-of (new_core plan capacities limit) chip new_session (new_stands plan capacities limit chip is none no_effects clean same) (holds-new plan is 4 capacities) (λ r b found. absurd cc) (λ w i. elim i [ ]) (inl refl)

-- ---- after steps

module _ (plan : Ports) (is : IsPlan plan) (capacities : List ℕ) where
  steps_hold : (s : LoggedService) (ts : List LoggedService) → Holds plan 4 capacities s.service → AreLoggedSteps plan 4 capacities s ts → Holds plan 4 capacities (session_after s ts).service
  steps_hold s [] h run = h
  steps_hold s (t ∷ ts) h run = steps_hold t ts (step-holds plan is capacities s t h run.0) run.1

  steps_number : (s : LoggedService) (ts : List LoggedService) → Holds plan 4 capacities s.service → HaveNumbers s.service.core.objects → AreLoggedSteps plan 4 capacities s ts → HaveNumbers (session_after s ts).service.core.objects
  steps_number s [] h have run = have
  steps_number s (t ∷ ts) h have run = steps_number t ts (step-holds plan is capacities s t h run.0) (step-numbers plan capacities s t h have run.0) run.1

module _ (c c' : CoreState) (chip chip' : ChipState) (s : LoggedService) (is : IsServiceOf c chip s) (taken : c'.log.taken ≡ c.log.taken) (at : (c'.warm ≡ warm.Reconciled) ⊎ (c'.warm ≡ warm.Suspect)) where
  read_then : (w : Write) → IsIn w (sent_writes c'.log.taken) → IsOnSwitch (written_key w)
  read_then = subst (λ (l : List Sent). (w : Write) → IsIn w (sent_writes l) → IsOnSwitch (written_key w)) (sym taken) is.always.read.taken

  pub steps-stand : (ts : List LoggedService) → AreLoggedSteps c.board.plan 4 c.sync.capacities s ts → IsSessionOf c' chip' (session_after s ts) → c'.board.plan ≡ c.board.plan → c'.sync.capacities ≡ c.sync.capacities → IsServiceOf c' chip' (session_after s ts)
  steps-stand ts run stands plan capacities =
      service-of c' chip' (session_after s ts) stands
      (subst (λ p. Holds p 4 c'.sync.capacities (session_after s ts).service) (sym plan)
      (subst (λ l. Holds c.board.plan 4 l (session_after s ts).service) (sym capacities)
      (steps_hold c.board.plan is.always.plan c.sync.capacities s ts is.always.holds run)))
      (steps_number c.board.plan is.always.plan c.sync.capacities s ts is.always.holds is.always.numbers run)
      read_then at

  pub step-next : (x : MakesOne c s c' chip') → (y : MakesNext c s c' chip') × (y.later ≡ x.later)
  step-next x = (
    record {
      later = x.later;
      makes = x.makes;
      stands = steps-stand (x.later ∷ []) (x.makes, tt) x.stands x.plan x.capacities;
      plan = x.plan;
      capacities = x.capacities;
      limit = x.limit;
    },
    refl,
  )

  pub steps-more : (x : MakesSome c s c' chip') → (y : MakesMore 0 c s c' chip') × (y.steps ≡ x.steps)
  steps-more x = (
    record {
      steps = x.steps;
      are = x.are;
      few = x.few;
      stands = steps-stand x.steps x.are x.stands x.plan x.capacities;
      plan = x.plan;
      capacities = x.capacities;
      limit = x.limit;
    },
    refl,
  )
