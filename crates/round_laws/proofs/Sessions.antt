-- what holds of a core and its chip within a session
use Rattle.std.proofs.Common.{◌≡◌, ◌⊎◌, ◌+◌, ◌*◌, ◌≤◌, ◌<◌, ◌∷◌, ◌++◌, ◌∙◌, Bool, true, false, ℕ, List, [], length, Option, None, Some, refl, suc, sym, ap, subst, arith}
use Rattle.table_schema.specs.Plan.{IsPlan, Ports}
use Rattle.sai_types.specs.declared.body.Call.{Call}
use Rattle.sai_types.specs.declared.ids.Rid.{Rid}
use Rattle.sai_types.specs.After.{chip_after}
use Rattle.sai_types.specs.ChipState.{ChipState}
use Rattle.switch_model.specs.History.{History, log_size, size_listing}
use Rattle.switch_model.specs.Promises.{EffectsAreLegal, MarksAreTrue}
use Rattle.switch_model.specs.Sound.{AreWithin, is_fault, is_suspect}
use Rattle.switch_model.specs.declared.mark.Mark.{Mark}
use Rattle.switch_model.specs.declared.mark.MarkEvent.{MarkEvent}
use Rattle.switch_model.specs.declared.mark.MarkEvent.TheVariants as event
use Rattle.machine_laws.specs.Bounds.{most_calls}
use Rattle.machine_laws.specs.Order.{IsOrdered}
use Rattle.machine_laws.proofs.Staying.{chip_after-all}
use Rattle.restart_laws.specs.Applied.{AreFollowed}
use Rattle.restart_laws.specs.Bounded.{effects_outside, listed_at_applies}
use Rattle.restart_laws.specs.Logged.{AreLoggedSteps, IsLeftIn, IsWarmAfter, LoggedService, last_mark, new_session, session_after}
use Rattle.restart_laws.proofs.Bounded.{outside-few}
use Rattle.restart_laws.proofs.BrokenOff.{steady-breaks}
use Rattle.restart_laws.proofs.Followed.{log-followed}
use Rattle.restart_laws.proofs.Logged.{IsToldLog, told-first, told-session}
use Rattle.restart_laws.proofs.Routes.{effects-routed}
use Rattle.warm_state.specs.declared.warm.Warm.{Warm}
use Rattle.warm_state.specs.declared.warm.Warm.TheVariants as warm
use Rattle.session_laws.specs.Core.{CoreState, new_core, size_beside}
use Rattle.session_laws.specs.Events.{MakesOne, MakesSome}
use Rattle.session_laws.specs.Standing.{IsSessionOf}
use Rattle.session_laws.specs.Workers.{AreByFirst, IsByFirst}
use Rattle.session_laws.proofs.ByFirst.{after_first, both_first}
use Rattle.session_laws.proofs.Joining.{after_both, are_both}
use Rattle.session_laws.specs.Leading.{LeadsTo}
use Rattle.session_laws.specs.Service.Events.{MakesMore, MakesNext}
use Rattle.session_laws.specs.Service.Standing.{IsServiceOf}
use Rattle.session_laws.proofs.Service.Sessions.{first-service, step-next, steps-more, steps-stand}
use Rattle.round_laws.specs.Sessions.{HasComeAbout, InSession, InSteadySession}

-- ---- steps

-- at its beginning no operation is under way
pub came-first : {workers : ℕ} (plan : Ports) (capacities : List ℕ) (s : LoggedService) → HasComeAbout workers plan capacities s → IsByFirst workers s
came-first {workers} plan capacities s x = subst (IsByFirst workers) x.is (after_first workers new_session x.steps (λ at w above. refl) x.by)

pub came-more : {workers : ℕ} (plan : Ports) (capacities : List ℕ) (s : LoggedService) (ts : List LoggedService) → HasComeAbout workers plan capacities s → AreLoggedSteps plan 4 capacities s ts → AreByFirst workers ts → HasComeAbout workers plan capacities (session_after s ts)
came-more {workers} plan capacities s ts x run few = record {
  steps = x.steps ++ ts;
  are = are_both plan capacities new_session x.steps ts x.are (subst (λ z. AreLoggedSteps plan 4 capacities z ts) (sym x.is) run);
  is = after_both new_session x.steps ts ∙ ap (λ z. session_after z ts) x.is;
  by = both_first workers x.steps ts x.by few;
}

-- the same port plan and capacities
pub came-by : {workers : ℕ} (plan plan' : Ports) (capacities capacities' : List ℕ) (s : LoggedService) → plan' ≡ plan → capacities' ≡ capacities → HasComeAbout workers plan capacities s → HasComeAbout workers plan' capacities' s
came-by {workers} plan plan' capacities capacities' s p l x = subst (λ z. HasComeAbout workers z capacities' s) (sym p) (subst (λ z. HasComeAbout workers plan z s) (sym l) x)

pub begins-session : (workers : ℕ) (plan : Ports) (capacities : List ℕ) (limit : ℕ) (chip : ChipState) → IsPlan plan → chip.objects ≡ [] → chip.effects ≡ [] → chip.clean ≡ true → chip.capacities ≡ capacities → InSession workers (new_core plan capacities limit) chip
begins-session workers plan capacities limit chip is objects effects clean room = record {
  session = new_session;
  came = record { steps = []; are = tt; is = refl; by = tt };
  stands = first-service plan capacities limit chip is objects effects clean room;
}

module _ {workers : ℕ} (c c' : CoreState) (chip chip' : ChipState) (x : InSession workers c chip) where
  -- the core that stands for a later session
  abbrev pub in_later : (later : LoggedService) (ts : List LoggedService) → AreLoggedSteps c.board.plan 4 c.sync.capacities x.session ts → (IsByFirst workers x.session → AreByFirst workers ts) → session_after x.session ts ≡ later → IsServiceOf c' chip' later → c'.board.plan ≡ c.board.plan → c'.sync.capacities ≡ c.sync.capacities → InSession workers c' chip'
  in_later later ts run few same stands plan capacities = record {
    session = later;
    came = subst (HasComeAbout workers c'.board.plan c'.sync.capacities) same
        (came-by c.board.plan c'.board.plan c.sync.capacities c'.sync.capacities (session_after x.session ts) plan capacities (came-more c.board.plan c.sync.capacities x.session ts x.came run (few (came-first c.board.plan c.sync.capacities x.session x.came))));
    stands = stands;
  }

  pub steps-on : (later : LoggedService) (ts : List LoggedService) → AreLoggedSteps c.board.plan 4 c.sync.capacities x.session ts → (IsByFirst workers x.session → AreByFirst workers ts) → session_after x.session ts ≡ later → IsServiceOf c' chip' later → c'.board.plan ≡ c.board.plan → c'.sync.capacities ≡ c.sync.capacities → (z : InSession workers c' chip') × (z.session ≡ later)
  steps-on later ts run few same stands plan capacities = (in_later later ts run few same stands plan capacities, refl)

  pub one-on : (y : MakesNext c x.session c' chip') → (IsByFirst workers x.session → IsByFirst workers y.later) → (z : InSession workers c' chip') × (z.session ≡ y.later)
  one-on y stays = steps-on y.later (y.later ∷ []) (y.makes, tt) (λ first. (stays first, tt)) refl y.stands y.plan y.capacities

  pub some-on : {w : ℕ} → w < workers → (y : MakesMore w c x.session c' chip') → (z : InSession workers c' chip') × (z.session ≡ session_after x.session y.steps)
  some-on less y = steps-on (session_after x.session y.steps) y.steps y.are (y.few workers less) refl y.stands y.plan y.capacities

  pub same-on : IsServiceOf c' chip' x.session → c'.board.plan ≡ c.board.plan → c'.sync.capacities ≡ c.sync.capacities → InSession workers c' chip'
  same-on stands plan capacities = in_later x.session [] tt (λ first. tt) refl stands plan capacities

  -- steps that take no write, to a core that is reconciled or suspect
  module _ (taken : c'.log.taken ≡ c.log.taken) (at : (c'.warm ≡ warm.Reconciled) ⊎ (c'.warm ≡ warm.Suspect)) where
    pub works-one : (y : MakesOne c x.session c' chip') → (IsByFirst workers x.session → IsByFirst workers y.later) → (z : InSession workers c' chip') × (z.session ≡ y.later)
    works-one y stays = let n = step-next c c' chip chip' x.session x.stands taken at y in let z = one-on n.0 (λ first. subst (IsByFirst workers) (sym n.1) (stays first)) in (z.0, z.1 ∙ n.1)

    pub works-some : 0 < workers → (y : MakesSome c x.session c' chip') → (z : InSession workers c' chip') × (z.session ≡ session_after x.session y.steps)
    works-some some y = let n = steps-more c c' chip chip' x.session x.stands taken at y in let z = some-on some n.0 in (z.0, z.1 ∙ ap (session_after x.session) n.1)

    -- the core that they lead to stands for the later session of the service
    pub leads-stand : (later : LoggedService) → LeadsTo c x.session later c' chip' → IsServiceOf c' chip' later
    leads-stand later y = subst (IsServiceOf c' chip') y.is (steps-stand c c' chip chip' x.session x.stands taken at y.steps y.are (subst (IsSessionOf c' chip') (sym y.is) y.stands) y.plan y.capacities)

    pub leads-on : 0 < workers → (later : LoggedService) → LeadsTo c x.session later c' chip' → (z : InSession workers c' chip') × (z.session ≡ later)
    leads-on some later y = steps-on later y.steps y.are (y.few workers some) y.is (leads-stand later y) y.plan y.capacities

-- what so many workers do is done by one more
pub first_wider : (n : ℕ) (steps : List LoggedService) → AreByFirst n steps → AreByFirst (suc n) steps
first_wider n [] h = tt
first_wider n (s ∷ ss) h = ((λ at w above. h.0 at w (omega (arith, above))), first_wider n ss h.1)

abbrev pub by_more : {workers : ℕ} (c : CoreState) (chip : ChipState) → InSession workers c chip → InSession (suc workers) c chip
by_more {workers} c chip x = record { session = x.session; came = record { steps = x.came.steps; are = x.came.are; is = x.came.is; by = first_wider workers x.came.steps x.came.by }; stands = x.stands }

-- ---- what holds of a session that has come about

module _ {workers : ℕ} (plan : Ports) (is : IsPlan plan) (capacities : List ℕ) (s : LoggedService) (x : HasComeAbout workers plan capacities s) where
  pub told : IsToldLog plan is 4 capacities s
  told = subst (IsToldLog plan is 4 capacities) x.is (told-session plan is 4 capacities new_session x.steps (told-first plan is 4 capacities) x.are)

  legality : EffectsAreLegal plan capacities s.log.taken s.effects
  legality = subst (λ z. EffectsAreLegal plan capacities z.log.taken z.effects) x.is (effects-routed plan is 4 capacities x.steps x.are)

  few : effects_outside None s.log.marks (length s.effects) ≤ most_calls * (length s.log.taken + listed_at_applies s.log.marks)
  few = subst (λ z. effects_outside None z.log.marks (length z.effects) ≤ most_calls * (length z.log.taken + listed_at_applies z.log.marks)) x.is (outside-few plan is 4 capacities x.steps x.are)

  applies : AreFollowed plan capacities s.log.taken s.effects s.log.marks
  applies = subst (λ z. AreFollowed plan capacities z.log.taken z.effects z.log.marks) x.is (log-followed plan is 4 capacities x.steps x.are)

-- ---- the last mark

suspect_by : Option Mark → Bool
suspect_by None = false
suspect_by (Some mark) = is_fault mark.event

suspect_last : (mark : Mark) (marks : List Mark) → is_suspect (mark ∷ marks) ≡ suspect_by (last_mark (Some mark) marks)
unfolding suspect_by
suspect_last mark [] = refl
suspect_last mark (next ∷ marks) = suspect_last next marks

suspect_is : (marks : List Mark) → is_suspect marks ≡ suspect_by (last_mark None marks)
unfolding suspect_by
suspect_is [] = refl
suspect_is (mark ∷ marks) = suspect_last mark marks

fault_left : (e : MarkEvent) (w : Warm) → IsLeftIn e w → is_fault e ≡ true → w ≡ warm.Suspect
fault_left (event.Faulted before after) w left h = left
fault_left (event.Settled waits turns) w left h = absurd cc
fault_left event.Restarted w left h = absurd cc
fault_left (event.ApplyBegan mode waits) w left h = absurd cc
fault_left event.ApplyEnded w left h = absurd cc

known_left : (e : MarkEvent) (w : Warm) → IsLeftIn e w → (w ≡ warm.Suspect → ⊥) → is_fault e ≡ false
known_left (event.Faulted before after) w left not = absurd (not left)
known_left (event.Settled waits turns) w left not = refl
known_left event.Restarted w left not = refl
known_left (event.ApplyBegan mode waits) w left not = refl
known_left event.ApplyEnded w left not = refl

suspect_warm : (o : Option Mark) (w : Warm) → IsWarmAfter o w → suspect_by o ≡ true → w ≡ warm.Suspect
unfolding suspect_by
suspect_warm None w left h = absurd cc
suspect_warm (Some mark) w left h = fault_left mark.event w left h

known_warm : (o : Option Mark) (w : Warm) → IsWarmAfter o w → (w ≡ warm.Suspect → ⊥) → suspect_by o ≡ false
unfolding suspect_by
known_warm None w left not = refl
known_warm (Some mark) w left not = known_left mark.event w left not

-- ---- of the core and its chip

module _ {workers : ℕ} (c : CoreState) (chip : ChipState) (x : InSession workers c chip) where
  abbrev plan : Ports
  plan = c.board.plan

  abbrev room : List ℕ
  room = c.sync.capacities

  abbrev pub its_plan : IsPlan c.board.plan
  its_plan = x.stands.always.plan

  abbrev pub told_of : IsToldLog c.board.plan its_plan 4 c.sync.capacities x.session
  told_of = told plan its_plan room x.session x.came

  carried : (P : History → List (Call Rid) → Type 0) → P x.session.log x.session.effects → P c.log chip.effects
  carried P h = subst (λ z. P z chip.effects) x.stands.always.log (subst (P x.session.log) x.stands.always.effects h)

  pub effects-legal : EffectsAreLegal c.board.plan c.sync.capacities c.log.taken chip.effects
  effects-legal = carried (λ h es. EffectsAreLegal plan room h.taken es) (legality plan its_plan room x.session x.came)

  pub marks-true : MarksAreTrue c.board.plan c.sync.capacities c.log chip.effects
  marks-true = carried (MarksAreTrue plan room) told_of.tells.marks

  pub counts-within : AreWithin (length c.log.taken) (length chip.effects) c.log.marks
  counts-within = carried (λ h es. AreWithin (length h.taken) (length es) h.marks) told_of.tells.within

  pub log-ordered : IsOrdered c.log
  log-ordered = subst IsOrdered x.stands.always.log told_of.ordered

  pub warm-after : IsWarmAfter (last_mark None c.log.marks) c.warm
  warm-after = subst (λ (z : History). IsWarmAfter (last_mark None z.marks) c.warm) x.stands.always.log (subst (IsWarmAfter (last_mark None x.session.log.marks)) x.stands.always.warm_is told_of.warm)

  pub suspect-then : is_suspect c.log.marks ≡ true → c.warm ≡ warm.Suspect
  suspect-then h = suspect_warm (last_mark None c.log.marks) c.warm warm-after (sym (suspect_is c.log.marks) ∙ h)

  pub known-then : (c.warm ≡ warm.Suspect → ⊥) → is_suspect c.log.marks ≡ false
  known-then not = suspect_is c.log.marks ∙ known_warm (last_mark None c.log.marks) c.warm warm-after not

  pub objects-left : chip.objects ≡ chip_after chip.effects (length chip.effects)
  objects-left = sym x.stands.always.objects ∙ told_of.tells.objects ∙ sym (chip_after-all x.session.effects) ∙ again
    where
      again : chip_after x.session.effects (length x.session.effects) ≡ chip_after chip.effects (length chip.effects)
      again = ap (λ (es : List (Call Rid)). chip_after es (length es)) x.stands.always.effects

  pub sized : size_beside c (length chip.effects) ≡ log_size c.log (length chip.effects)
  sized = ap (λ n. size_listing n c.log (length chip.effects)) x.stands.always.listed

  pub outside-few-of : effects_outside None c.log.marks (length chip.effects) ≤ most_calls * (length c.log.taken + listed_at_applies c.log.marks)
  outside-few-of = carried (λ h es. effects_outside None h.marks (length es) ≤ most_calls * (length h.taken + listed_at_applies h.marks)) (few plan its_plan room x.session x.came)

  pub applies-followed : AreFollowed c.board.plan c.sync.capacities c.log.taken chip.effects c.log.marks
  applies-followed = carried (λ h es. AreFollowed plan room h.taken es h.marks) (applies plan its_plan room x.session x.came)

-- ---- whatever a call of the core answers

-- in a session applies that are broken off one after the other are steady
pub steady-session : {workers : ℕ} (c : CoreState) (chip : ChipState) → InSession workers c chip → InSteadySession workers c chip
steady-session c chip x = record { within = x; breaks = steady-breaks c.board.plan c.sync.capacities c.log.taken chip.effects c.log.marks (applies-followed c chip x) }

-- where steps lead on from whichever session core and chip stand for, they are in one still
pub steady-on : (w workers : ℕ) → w < workers → (c c' : CoreState) (chip chip' : ChipState) → ((s : LoggedService) → IsServiceOf c chip s → MakesMore w c s c' chip') → InSession workers c chip → InSteadySession workers c' chip'
steady-on w workers less c c' chip chip' on x = steady-session c' chip' (some-on c c' chip chip' x less (on x.session x.stands)).0
