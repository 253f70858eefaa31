-- steps that lead to a later session, one after the other
use Rattle.std.proofs.Common.{◌≡◌, ◌∷◌, ◌++◌, ◌∙◌, ℕ, List, [], refl, sym, ap, subst}
use Rattle.std.proofs.lemmas.List.{append_assoc}
use Rattle.table_schema.specs.Plan.{Ports}
use Rattle.sai_types.specs.ChipState.{ChipState}
use Rattle.restart_laws.specs.Logged.{AreLoggedSteps, LoggedService, session_after}
use Rattle.session_laws.specs.Core.{CoreState}
use Rattle.session_laws.specs.Events.{MakesOne, MakesSome}
use Rattle.session_laws.specs.Standing.{IsSessionOf}
use Rattle.session_laws.specs.Workers.{StayByFirst, StaysByFirst}
use Rattle.session_laws.proofs.ByFirst.{both_stay, none_stay, one_stays}
use Rattle.session_laws.proofs.Joining.{after_both, are_both}
use Rattle.session_laws.specs.Leading.{LeadsTo}

-- what is so of the later port plan and capacities is so of the first ones, and the other way round
pub plan_led_back : {c c' : CoreState} {s t : LoggedService} {chip' : ChipState} (P : Ports → List ℕ → Type 0) → LeadsTo c s t c' chip' → P c'.board.plan c'.sync.capacities → P c.board.plan c.sync.capacities
plan_led_back {c} {c'} P x h = subst (λ p. P p c.sync.capacities) x.plan (subst (P c'.board.plan) x.capacities h)

pub ahead : {c c' : CoreState} {s t : LoggedService} {chip' : ChipState} (P : Ports → List ℕ → Type 0) → LeadsTo c s t c' chip' → P c.board.plan c.sync.capacities → P c'.board.plan c'.sync.capacities
ahead {c} {c'} P x h = subst (λ p. P p c'.sync.capacities) (sym x.plan) (subst (P c.board.plan) (sym x.capacities) h)

-- what grew twice
pub grown : {X : Type 0} (first mid last more others : List X) → mid ≡ first ++ more → last ≡ mid ++ others → last ≡ first ++ (more ++ others)
grown first mid last more others one two = two ∙ ap (λ l. l ++ others) one ∙ append_assoc first more others

-- no step leads to another core that stands for the same session
pub leads_still : (c c' : CoreState) (chip : ChipState) (s : LoggedService) → IsSessionOf c' chip s → c'.board.plan ≡ c.board.plan → c'.sync.capacities ≡ c.sync.capacities → c'.limit ≡ c.limit → LeadsTo c s s c' chip
leads_still c c' chip s is plan capacities limit = record { steps = []; are = tt; few = none_stay 0 s; is = refl; stands = is; plan = plan; capacities = capacities; limit = limit }

pub leads_none : (c : CoreState) (chip : ChipState) (s : LoggedService) → IsSessionOf c chip s → LeadsTo c s s c chip
leads_none c chip s is = leads_still c c chip s is refl refl refl

pub leads_one : (c c' : CoreState) (chip' : ChipState) (s : LoggedService) (x : MakesOne c s c' chip') → StaysByFirst 0 s x.later → LeadsTo c s x.later c' chip'
leads_one c c' chip' s x stays = record { steps = x.later ∷ []; are = (x.makes, tt); few = one_stays 0 s x.later stays; is = refl; stands = x.stands; plan = x.plan; capacities = x.capacities; limit = x.limit }

pub leads_more : (c c' c'' : CoreState) (chip' chip'' : ChipState) (s t u : LoggedService) → LeadsTo c s t c' chip' → LeadsTo c' t u c'' chip'' → LeadsTo c s u c'' chip''
leads_more c c' c'' chip' chip'' s t u x y = record {
  steps = x.steps ++ y.steps;
  are = are_both c.board.plan c.sync.capacities s x.steps y.steps x.are
      (subst (λ z. AreLoggedSteps c.board.plan 4 c.sync.capacities z y.steps) (sym x.is) (plan_led_back (λ p l. AreLoggedSteps p 4 l t y.steps) x y.are));
  few = both_stay 0 s x.steps y.steps x.few (subst (λ z. StayByFirst 0 z y.steps) (sym x.is) y.few);
  is = after_both s x.steps y.steps ∙ ap (λ z. session_after z y.steps) x.is ∙ y.is;
  stands = y.stands;
  plan = y.plan ∙ x.plan;
  capacities = y.capacities ∙ x.capacities;
  limit = y.limit ∙ x.limit;
}

pub leads_some : (c c' : CoreState) (chip' : ChipState) (s t : LoggedService) → LeadsTo c s t c' chip' → MakesSome c s c' chip'
leads_some c c' chip' s t x = record { steps = x.steps; are = x.are; few = x.few; stands = subst (IsSessionOf c' chip') (sym x.is) x.stands; plan = x.plan; capacities = x.capacities; limit = x.limit }
