-- steps one after the other
use Rattle.std.proofs.Common.{◌≡◌, ◌∷◌, ◌++◌, ◌∙◌, ℕ, List, [], refl, sym, subst}
use Rattle.table_schema.specs.Plan.{Ports}
use Rattle.sai_types.specs.ChipState.{ChipState}
use Rattle.restart_laws.specs.Logged.{AreLoggedSteps, LoggedService, session_after}
use Rattle.session_laws.specs.Core.{CoreState}
use Rattle.session_laws.specs.Events.{MakesOne, MakesSome}
use Rattle.session_laws.specs.Standing.{IsSessionOf}
use Rattle.session_laws.specs.Workers.{StaysByFirst}
use Rattle.session_laws.proofs.ByFirst.{both_stay, none_stay, one_stays}

pub after_both : (s : LoggedService) (xs ys : List LoggedService) → session_after s (xs ++ ys) ≡ session_after (session_after s xs) ys
after_both s [] ys = refl
after_both s (x ∷ xs) ys = after_both x xs ys

pub are_both : (plan : Ports) (capacities : List ℕ) (s : LoggedService) (xs ys : List LoggedService) → AreLoggedSteps plan 4 capacities s xs → AreLoggedSteps plan 4 capacities (session_after s xs) ys → AreLoggedSteps plan 4 capacities s (xs ++ ys)
are_both plan capacities s [] ys a b = b
are_both plan capacities s (x ∷ xs) ys a b = (a.0, are_both plan capacities x xs ys a.1 b)

pub no_step : (c : CoreState) (chip : ChipState) (s : LoggedService) → IsSessionOf c chip s → MakesSome c s c chip
no_step c chip s is = record { steps = []; are = tt; few = none_stay 0 s; stands = is; plan = refl; capacities = refl; limit = refl }

pub one_step : (c c' : CoreState) (chip' : ChipState) (s : LoggedService) (x : MakesOne c s c' chip') → StaysByFirst 0 s x.later → MakesSome c s c' chip'
one_step c c' chip' s x stays = record { steps = x.later ∷ []; are = (x.makes, tt); few = one_stays 0 s x.later stays; stands = x.stands; plan = x.plan; capacities = x.capacities; limit = x.limit }

pub more_steps : (c c' c'' : CoreState) (chip' chip'' : ChipState) (s : LoggedService) (x : MakesSome c s c' chip') → MakesSome c' (session_after s x.steps) c'' chip'' → MakesSome c s c'' chip''
more_steps c c' c'' chip' chip'' s x y = record {
  steps = x.steps ++ y.steps;
  are = are_both c.board.plan c.sync.capacities s x.steps y.steps x.are
      (subst (λ p. AreLoggedSteps p 4 c.sync.capacities (session_after s x.steps) y.steps) x.plan
      (subst (λ l. AreLoggedSteps c'.board.plan 4 l (session_after s x.steps) y.steps) x.capacities y.are));
  few = both_stay 0 s x.steps y.steps x.few y.few;
  stands = subst (IsSessionOf c'' chip'') (sym (after_both s x.steps y.steps)) y.stands;
  plan = y.plan ∙ x.plan;
  capacities = y.capacities ∙ x.capacities;
  limit = y.limit ∙ x.limit;
}
