-- steps one after the other, and the size of the log
use Rattle.std.proofs.Common.{◌≡◌, ◌∷◌, ◌++◌, ◌∙◌, ℕ, [], length, refl, sym, ap, ap₂, subst}
use Rattle.sai_types.specs.ChipState.{ChipState}
use Rattle.switch_model.specs.History.{log_size, size_listing}
use Rattle.restart_laws.specs.Logged.{AreLoggedSteps, LoggedService, session_after}
use Rattle.session_laws.specs.Core.{CoreState, size_beside}
use Rattle.session_laws.proofs.Joining.{after_both, are_both}
use Rattle.session_laws.specs.Service.Events.{MakesMore, MakesNext}
use Rattle.session_laws.specs.Service.Standing.{IsServiceOf}
use Rattle.session_laws.specs.Workers.{StaysByFirst}
use Rattle.session_laws.proofs.ByFirst.{both_stay, none_stay, one_stays, stay_for}

pub none-more : (w : ℕ) (c : CoreState) (chip : ChipState) (s : LoggedService) → IsServiceOf c chip s → MakesMore w c s c chip
none-more w c chip s is = record { steps = []; are = tt; few = none_stay w s; stands = is; plan = refl; capacities = refl; limit = refl }

pub one-more : (w : ℕ) (c c' : CoreState) (chip' : ChipState) (s : LoggedService) (x : MakesNext c s c' chip') → StaysByFirst w s x.later → MakesMore w c s c' chip'
one-more w c c' chip' s x stays = record { steps = x.later ∷ []; are = (x.makes, tt); few = one_stays w s x.later stays; stands = x.stands; plan = x.plan; capacities = x.capacities; limit = x.limit }

pub both-more : (w : ℕ) (c c' c'' : CoreState) (chip' chip'' : ChipState) (s : LoggedService) (x : MakesMore w c s c' chip') → MakesMore w c' (session_after s x.steps) c'' chip'' → MakesMore w c s c'' chip''
both-more w c c' c'' chip' chip'' s x y = record {
  steps = x.steps ++ y.steps;
  are = are_both c.board.plan c.sync.capacities s x.steps y.steps x.are
      (subst (λ p. AreLoggedSteps p 4 c.sync.capacities (session_after s x.steps) y.steps) x.plan
      (subst (λ l. AreLoggedSteps c'.board.plan 4 l (session_after s x.steps) y.steps) x.capacities y.are));
  few = both_stay w s x.steps y.steps x.few y.few;
  stands = subst (IsServiceOf c'' chip'') (sym (after_both s x.steps y.steps)) y.stands;
  plan = y.plan ∙ x.plan;
  capacities = y.capacities ∙ x.capacities;
  limit = y.limit ∙ x.limit;
}

-- steps for the first worker alone are steps for this one
pub more-for : (w : ℕ) (c c' : CoreState) (chip' : ChipState) (s : LoggedService) → MakesMore 0 c s c' chip' → MakesMore w c s c' chip'
more-for w c c' chip' s x = record { steps = x.steps; are = x.are; few = stay_for w s x.steps x.few; stands = x.stands; plan = x.plan; capacities = x.capacities; limit = x.limit }

pub service-sized : (c : CoreState) (chip : ChipState) (s : LoggedService) → IsServiceOf c chip s → size_beside c (length chip.effects) ≡ log_size s.log (length s.effects)
service-sized c chip s is =
    ap (λ n. size_listing n c.log (length chip.effects)) is.always.listed
    ∙ ap₂ (λ h e. log_size h (length e)) (sym is.always.log) (sym is.always.effects)
