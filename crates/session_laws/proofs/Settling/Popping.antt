-- pops, one after the other
use Rattle.std.proofs.Common.{◌≡◌, ◌∷◌, ◌++◌, ◌∙◌, List, [], None, refl, sym, ap, subst}
use Rattle.std.proofs.lemmas.List.{append-nil}
use Rattle.sai_types.specs.ChipState.{ChipState}
use Rattle.switch_machine.specs.Events.{IsPop, SwitchState}
use Rattle.machine_laws.specs.Logged.{ArePops, after_pops}
use Rattle.restart_laws.specs.Logged.{LoggedService}
use Rattle.session_laws.specs.Core.{CoreState}
use Rattle.session_laws.specs.Events.{IsMachineStep, MakesOne}
use Rattle.session_laws.specs.Standing.{IsSessionOf}
use Rattle.session_laws.specs.Leading.{PopsTo}
use Rattle.session_laws.proofs.ByFirst.{by_any, same_machine_stays}
use Rattle.session_laws.proofs.Settling.Leading.{leads_more, leads_none, leads_one}

popped_one : (s : SwitchState) (xs : List SwitchState) (t : SwitchState) → after_pops s (xs ++ t ∷ []) ≡ t
popped_one s [] t = refl
popped_one s (x ∷ xs) t = popped_one x xs t

pops_one : (s : SwitchState) (xs : List SwitchState) (t : SwitchState) → ArePops s xs → IsPop (after_pops s xs) t → ArePops s (xs ++ t ∷ [])
pops_one s [] t a b = (b, tt)
pops_one s (x ∷ xs) t a b = (a.0, pops_one x xs t a.1 b)

-- the machine stays
pub machine_stays : (s : SwitchState) (xs : List SwitchState) → ArePops s xs → (after_pops s xs).machine ≡ s.machine
machine_stays s [] a = refl
machine_stays s (x ∷ xs) a = machine_stays x xs a.1 ∙ a.0.machine

pub pops_none : (c : CoreState) (chip : ChipState) (s : LoggedService) → IsSessionOf c chip s → PopsTo c s c chip
pops_none c chip s is = record { later = s; leads = leads_none c chip s is; pops = []; are = tt; core = refl; effects = refl; log = refl }

pub pops_more : (c c' c'' : CoreState) (chip' chip'' : ChipState) (s : LoggedService) (x : PopsTo c s c' chip') (y : MakesOne c' x.later c'' chip'') → IsPop x.later.service.core y.later.service.core → IsMachineStep x.later None y.later → PopsTo c s c'' chip''
pops_more c c' c'' chip' chip'' s x y pop step = record {
  later = y.later;
  leads = leads_more c c' c'' chip' chip'' s x.later y.later x.leads (leads_one c' c'' chip'' x.later y (by_any 0 x.later y.later (same_machine_stays x.later y.later (ap (λ (t : LoggedService). t.service.warm) step) pop.machine)));
  pops = x.pops ++ y.later.service.core ∷ [];
  are = pops_one s.service.core x.pops y.later.service.core x.are (subst (λ z. IsPop z y.later.service.core) x.core pop);
  core = sym (popped_one s.service.core x.pops y.later.service.core);
  effects = ap (λ (t : LoggedService). t.effects) step ∙ append-nil x.later.effects ∙ x.effects;
  log = ap (λ (t : LoggedService). t.log) step ∙ x.log;
}
