-- answers, one after the other
use Rattle.std.proofs.Common.{◌≡◌, ◌∷◌, ◌++◌, ◌∙◌, List, [], Some, refl, sym, ap, subst}
use Rattle.std.proofs.lemmas.List.{append-nil, map-append}
use Rattle.table_schema.specs.Plan.{Ports}
use Rattle.sai_types.specs.ChipState.{ChipState}
use Rattle.sai_types.specs.declared.body.Call.{Call}
use Rattle.sai_types.specs.declared.ids.Rid.{Rid}
use Rattle.switch_machine.specs.Events.{AreAnswers, IsAnswer, SwitchState, after_answers}
use Rattle.restart_laws.specs.Logged.{LoggedService}
use Rattle.session_laws.specs.Core.{CoreState}
use Rattle.session_laws.specs.Events.{IsMachineStep, MakesOne}
use Rattle.session_laws.specs.Standing.{IsSessionOf}
use Rattle.session_laws.specs.Leading.{RunsTo, calls_in}
use Rattle.session_laws.proofs.ByFirst.{answer_stays, by_any}
use Rattle.session_laws.proofs.Settling.Leading.{grown, leads_more, leads_none, leads_one}

pub answered_both : (s : SwitchState) (xs ys : List (Call Rid × SwitchState)) → after_answers s (xs ++ ys) ≡ after_answers (after_answers s xs) ys
answered_both s [] ys = refl
answered_both s (x ∷ xs) ys = answered_both x.1 xs ys

pub answers_both : (plan : Ports) (s : SwitchState) (xs ys : List (Call Rid × SwitchState)) → AreAnswers plan 4 s xs → AreAnswers plan 4 (after_answers s xs) ys → AreAnswers plan 4 s (xs ++ ys)
answers_both plan s [] ys a b = b
answers_both plan s (x ∷ xs) ys a b = (a.0, answers_both plan x.1 xs ys a.1 b)

abbrev pub runs_none : (c : CoreState) (chip : ChipState) (s : LoggedService) → IsSessionOf c chip s → RunsTo c s c chip
runs_none c chip s is = record { later = s; leads = leads_none c chip s is; answers = []; are = tt; core = refl; effects = sym (append-nil s.effects); log = refl }

abbrev runs_one : (c c' : CoreState) (chip' : ChipState) (s : LoggedService) (y : MakesOne c s c' chip') (e : Call Rid) → IsAnswer c.board.plan 4 e s.service.core y.later.service.core → IsMachineStep s (Some e) y.later → RunsTo c s c' chip'
runs_one c c' chip' s y e z step = record {
  later = y.later;
  leads = leads_one c c' chip' s y (by_any 0 s y.later (answer_stays s y.later (ap (λ (t : LoggedService). t.service.warm) step) c.board.plan 4 e z));
  answers = (e, y.later.service.core) ∷ [];
  are = (z, tt);
  core = refl;
  effects = ap (λ (t : LoggedService). t.effects) step;
  log = ap (λ (t : LoggedService). t.log) step;
}

abbrev pub runs_both : (c c' c'' : CoreState) (chip' chip'' : ChipState) (s : LoggedService) (x : RunsTo c s c' chip') (y : RunsTo c' x.later c'' chip'') → RunsTo c s c'' chip''
runs_both c c' c'' chip' chip'' s x y = record {
  later = y.later;
  leads = leads_more c c' c'' chip' chip'' s x.later y.later x.leads y.leads;
  answers = x.answers ++ y.answers;
  are = answers_both c.board.plan s.service.core x.answers y.answers x.are
      (subst (λ z. AreAnswers c.board.plan 4 z y.answers) x.core (subst (λ p. AreAnswers p 4 x.later.service.core y.answers) x.leads.plan y.are));
  core = y.core ∙ ap (λ z. after_answers z y.answers) x.core ∙ sym (answered_both s.service.core x.answers y.answers);
  effects =
      grown s.effects x.later.effects y.later.effects (calls_in x.answers) (calls_in y.answers) x.effects y.effects
      ∙ ap (λ l. s.effects ++ l) (sym (map-append (λ (a : Call Rid × SwitchState). a.0) x.answers y.answers));
  log = y.log ∙ x.log;
}

abbrev pub runs_more : (c c' c'' : CoreState) (chip' chip'' : ChipState) (s : LoggedService) (x : RunsTo c s c' chip') (y : MakesOne c' x.later c'' chip'') (e : Call Rid) → IsAnswer c'.board.plan 4 e x.later.service.core y.later.service.core → IsMachineStep x.later (Some e) y.later → RunsTo c s c'' chip''
runs_more c c' c'' chip' chip'' s x y e z step = runs_both c c' c'' chip' chip'' s x (runs_one c' c'' chip'' x.later y e z step)
