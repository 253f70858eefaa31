-- a plan's call that failed, and one that did not
use Rattle.std.proofs.Common.{◌≡◌, ℕ, suc, ◌<◌, List, ◌∷◌, length, get_or, drop, drop-cons, refl, sym, ap, ap₂, ◌∙◌, subst}
use Rattle.sai_types.specs.declared.answer.ChipAnswer.TheVariants as answer
use Rattle.sai_types.specs.declared.plan.PlanCall.{PlanCall}
use Rattle.sai_types.specs.ChipState.{ChipState, IsAnswered}
use Rattle.chip_layout.specs.Renamed.{call_renamed}
use Rattle.asic_view.specs.View.{ViewObjects}
use Rattle.syncd_core.specs.Synced.{Applies, IsApplied, SyncState, Ties, answer_by, applied, step_after}
use Rattle.syncd_core.specs.Tied.{plan_tie}
use Rattle.syncd_core.specs.declared.answer.ApplyStep.{ApplyStep}
use Rattle.syncd_core.specs.declared.answer.ApplyStep.TheVariants as step
use Rattle.syncd_core.specs.declared.made.Made.{Made}
use Rattle.syncd_core.specs.declared.made.Made.TheVariants as made

-- the rest of the plan is as it was
pub failed-applied : (s : SyncState) (chip chip' : ChipState) (plan : List PlanCall) (i : ℕ) (c : PlanCall) (view : ViewObjects) → i < length plan → c ≡ get_or plan i c → s.left ≡ drop i plan → view ≡ s.view → IsAnswered chip (call_renamed (plan_tie s.view) c.call) answer.Failed chip' → Applies s.left s chip step.Failed (applied s view (drop i plan)) chip'
failed-applied s chip chip' plan i c view within next left same answered =
    let here : drop i plan ≡ c ∷ drop (suc i) plan = drop-cons plan i c within ∙ ap (λ z. z ∷ drop (suc i) plan) (sym next) in
    subst (λ l. Applies l s chip step.Failed (applied s view (drop i plan)) chip') (sym (left ∙ here))
    (record { answer = answer.Failed; answered = answered; view = s.view; ties = refl; later = ap₂ (applied s) same here; step = refl })

-- of the rest one call less is left
pub went-applied : (s : SyncState) (chip chip' : ChipState) (plan : List PlanCall) (i n : ℕ) (c : PlanCall) (view : ViewObjects) (m : Made) (a : ApplyStep) → i < length plan → n ≡ suc i → c ≡ get_or plan i c → s.left ≡ drop i plan → (m ≡ made.Failed → ⊥) → IsAnswered chip (call_renamed (plan_tie s.view) c.call) (answer_by m) chip' → Ties s.view c (answer_by m) view → a ≡ step_after (drop n plan) → Applies s.left s chip a (applied s view (drop n plan)) chip'
went-applied s chip chip' plan i n c view m a within further next left went answered ties ended =
    let here : drop i plan ≡ c ∷ drop n plan = drop-cons plan i c within ∙ ap₂ (λ z k. z ∷ drop k plan) (sym next) (sym further) in
    subst (λ l. Applies l s chip a (applied s view (drop n plan)) chip') (sym (left ∙ here)) (by m went answered ties)
  where
    by : (m : Made) → (m ≡ made.Failed → ⊥) → IsAnswered chip (call_renamed (plan_tie s.view) c.call) (answer_by m) chip' → Ties s.view c (answer_by m) view → IsApplied s chip c (drop n plan) a (applied s view (drop n plan)) chip'
    by (made.Object r) went answered ties = record { answer = answer.Made r; answered = answered; view = view; ties = ties; later = refl; step = ended }
    by made.Done went answered ties = record { answer = answer.Done; answered = answered; view = view; ties = ties; later = refl; step = ended }
    by made.Failed went answered ties = absurd (went refl)
