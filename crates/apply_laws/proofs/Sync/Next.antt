-- each next call of a plan is legal by the ties of its moment
use Rattle.std.proofs.Common.{◌≡◌, ℕ, ◌+◌, ◌++◌, List, [], ◌∷◌, refl, ap, ◌∙◌, subst}
use Rattle.sai_types.specs.declared.ids.Rid.{Rid}
use Rattle.sai_types.specs.declared.body.Call.{Call}
use Rattle.sai_types.specs.declared.plan.PlanCall.{PlanCall}
use Rattle.sai_types.specs.After.{after_call, after_calls}
use Rattle.sai_types.specs.Made.{AreLegal, made_after}
use Rattle.sai_types.specs.Objects.{Objects}
use Rattle.sai_types.specs.Refusal.{IsLegal}
use Rattle.chip_layout.specs.Renamed.{call_renamed}
use Rattle.asic_view.specs.View.{ViewObjects}
use Rattle.syncd_core.specs.Run.{made_by, tied_after, tied_calls, view_by}
use Rattle.syncd_core.specs.Tied.{plan_tie}
use Rattle.apply_laws.proofs.Order.Called.{made_all}

tied_append : (xs ys : List PlanCall) (made : ℕ) (view : ViewObjects) → tied_calls made view (xs ++ ys) ≡ tied_calls made view xs ++ tied_calls (made_all made xs) (tied_after made view xs) ys
tied_append [] ys made view = refl
tied_append (x ∷ xs) ys made view = ap (λ l. call_renamed (plan_tie view) x.call ∷ l) (tied_append xs ys (made_by made x) (view_by made view x))

legal_at : (capacities : List ℕ) (xs ys : List (Call Rid)) (c : Call Rid) (made : ℕ) (objects : Objects) → AreLegal capacities made objects (xs ++ (c ∷ ys)) → IsLegal capacities (after_calls made objects xs) c
legal_at capacities [] ys c made objects h = h.0
legal_at capacities (x ∷ xs) ys c made objects h = legal_at capacities xs ys c (made_after made x) (after_call (made + 1) objects x) h.1

pub next-legal : (capacities : List ℕ) (made : ℕ) (objects : Objects) (view : ViewObjects) (calls front rest : List PlanCall) (c : PlanCall) → calls ≡ front ++ (c ∷ rest) → AreLegal capacities made objects (tied_calls made view calls) → IsLegal capacities (after_calls made objects (tied_calls made view front)) (call_renamed (plan_tie (tied_after made view front)) c.call)
next-legal capacities made objects view calls front rest c cut legal =
    legal_at capacities (tied_calls made view front) (tied_calls (made_by (made_all made front) c) (view_by (made_all made front) (tied_after made view front) c) rest) (call_renamed (plan_tie (tied_after made view front)) c.call) made objects
    (subst (AreLegal capacities made objects) (ap (tied_calls made view) cut ∙ tied_append front (c ∷ rest) made view) legal)
