-- what is told of an answer, where its value is left out, and of the places that are needed
use Rattle.std.proofs.Common.{◌≡◌, Bool, true, false, Result, Ok, Err, OnOk, OnErr, IfErr, if◌then◌else◌, refl, sym, subst}
use Rattle.std.specs.Result.{result_and}

module _ {A W : Type 0} (r : Result A W) (a : Result (Unit {0}) W) (is : a ≡ result_and r (Ok tt)) where
  pub told-ok : (P : Type 0) → OnOk r P → OnOk a P
  told-ok P h = subst (λ x. OnOk x P) (sym is) (elim r as (λ r. OnOk r P → OnOk (result_and r (Ok tt)) P) [ Ok x ↦ λ h. h | Err w ↦ λ h. h ] h)

  pub told-same : (P : Type 0) → OnErr r P → OnErr a P
  told-same P h = subst (λ x. OnErr x P) (sym is) (elim r as (λ r. OnErr r P → OnErr (result_and r (Ok tt)) P) [ Ok x ↦ λ h. h | Err w ↦ λ h. h ] h)

  pub told-err : (P : W → Type 0) → IfErr r P → IfErr a P
  told-err P h = subst (λ x. IfErr x P) (sym is) (elim r as (λ r. IfErr r P → IfErr (result_and r (Ok tt)) P) [ Ok x ↦ λ h. h | Err w ↦ λ h. h ] h)

-- what is chosen of two by whether something is built
pub chosen : {X : Type 0} (f : Bool → X) (b : Bool) → (if b then f true else f false) ≡ f b
chosen f true = refl
chosen f false = refl
