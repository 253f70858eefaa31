-- where the core's board stays, the same workers have operations under way
use Rattle.std.proofs.Common.{◌≡◌, ◌∙◌, ℕ, Option, Some, None, refl, sym, ap}
use Rattle.std.proofs.lemmas.Option.{none-some}
use Rattle.sai_types.specs.ChipState.{ChipState}
use Rattle.registry_laws.specs.Flown.{Flown}
use Rattle.restart_laws.specs.Logged.{LoggedService}
use Rattle.flight_board.specs.Board.{BoardState, flown_at}
use Rattle.warm_state.specs.declared.warm.Warm.TheVariants as warm
use Rattle.session_laws.specs.Core.{CoreState}
use Rattle.session_laws.specs.Service.Standing.{IsServiceOf}
use Rattle.session_laws.specs.Workers.{IsByFirst}
use Rattle.session_laws.proofs.ByFirst.{away_stays}

-- a worker that has no operation has nothing under way on the board
unflown : (c : CoreState) (chip : ChipState) (s : LoggedService) → IsServiceOf c chip s → c.warm ≡ warm.Reconciled → (v : ℕ) → s.service.core.machine.board.flights v ≡ None → flown_at c.board v ≡ None
unflown c chip s is at v none = by (flown_at c.board v) refl
  where
    by : (o : Option Flown) → flown_at c.board v ≡ o → flown_at c.board v ≡ None
    by None e = e
    by (Some x) e = absurd (none-some _ (sym none ∙ ((is.working at).1.stands.board.flying v x e).flying))

module _ (c c' : CoreState) (chip chip' : ChipState) (s t : LoggedService) (is : IsServiceOf c chip s) (then : IsServiceOf c' chip' t) where
  pub board-stays : c'.board ≡ c.board → c'.warm ≡ c.warm → (n : ℕ) → IsByFirst n s → IsByFirst n t
  board-stays board same n first = λ at v above.
      let at_then : c'.warm ≡ warm.Reconciled = sym then.always.warm_is ∙ at in
      let at_first : c.warm ≡ warm.Reconciled = sym same ∙ at_then in
      let free = unflown c chip s is at_first v (first (is.always.warm_is ∙ at_first) v above) in
      (then.working at_then).1.stands.board.idle v (ap (λ (b : BoardState). flown_at b v) board ∙ free)

  pub core-away : (c'.warm ≡ warm.Reconciled → ⊥) → (n : ℕ) → IsByFirst n s → IsByFirst n t
  core-away away n = away_stays s t (λ h. away (sym then.always.warm_is ∙ h)) n
