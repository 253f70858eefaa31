-- What becomes of the ties of a view in a call. Own.
use Rattle.std.specs.Prelude.{◌≡◌, ℕ, ◌+◌, true, false, Some, None}
use Rattle.sai_types.specs.declared.answer.ChipAnswer.{ChipAnswer}
use Rattle.sai_types.specs.declared.answer.ChipAnswer.TheVariants as answer
use Rattle.sai_types.specs.declared.answer.SyncAnswer.{SyncAnswer}
use Rattle.sai_types.specs.declared.answer.SyncAnswer.TheVariants as sync
use Rattle.sai_types.specs.declared.body.Call.{Call}
use Rattle.sai_types.specs.declared.body.Call.TheVariants as call
use Rattle.sai_types.specs.declared.body.Entry.TheVariants as entry
use Rattle.sai_types.specs.declared.ids.Rid.{Rid}
use Rattle.sai_types.specs.declared.ids.Vid.{Vid}
use Rattle.sai_types.specs.After.{makes_id}
use Rattle.asic_view.specs.View.{IsNew, ViewObjects, rid_at}

-- a chip that has made so many identifiers made the call, and gave its next number to what has an identifier
abbrev pub IsDone : ℕ → Call Rid → ChipAnswer → Type 0
IsDone made c (answer.Made r) = (makes_id c ≡ true) × (r.0 ≡ made + 1)
IsDone made c answer.Done = makes_id c ≡ false
IsDone made c _ = ⊥

-- each identifier is tied as before
abbrev pub AreTiedAlike : ViewObjects → ViewObjects → Type 0
AreTiedAlike view view' = (w : Vid) → rid_at view' w ≡ rid_at view w

-- one that is new is tied, and the others are as before
pub record GainsTie (view : ViewObjects) (v : Vid) (r : Rid) (view' : ViewObjects) : Type 0 where
  pub new : IsNew v view
  pub none : rid_at view v ≡ None
  pub tied : rid_at view' v ≡ Some r
  pub others : (w : Vid) → (w ≡ v → ⊥) → rid_at view' w ≡ rid_at view w

-- one is tied no longer, and the others are as before
pub record LosesTie (view : ViewObjects) (v : Vid) (view' : ViewObjects) : Type 0 where
  pub none : rid_at view' v ≡ None
  pub others : (w : Vid) → (w ≡ v → ⊥) → rid_at view' w ≡ rid_at view w

-- after a call that the chip answered so
abbrev pub TiesFollow : ViewObjects → Call Vid → ChipAnswer → SyncAnswer → ViewObjects → Type 0
TiesFollow view (call.Create b) (answer.Made r) a view' = (v : Vid) × (a ≡ sync.Made v) × GainsTie view v r view'
TiesFollow view (call.Remove (entry.Oid v)) answer.Done a view' = LosesTie view v view'
TiesFollow view c _ a view' = AreTiedAlike view view'
