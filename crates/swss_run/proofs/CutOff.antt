-- the calls of a round that did not end, or that a fault ended, are those of its turns so far
use Rattle.std.proofs.Common.{◌≡◌, ◌⊎◌, ◌∷◌, ◌++◌, ◌∙◌, inl, inr, List, [], Option, Some, sym, ap, subst}
use Rattle.std.proofs.lemmas.List.{append-nil, append_assoc, append_cancel_left}
use Rattle.table_schema.specs.declared.write.Sent.{Sent}
use Rattle.sai_types.specs.ChipState.{ChipState}
use Rattle.sai_types.specs.declared.ids.Rid.{Rid}
use Rattle.sai_types.specs.declared.body.Call.{Call}
use Rattle.switch_model.specs.declared.mark.Mark.{Mark}
use Rattle.switch_machine.specs.Events.{SwitchState, after_answers}
use Rattle.machine_laws.specs.Logged.{IsSettlingSoFar}
use Rattle.machine_laws.proofs.Alone.{AreTried, DueCall, NoCall}
use Rattle.flight_board.specs.Board.{BoardState}
use Rattle.syncd_core.specs.Synced.{SyncState}
use Rattle.session_laws.specs.Core.{CoreState}
use Rattle.session_laws.specs.Leading.{calls_in, with_calls}
use Rattle.round_laws.specs.Between.{IsInRound, round_from}
use Rattle.round_laws.specs.Turns.{IsMadeSoFar}
use Rattle.round_laws.proofs.Cut.{made-so-far}
use Rattle.round_laws.proofs.Turned.{before, no-answers, round-quiet}
use Rattle.orch_core.specs.Settled.{AreByWorkers, BehindThem, InAnswers, SettlesSoFar, StopsFaulted}
use Rattle.orch_core.proofs.Runs.{by_are}

module _ (since : Option Mark) (old : CoreState) (chip : ChipState) (sent : List Sent) (c : CoreState) (x : IsInRound 1 since old chip sent c) where
  abbrev core : SwitchState
  core = before since old c chip sent x

  -- in the words of the round's beginning
  abbrev MadeSo : List (Call Rid) → Mark → Type 0
  MadeSo calls mark = IsMadeSoFar old.board.plan old.sync.capacities (round_from since old chip sent calls mark)

  as_old : (calls : List (Call Rid)) (mark : Mark) → IsMadeSoFar c.board.plan c.sync.capacities (round_from since old chip sent calls mark) → MadeSo calls mark
  as_old calls mark h =
      subst (λ (b : BoardState). IsMadeSoFar b.plan old.sync.capacities (round_from since old chip sent calls mark)) x.board
      (subst (λ (y : SyncState). IsMadeSoFar c.board.plan y.capacities (round_from since old chip sent calls mark)) x.sync h)

  -- no worker had anything under way
  none_given : (answers : List (Call Rid × SwitchState)) → AreByWorkers c.board.plan 0 4 core answers → answers ≡ []
  none_given answers run = no-answers c.board.plan core answers (round-quiet since old c chip sent x) (by_are c.board.plan 0 4 core answers run)

  no_call : (call : Call Rid) (t : SwitchState) → t ≡ core → AreTried 4 t (call ∷ []) → ⊥
  no_call call t same (DueCall _ due) = round-quiet since old c chip sent x due.worker due.flight (subst (λ (z : SwitchState). z.machine.board.flights due.worker ≡ Some due.flight) same due.flying)

  in_answers : (t : SwitchState) (calls failed : List (Call Rid)) → t ≡ core → calls ≡ [] → AreTried 4 t failed → calls ++ failed ≡ []
  in_answers t calls _ same none NoCall = append-nil calls ∙ none
  in_answers t calls _ same none (DueCall call due) = absurd (no_call call t same (DueCall call due))

  pub cut-off : (t : SwitchState) (calls failed : List (Call Rid)) → SettlesSoFar c.board.plan c.sync.capacities core t calls → AreTried 4 t failed → (mark : Mark) → MadeSo (calls ++ failed) mark
  cut-off t calls failed (InAnswers (answers, are, is, same)) tried mark =
      let none = none_given answers are in
      inl (in_answers t calls failed (is ∙ ap (after_answers core) none) (same ∙ ap calls_in none) tried)
  cut-off t calls failed (BehindThem answers more are quiet cut same) tried mark =
      let none = none_given answers are in
      let made = made-so-far since old c chip sent x t more (subst (λ z. IsSettlingSoFar c.board.plan 4 c.sync.capacities (with_calls z []) (with_calls t more)) (ap (after_answers core) none) cut) failed tried mark in
      subst (λ l. MadeSo (l ++ failed) mark) (sym (same ∙ ap (λ l. calls_in l ++ more) none)) (as_old (more ++ failed) mark made)

  -- where it did not end
  pub cut-stopped : (t : SwitchState) (calls : List (Call Rid)) → SettlesSoFar c.board.plan c.sync.capacities core t calls → (chip' : ChipState) → chip'.effects ≡ chip.effects ++ calls → (now : List (Call Rid)) → chip'.effects ≡ chip.effects ++ now → (mark : Mark) → MadeSo now mark
  cut-stopped t calls so chip' made now grown mark =
      subst (λ l. MadeSo l mark) (append-nil calls ∙ append_cancel_left chip.effects calls now (sym made ∙ grown)) (cut-off t calls [] so NoCall mark)

  -- where a call failed
  pub cut-failed : (new : CoreState) (chip' : ChipState) → StopsFaulted (SettlesSoFar c.board.plan c.sync.capacities) x.within.session c chip new chip' → (now : List (Call Rid)) → chip'.effects ≡ chip.effects ++ now → (mark : Mark) → MadeSo now mark
  cut-failed new chip' f now grown mark = by f.effects
    where
      by : (chip'.effects ≡ chip.effects ++ f.calls) ⊎ (chip'.effects ≡ (chip.effects ++ f.calls) ++ f.call ∷ []) → MadeSo now mark
      by (inl none) = cut-stopped f.before f.calls f.so chip' none now grown mark
      by (inr one) =
          subst (λ l. MadeSo l mark) (append_cancel_left chip.effects (f.calls ++ f.call ∷ []) now (sym (one ∙ append_assoc chip.effects f.calls (f.call ∷ [])) ∙ grown))
          (cut-off f.before f.calls (f.call ∷ []) f.so (DueCall f.call f.due) mark)
