-- a call that was made for a worker, and the chip after it
use Rattle.std.proofs.Common.{◌≡◌, ◌+◌, ◌&&◌, ◌∷◌, ◌++◌, ◌∙◌, ℕ, Bool, true, false, not, cond, List, [], Some, is_some, sym, ap, subst, arith}
use Rattle.std.specs.Prelude.{count_by, if◌then◌else◌}
use Rattle.std.proofs.lemmas.List.Sums.{sum_by-append}
use Rattle.sai_types.specs.declared.answer.SyncAnswer.{SyncAnswer}
use Rattle.sai_types.specs.declared.body.Call.{Call}
use Rattle.sai_types.specs.declared.ids.Rid.{Rid}
use Rattle.sai_types.specs.declared.ids.Vid.{Vid}
use Rattle.sai_types.specs.After.{after_call, makes_id, next_id}
use Rattle.sai_types.specs.ChipState.{ChipState, IsAnswered, TakesEffect}
use Rattle.sai_types.specs.Made.{IsWhole, made_after}
use Rattle.sai_types.specs.Refusal.{IsLegal, is_legal}
use Rattle.chip_layout.specs.Renamed.{call_renamed}
use Rattle.switch_machine.specs.Events.{with_made_call}
use Rattle.registry_laws.specs.Flown.{Flown}
use Rattle.registry_laws.specs.Making.{IsNextCall}
use Rattle.registry_laws.specs.Identified.{tie_by}
use Rattle.registry_laws.specs.Standing.{HasBegun}
use Rattle.asic_view.specs.View.{ViewObjects, rid_at}
use Rattle.syncd_core.specs.Synced.{IsMadeOnChip}
use Rattle.restart_laws.specs.Logged.{LoggedService}
use Rattle.flight_board.specs.Board.{flown_at}
use Rattle.warm_state.specs.declared.warm.Warm.TheVariants as warm
use Rattle.session_laws.specs.Core.{CoreState}
use Rattle.session_laws.specs.Standing.{IsSessionOf}
use Rattle.session_laws.proofs.Preparing.{legal, ties_alike}

made_one_more : (b : Bool) (k n : ℕ) → k + 1 ≡ n + 1 → (k + (0 + cond b 1 0)) + 1 ≡ (if b then n + 1 else n) + 1
made_one_more true k n h = omega (arith, h)
made_one_more false k n h = omega (arith, h)

-- how many identifiers were made after one call more
pub next_made : (es : List (Call Rid)) (d : Call Rid) (n : ℕ) → next_id es ≡ n + 1 → next_id (es ++ d ∷ []) ≡ made_after n d + 1
next_made es d n h = ap (λ k. k + 1) (sum_by-append (λ x. cond (makes_id x) 1 0) es (d ∷ [])) ∙ made_one_more (makes_id d) (count_by makes_id es) n h

module _ (c : CoreState) (chip : ChipState) (s : LoggedService) (is : IsSessionOf c chip s) where
  -- the chip's objects and identifiers after a call with effect are those of the session
  module _ (d : Call Rid) (chip' : ChipState) (effect : TakesEffect chip d chip') where
    pub objects_then : after_call (s.service.core.made + 1) s.service.core.objects d ≡ chip'.objects
    objects_then = ap (λ o. after_call (s.service.core.made + 1) o d) is.objects ∙ ap (λ n. after_call n chip.objects d) (sym is.made) ∙ sym effect.objects

    pub made_then : next_id chip'.effects ≡ made_after s.service.core.made d + 1
    made_then = ap next_id effect.effects ∙ next_made chip.effects d s.service.core.made is.made

    pub effects_then : s.effects ++ with_made_call (Some d) [] ≡ chip'.effects
    effects_then = ap (λ l. l ++ d ∷ []) is.effects ∙ sym effect.effects

  module _ (at : c.warm ≡ warm.Reconciled) (w : ℕ) (x : Flown) (there : flown_at c.board w ≡ Some x) (begun : HasBegun c.board.plan c.board.names x) (call : Call Vid) (told : IsNextCall c.board.plan c.board.names x.operation x.group call) where
    abbrev pub d : Call Rid
    d = call_renamed (tie_by (rid_at c.sync.view)) call

    pub whole : IsWhole s.service.core.made chip.objects
    whole = subst (IsWhole s.service.core.made) is.objects (is.working at).stands.safe.whole

    pub legal_on : IsLegal chip.capacities chip.objects d
    legal_on = subst (λ o. IsLegal chip.capacities o d) is.objects (subst (λ l. IsLegal l s.service.core.objects d) (sym is.capacities) (legal c chip s is at w x there begun call told))

    module _ (a : SyncAnswer) (view' : ViewObjects) (chip' : ChipState) (m : IsMadeOnChip c.sync.view chip call a view' chip') where
      pub answered : IsAnswered chip d m.answer chip'
      answered = subst (λ g. IsAnswered chip (call_renamed g call) m.answer chip') (sym (ties_alike c.sync.view)) m.answered

      pub capacities_then : chip'.capacities ≡ c.sync.capacities
      capacities_then = answered.capacities ∙ is.capacities

      pub clean_then : chip'.clean ≡ true
      clean_then = answered.clean ∙ ap (λ b. b && is_legal chip.capacities chip.objects d) is.clean ∙ ap (λ o. not (is_some o)) legal_on
