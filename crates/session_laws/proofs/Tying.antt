-- what a call that was made did on the chip and in the view
use Rattle.std.proofs.Common.{◌≡◌, ◌+◌, ◌∙◌, ℕ, None, Some, is_some, refl, sym, ap}
use Rattle.std.proofs.lemmas.Option.{same_Some}
use Rattle.sai_types.specs.declared.answer.ChipAnswer.{ChipAnswer}
use Rattle.sai_types.specs.declared.answer.ChipAnswer.TheVariants as answer
use Rattle.sai_types.specs.declared.answer.SyncAnswer.{SyncAnswer}
use Rattle.sai_types.specs.declared.answer.SyncAnswer.TheVariants as sync
use Rattle.sai_types.specs.declared.body.Call.{Call}
use Rattle.sai_types.specs.declared.body.Call.TheVariants as call
use Rattle.sai_types.specs.declared.body.Entry.TheVariants as entry
use Rattle.sai_types.specs.declared.ids.Rid.{Rid}
use Rattle.sai_types.specs.declared.ids.Vid.{Vid}
use Rattle.sai_types.specs.After.{makes_id, next_id}
use Rattle.sai_types.specs.ChipState.{Answers, ChipState, TakesEffect}
use Rattle.chip_layout.specs.Layout as layout
use Rattle.chip_layout.specs.Renamed.{call_renamed}
use Rattle.chip_layout.proofs.Renaming.{has_renamed}
use Rattle.asic_view.specs.View.{ViewObjects, rid_at}
use Rattle.syncd_core.specs.Synced.{AnswerFollows}
use Rattle.registry_laws.specs.Calls.{TiesFollowCall}
use Rattle.registry_laws.proofs.Listing.{not_some}
use Rattle.apply_laws.specs.Following as tied
use Rattle.session_laws.specs.Events.{vid_made_by}

pub makes_on_chip : (f : Vid → Rid) (c : Call Vid) → makes_id (call_renamed f c) ≡ makes_id c
makes_on_chip f (call.Create b) = has_renamed f b
makes_on_chip f (call.Set e a) = refl
makes_on_chip f (call.Remove e) = refl

-- a call that did not fail took effect, and its answer has an identifier exactly where it makes one
pub record IsWell (chip : ChipState) (c : Call Vid) (d : Call Rid) (a : SyncAnswer) (chip' : ChipState) : Type 0 where
  pub effect : TakesEffect chip d chip'
  pub number : is_some (vid_made_by a) ≡ makes_id d

module _ (view view' : ViewObjects) (chip chip' : ChipState) (a : SyncAnswer) (went : a ≡ sync.Failed → ⊥) where
  pub well : (c : Call Vid) (d : Call Rid) (said : ChipAnswer) → Answers chip d said chip' → AnswerFollows view c said a view' → IsWell chip c d a chip'
  well (call.Create b) d (answer.Made r) h f = record { effect = h.0; number = ap (λ z. is_some (vid_made_by z)) f.3 ∙ sym h.1 }
  well (call.Create b) d answer.Done h f = record { effect = h.0; number = ap (λ z. is_some (vid_made_by z)) f.3 ∙ sym h.1 }
  well (call.Set e x) d answer.Done h f = record { effect = h.0; number = ap (λ z. is_some (vid_made_by z)) f.1 ∙ sym h.1 }
  well (call.Remove e) d answer.Done h f = record { effect = h.0; number = ap (λ z. is_some (vid_made_by z)) f.1 ∙ sym h.1 }
  well (call.Create b) d answer.Failed h f = absurd (went f.1)
  well (call.Set e x) d answer.Failed h f = absurd (went f.1)
  well (call.Remove e) d answer.Failed h f = absurd (went f.1)
  well (call.Create b) d _ h f = absurd f
  well (call.Set e x) d _ h f = absurd f
  well (call.Remove e) d _ h f = absurd f

module _ (view view' : ViewObjects) (made : ℕ) where
  nothing_made : (a : SyncAnswer) (c : Call Vid) → vid_made_by a ≡ None → tied.AreTiedAlike view view' → TiesFollowCall (rid_at view) (rid_at view') c (vid_made_by a) (layout.next_rid made)
  nothing_made a c none alike = record { new = λ v h. not_some v (sym none ∙ h); kept = λ v j apart h. alike v ∙ h }

  gained : (c : Call Vid) (v : Vid) (r : Rid) (a : SyncAnswer) → a ≡ sync.Made v → r ≡ layout.next_rid made → tied.GainsTie view v r view' → TiesFollowCall (rid_at view) (rid_at view') c (vid_made_by a) (layout.next_rid made)
  gained c v r a is number gains = record {
    new = λ u h. ap (rid_at view') (sym (same_Some v u (sym (ap vid_made_by is) ∙ h))) ∙ gains.tied ∙ ap Some number;
    kept = λ u j apart h. gains.others u (λ same. not_some j (sym gains.none ∙ ap (rid_at view) (sym same) ∙ h)) ∙ h;
  }

  lost : (v : Vid) (a : SyncAnswer) → vid_made_by a ≡ None → tied.LosesTie view v view' → TiesFollowCall (rid_at view) (rid_at view') (call.Remove (entry.Oid v)) (vid_made_by a) (layout.next_rid made)
  lost v a none loses = record {
    new = λ u h. not_some u (sym none ∙ h);
    kept = λ u j apart h. loses.others u (λ same. apart (ap (λ z. call.Remove (entry.Oid z)) (sym same))) ∙ h;
  }

  module _ (chip chip' : ChipState) (next : next_id chip.effects ≡ made + 1) (a : SyncAnswer) (went : a ≡ sync.Failed → ⊥) where
    rid_is : (r : Rid) → r.0 ≡ next_id chip.effects → r ≡ layout.next_rid made
    rid_is r h = let as_rid : ℕ → Rid = λ n. record { 0 = n } in ap as_rid (h ∙ next)

    -- what is made is tied to the chip's next identifier, and the others as they were
    pub follow : (c : Call Vid) (d : Call Rid) (said : ChipAnswer) → Answers chip d said chip' → AnswerFollows view c said a view' → tied.TiesFollow view c said a view' → TiesFollowCall (rid_at view) (rid_at view') c (vid_made_by a) (layout.next_rid made)
    follow (call.Create b) d (answer.Made r) h f ties = gained (call.Create b) ties.0 r a ties.1 (rid_is r h.2) ties.2
    follow (call.Create b) d answer.Done h f ties = nothing_made a (call.Create b) (ap vid_made_by f.3) ties
    follow (call.Set e x) d answer.Done h f ties = nothing_made a (call.Set e x) (ap vid_made_by f.1) ties
    follow (call.Remove (entry.Oid v)) d answer.Done h f ties = lost v a (ap vid_made_by f.1) ties
    follow (call.Remove (entry.Own vr ip)) d answer.Done h f ties = nothing_made a (call.Remove (entry.Own vr ip)) (ap vid_made_by f.1) ties
    follow (call.Remove (entry.Neigh v ip)) d answer.Done h f ties = nothing_made a (call.Remove (entry.Neigh v ip)) (ap vid_made_by f.1) ties
    follow (call.Remove (entry.Route vr prefix)) d answer.Done h f ties = nothing_made a (call.Remove (entry.Route vr prefix)) (ap vid_made_by f.1) ties
    follow (call.Create b) d answer.Failed h f ties = absurd (went f.1)
    follow (call.Set e x) d answer.Failed h f ties = absurd (went f.1)
    follow (call.Remove e) d answer.Failed h f ties = absurd (went f.1)
    follow (call.Create b) d _ h f ties = absurd f
    follow (call.Set e x) d _ h f ties = absurd f
    follow (call.Remove e) d _ h f ties = absurd f
