-- ties hold while others are made
use Rattle.std.proofs.Common.{◌≡◌, ℕ, ◌+◌, Bool, true, false, cond, List, [], ◌∷◌, map, Option, None, Some, refl, sym, ap, ap₂, ◌∙◌}
use Rattle.std.specs.BTreeMap.{is_at}
use Rattle.std.specs.Map.{lookup}
use Rattle.std.proofs.lemmas.Option.{none-some}
use Rattle.sai_types.specs.declared.ids.Rid.{Rid}
use Rattle.sai_types.specs.declared.ids.Vid.{Vid}
use Rattle.sai_types.specs.declared.plan.PlanCall.{PlanCall}
use Rattle.sai_types.specs.declared.plan.PlanId.{PlanId}
use Rattle.sai_types.specs.declared.plan.PlanId.TheVariants as plan_id
use Rattle.sai_types.specs.After.{makes_id}
use Rattle.chip_layout.specs.Renamed.{call_renamed}
use Rattle.asic_view.specs.declared.object.ViewObject.{ViewObject}
use Rattle.asic_view.specs.View.{ViewObjects, view_changed_at, rid_at, rid_in, vid_cmp}
use Rattle.asic_view.proofs.Keeping.{vid-exact}
use Rattle.syncd_core.specs.Run.{AreInTime, HasComeToChip, IsUntied, made_by, tied_after, tied_calls, view_by}
use Rattle.syncd_core.specs.Synced.{tied_by}
use Rattle.syncd_core.specs.Tied.{plan_tie, rid_or_none}

pub apart_found : (v w : Vid) (g : ViewObject → ViewObject) → (v ≡ w → ⊥) → (os : ViewObjects) → lookup (is_at (vid_cmp v)) (view_changed_at os w g) ≡ lookup (is_at (vid_cmp v)) os
apart_found v w g apart [] = refl
apart_found v w g apart (y ∷ ys) = by (is_at (vid_cmp w) y.0) refl (is_at (vid_cmp v) y.0) refl (apart_found v w g apart ys)
  where
    by : (s : Bool) → is_at (vid_cmp w) y.0 ≡ s → (t : Bool) → is_at (vid_cmp v) y.0 ≡ t → lookup (is_at (vid_cmp v)) (view_changed_at ys w g) ≡ lookup (is_at (vid_cmp v)) ys → lookup (is_at (vid_cmp v)) (cond s (y.0, g y.1) y ∷ view_changed_at ys w g) ≡ lookup (is_at (vid_cmp v)) (y ∷ ys)
    by true at true here rest = absurd (apart (vid-exact v y.0 here ∙ sym (vid-exact w y.0 at)))
    by true at false here rest = ap₂ (λ b o. cond b (Some (g y.1)) o) here rest ∙ ap (λ b. cond b (Some y.1) (lookup (is_at (vid_cmp v)) ys)) (sym here)
    by false at t here rest = ap (cond (is_at (vid_cmp v) y.0) (Some y.1)) rest

tie_kept : (view : ViewObjects) (v : Vid) (r : Rid) (makes : Option Vid) (s : Rid) → rid_at view v ≡ Some r → IsUntied view makes → rid_at (tied_by view makes s) v ≡ Some r
tie_kept view v r None s tied free = tied
tie_kept view v r (Some w) s tied free = ap rid_in (apart_found v w (λ x. record { body = x.body; rid = Some s }) (λ same. none-some r (sym free ∙ ap (rid_at view) (sym same) ∙ tied)) view) ∙ tied

step_kept : (made : ℕ) (view : ViewObjects) (c : PlanCall) (v : Vid) (r : Rid) → IsUntied view c.makes → rid_at view v ≡ Some r → rid_at (view_by made view c) v ≡ Some r
step_kept made view c v r free tied = by (makes_id c.call)
  where
    by : (t : Bool) → rid_at (cond t (tied_by view c.makes (record { 0 = made + 1 })) view) v ≡ Some r
    by true = tie_kept view v r c.makes (record { 0 = made + 1 }) tied free
    by false = tied

pub tie_kept_through : (made : ℕ) (view : ViewObjects) (calls : List PlanCall) (v : Vid) (r : Rid) → AreInTime made view calls → rid_at view v ≡ Some r → rid_at (tied_after made view calls) v ≡ Some r
tie_kept_through made view [] v r times tied = tied
tie_kept_through made view (c ∷ cs) v r times tied = tie_kept_through (made_by made c) (view_by made view c) cs v r times.2 (step_kept made view c v r times.1 tied)

come_kept : (made : ℕ) (view : ViewObjects) (calls : List PlanCall) → AreInTime made view calls → (i : PlanId) → HasComeToChip view i → plan_tie (tied_after made view calls) i ≡ plan_tie view i
come_kept made view calls times (plan_id.Old r) h = refl
come_kept made view calls times (plan_id.New v) (r, tied) = ap rid_or_none (tie_kept_through made view calls v r times tied ∙ sym tied)

pub ties-hold : (made : ℕ) (view : ViewObjects) (calls : List PlanCall) → AreInTime made view calls → tied_calls made view calls ≡ map (λ c. call_renamed (plan_tie (tied_after made view calls)) c.call) calls
ties-hold made view [] times = refl
ties-hold made view (c ∷ cs) times =
    ap₂ (λ x xs. x ∷ xs) (sym (times.0 (plan_tie (tied_after made view (c ∷ cs))) (come_kept made view (c ∷ cs) times))) (ties-hold (made_by made c) (view_by made view c) cs times.2)
