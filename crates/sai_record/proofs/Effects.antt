-- the recording of a chip's effects, one by one
use Rattle.std.proofs.Common.{◌≡◌, ℕ, zero, suc, ◌+◌, ◌<◌, List, [], ◌∷◌, ◌++◌, length, take, None, Some, slice_get, sym, ap, ap₂, ◌∙◌, arith, rules}
use Rattle.sai_types.specs.Made.{made_after, made_after_all}
use Rattle.sai_types.specs.declared.ids.Rid.{Rid}
use Rattle.sai_types.specs.declared.body.Call.{Call}
use Rattle.sai_chip.specs.SimChip.{effect_at}
use Rattle.sai_record.specs.Session.{recorded_behind, recorded_effect, recording_of}
use Rattle.sai_record.specs.declared.recording.Recorded.{Recorded}

recorded_next : (made : ℕ) (cs : List (Call Rid)) (k : ℕ) (c : Call Rid) → slice_get cs k ≡ Some c → recorded_behind made (take (suc k) cs) ≡ recorded_behind made (take k cs) ++ recorded_effect (made_after_all made (take k cs)) c ∷ []
recorded_next made [] k c h = absurd cc
recorded_next made (d ∷ cs) zero c h = let same : d ≡ c = cc in ap (λ e. recorded_effect made e ∷ []) same
recorded_next made (d ∷ cs) (suc k) c h = ap (λ rs. recorded_effect made d ∷ rs) (recorded_next (made_after made d) cs k c h)

made_next : (made : ℕ) (cs : List (Call Rid)) (k : ℕ) (c : Call Rid) → slice_get cs k ≡ Some c → made_after_all made (take (suc k) cs) ≡ made_after (made_after_all made (take k cs)) c
made_next made [] k c h = absurd cc
made_next made (d ∷ cs) zero c h = let same : d ≡ c = cc in ap (made_after made) same
made_next made (d ∷ cs) (suc k) c h = made_next (made_after made d) cs k c h

further : (k : ℕ) → suc k ≡ k + 1
further k = omega arith

effect_next : (effects : List (Call Rid)) (k : ℕ) → effect_at effects (k + 1) ≡ slice_get effects k
effect_next effects k = search rules

-- the effects so far are recorded, and so many identifiers were made
abbrev pub AreRecorded : List (Call Rid) → ℕ → List Recorded → ℕ → Type 0
AreRecorded effects k rs made = (rs ≡ recording_of (take k effects)) × (made ≡ made_after_all 0 (take k effects))

pub effect-recorded : (effects : List (Call Rid)) (k made next : ℕ) (rs more : List Recorded) (c : Call Rid) → Some c ≡ effect_at effects (k + 1) → AreRecorded effects k rs made → more ≡ rs ++ recorded_effect made c ∷ [] → next ≡ made_after made c → AreRecorded effects (k + 1) more next
effect-recorded effects k made next rs more c at x put counted =
    let is : slice_get effects k ≡ Some c = sym (at ∙ effect_next effects k) in (
      put ∙ ap₂ (λ l m. l ++ recorded_effect m c ∷ []) x.0 x.1 ∙ sym (recorded_next 0 effects k c is) ∙ ap (λ n. recording_of (take n effects)) (further k),
      counted ∙ ap (λ m. made_after m c) x.1 ∙ sym (made_next 0 effects k c is) ∙ ap (λ n. made_after_all 0 (take n effects)) (further k),
    )

within : (cs : List (Call Rid)) (k : ℕ) → k < length cs → slice_get cs k ≡ None → ⊥
within [] k h none = omega (arith, h)
within (c ∷ cs) zero h none = absurd cc
within (c ∷ cs) (suc k) h none = within cs k (omega (arith, h)) none

pub effect-there : (effects : List (Call Rid)) (k : ℕ) → k < length effects → None ≡ effect_at effects (k + 1) → ⊥
effect-there effects k h none = within effects k h (sym (none ∙ effect_next effects k))
