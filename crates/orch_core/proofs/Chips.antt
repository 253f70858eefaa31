-- what stays of the chip over calls
use Rattle.std.proofs.Common.{◌≡◌, ◌⊎◌, ◌+◌, ◌<◌, ◌≤◌, ◌∷◌, ◌∙◌, inl, inr, [], length, refl, sym, ap, subst, arith}
use Rattle.std.proofs.lemmas.List.{length-append}
use Rattle.sai_types.specs.declared.answer.ChipAnswer.{ChipAnswer}
use Rattle.sai_types.specs.declared.answer.ChipAnswer.TheVariants as answer
use Rattle.sai_types.specs.declared.body.Call.{Call}
use Rattle.sai_types.specs.declared.ids.Rid.{Rid}
use Rattle.sai_types.specs.ChipState.{Answers, ChipState, IsAnswered, IsAskedOnce, StaysSame, TakesEffect}
use Rattle.switch_model.specs.History.{History, listed_by}
use Rattle.restart_laws.specs.Logged.{LoggedService}
use Rattle.session_laws.specs.Core.{CoreState, IsFullFor}
use Rattle.session_laws.specs.Standing.{IsSessionOf}
use Rattle.orch_core.specs.Outcomes.{IsLastCall, IsWithinLimit, KeepsChip}

pub keeps_itself : (c : CoreState) (chip : ChipState) → KeepsChip c chip c chip
keeps_itself c chip = record { fails = refl; faults = refl; limit = λ within. within }

-- a chip that is the same, and a core with as much in its log
pub keeps_alike : (c c' : CoreState) (chip chip' : ChipState) → chip' ≡ chip → c'.log ≡ c.log → c'.listed ≡ c.listed → c'.limit ≡ c.limit → KeepsChip c chip c' chip'
keeps_alike c c' chip chip' same log listed limit = subst (KeepsChip c chip c') (sym same) (record { fails = refl; faults = refl; limit = within })
  where
    within : IsWithinLimit c chip → IsWithinLimit c' chip
    within h =
        let taken : length c'.log.taken ≡ length c.log.taken = ap (λ (h : History). length h.taken) log in
        let marks : length c'.log.marks ≡ length c.log.marks = ap (λ (h : History). length h.marks) log in
        omega (arith, h, taken, marks, listed, limit)

-- and one of which one call or list more was asked
pub keeps_asked : {c c' : CoreState} {chip chip' : ChipState} → IsAskedOnce chip chip' → KeepsChip c chip c' chip → KeepsChip c chip c' chip'
keeps_asked {c} {c'} {chip} (inl same) k = subst (KeepsChip c chip c') (sym same) k
keeps_asked {c} {c'} {chip} (inr more) k = subst (KeepsChip c chip c') (sym more) (record { fails = k.fails; faults = k.faults; limit = k.limit })

pub effects_asked : {chip chip' : ChipState} → IsAskedOnce chip chip' → chip'.effects ≡ chip.effects
effects_asked (inl same) = ap (λ (z : ChipState). z.effects) same
effects_asked (inr more) = ap (λ (z : ChipState). z.effects) more

pub fails_asked : {chip chip' : ChipState} → IsAskedOnce chip chip' → chip'.fails ≡ chip.fails
fails_asked (inl same) = ap (λ (z : ChipState). z.fails) same
fails_asked (inr more) = ap (λ (z : ChipState). z.fails) more

-- and one that stands for a session with the same log, over any chip
pub keeps_stood : (c d : CoreState) (chip other : ChipState) (s t : LoggedService) → IsSessionOf c chip s → IsSessionOf d other t → d.log ≡ c.log → d.limit ≡ c.limit → KeepsChip c chip d chip
keeps_stood c d chip other s t is there log limit = keeps_alike c d chip chip refl log (there.listed ∙ ap (λ (h : History). listed_by h.marks) log ∙ sym is.listed) limit

pub keeps_on : {a b c : CoreState} {x y z : ChipState} → KeepsChip a x b y → KeepsChip b y c z → KeepsChip a x c z
keeps_on p q = record { fails = q.fails ∙ p.fails; faults = q.faults ∙ p.faults; limit = λ within. q.limit (p.limit within) }

-- a chip that answers a call otherwise did not fail
pub same_faults : (old new : ChipState) (c : Call Rid) (a : ChipAnswer) → (a ≡ answer.Failed → ⊥) → Answers old c a new → new.faults ≡ old.faults
same_faults old new c (answer.Made id) went h = h.3
same_faults old new c answer.Done went h = h.2
same_faults old new c answer.Exists went h = h.2
same_faults old new c answer.BadReference went h = h.2
same_faults old new c answer.NotFound went h = h.2
same_faults old new c answer.InUse went h = h.2
same_faults old new c answer.Full went h = h.2
same_faults old new c answer.Failed went h = absurd (went refl)
same_faults old new c answer.NoMemory went h = h.1

-- a call's own effect, or none
one_at_most : (old new : ChipState) (c : Call Rid) → StaysSame old new ⊎ TakesEffect old c new → length new.effects ≤ length old.effects + 1
one_at_most old new c (inl same) = let long : length new.effects ≡ length old.effects = ap length same.effects in omega (arith, long)
one_at_most old new c (inr effect) = let long : length new.effects ≡ length old.effects + 1 = ap length effect.effects ∙ length-append old.effects (c ∷ []) in omega (arith, long)

-- a call has one effect at most, whatever the chip answers
answers_once : (old new : ChipState) (c : Call Rid) (a : ChipAnswer) → Answers old c a new → length new.effects ≤ length old.effects + 1
answers_once old new c (answer.Made id) h = one_at_most old new c (inr h.0)
answers_once old new c answer.Done h = one_at_most old new c (inr h.0)
answers_once old new c answer.Exists h = one_at_most old new c (inl h.1)
answers_once old new c answer.BadReference h = one_at_most old new c (inl h.1)
answers_once old new c answer.NotFound h = one_at_most old new c (inl h.1)
answers_once old new c answer.InUse h = one_at_most old new c (inl h.1)
answers_once old new c answer.Full h = one_at_most old new c (inl h.1)
answers_once old new c answer.Failed h = one_at_most old new c h.0
answers_once old new c answer.NoMemory h = one_at_most old new c (inl h.0)

pub one_effect : (old new : ChipState) (c : Call Rid) (a : ChipAnswer) → IsAnswered old c a new → length new.effects ≤ length old.effects + 1
one_effect old new c a h = answers_once old new c a h.answer

-- a call that had two places in the log, of which it took one at most
pub keeps_called : (c c' : CoreState) (old new : ChipState) (call : Call Rid) (a : ChipAnswer) → c'.log ≡ c.log → c'.listed ≡ c.listed → c'.limit ≡ c.limit → (IsFullFor c (length old.effects) 2 → ⊥) → (a ≡ answer.Failed → ⊥) → IsAnswered old call a new → KeepsChip c old c' new
keeps_called c c' old new call a log listed limit room went h = record { fails = h.fails; faults = same_faults old new call a went h.answer; limit = λ within. fits }
  where
    fits : IsWithinLimit c' new
    fits =
        let most = one_effect old new call a h in
        let taken : length c'.log.taken ≡ length c.log.taken = ap (λ (h : History). length h.taken) log in
        let marks : length c'.log.marks ≡ length c.log.marks = ap (λ (h : History). length h.marks) log in
        omega (arith, room, most, taken, marks, listed, limit)

-- of one that failed the effects are those before it, and perhaps its own
pub last_effect : (old new : ChipState) (c : Call Rid) (a : ChipAnswer) → a ≡ answer.Failed → IsAnswered old c a new → IsLastCall old.effects c new.effects
last_effect old new c a failed h = by (subst (λ z. IsAnswered old c z new) failed h).answer.0
  where
    by : StaysSame old new ⊎ TakesEffect old c new → IsLastCall old.effects c new.effects
    by (inl same) = inl same.effects
    by (inr effect) = inr effect.effects

pub one_more_effect : (old new : ChipState) (c : Call Rid) (a : ChipAnswer) → a ≡ answer.Failed → IsAnswered old c a new → (length new.effects ≤ new.before_fault + 1) × (new.before_fault ≡ length old.effects) × (new.faults ≡ old.faults + 1)
one_more_effect old new c a failed h =
    let x = subst (λ z. IsAnswered old c z new) failed h in
    let behind = x.fault in
    let most = one_at_most old new c x.answer.0 in
    (omega (arith, behind, most), behind, x.answer.1)
