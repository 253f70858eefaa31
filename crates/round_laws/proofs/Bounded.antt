-- where no apply began all effects are few
use Rattle.std.proofs.Common.{◌≡◌, ◌+◌, ◌-◌, ◌*◌, ◌≤◌, ◌∷◌, ℕ, List, [], length, None, Some, refl, arith}
use Rattle.sai_types.specs.ChipState.{ChipState}
use Rattle.switch_model.specs.Sound.{AreWithin}
use Rattle.switch_model.specs.declared.mark.Mark.{Mark}
use Rattle.switch_model.specs.declared.mark.MarkEvent.{MarkEvent}
use Rattle.switch_model.specs.declared.mark.MarkEvent.TheVariants as event
use Rattle.machine_laws.specs.Bounds.{most_calls}
use Rattle.restart_laws.specs.Bounded.{effects_outside, keys_begun, listed_at_applies, unless_begun}
use Rattle.session_laws.specs.Core.{CoreState}
use Rattle.round_laws.specs.Sessions.{BeginNoApply, BeginsNoApply, InSession}
use Rattle.round_laws.proofs.Sessions.{counts-within, outside-few-of}

all_counted : (e : MarkEvent) (n : ℕ) → BeginsNoApply e → unless_begun e n ≡ n
all_counted (event.ApplyBegan mode waits) n none = absurd none
all_counted (event.Settled waits turns) n none = refl
all_counted (event.Faulted before after) n none = refl
all_counted event.Restarted n none = refl
all_counted event.ApplyEnded n none = refl

no_keys_begun : (e : MarkEvent) → BeginsNoApply e → keys_begun e ≡ 0
no_keys_begun (event.ApplyBegan mode waits) none = absurd none
no_keys_begun (event.Settled waits turns) none = refl
no_keys_begun (event.Faulted before after) none = refl
no_keys_begun event.Restarted none = refl
no_keys_begun event.ApplyEnded none = refl

listed_none : (marks : List Mark) → BeginNoApply marks → listed_at_applies marks ≡ 0
listed_none [] none = refl
listed_none (m ∷ marks) none = let first = no_keys_begun m.event none.0 in let rest = listed_none marks none.1 in omega (arith, first, rest)

-- the effects from a mark on
outside_from_mark : (m : Mark) (marks : List Mark) (taken to : ℕ) → BeginsNoApply m.event → BeginNoApply marks → AreWithin taken to (m ∷ marks) → effects_outside (Some m) marks to + m.effects ≡ to
outside_from_mark m [] taken to first none within = let all = all_counted m.event (to - m.effects) first in let least = within.1 in omega (arith, all, least)
outside_from_mark m (n ∷ marks) taken to first none within =
    let all = all_counted m.event (n.effects - m.effects) first in
    let rest = outside_from_mark n marks taken to none.0 none.1 within.3 in
    let least = within.2.1 in
    omega (arith, all, rest, least)

outside_all : (marks : List Mark) (taken to : ℕ) → BeginNoApply marks → AreWithin taken to marks → effects_outside None marks to ≡ to
outside_all [] taken to none within = refl
outside_all (m ∷ marks) taken to none within = let rest = outside_from_mark m marks taken to none.0 none.1 within in omega (arith, rest)

pub all-few : {workers : ℕ} (c : CoreState) (chip : ChipState) → InSession workers c chip → BeginNoApply c.log.marks → length chip.effects ≤ most_calls * length c.log.taken
all-few c chip x none =
    let few = outside-few-of c chip x in
    let all = outside_all c.log.marks (length c.log.taken) (length chip.effects) none (counts-within c chip x) in
    let listed = listed_none c.log.marks none in
    omega (arith, few, all, listed)
