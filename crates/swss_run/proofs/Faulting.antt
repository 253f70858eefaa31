-- the mark of a call that failed, at which a round ends, and the places that the call had
use Rattle.std.proofs.Common.{◌≡◌, ◌++◌, ◌+◌, ◌≤◌, ◌∙◌, ℕ, List, [], ◌∷◌, length, refl, sym, ap, subst, arith}
use Rattle.std.proofs.lemmas.List.{length-append}
use Rattle.sai_types.specs.ChipState.{ChipState}
use Rattle.switch_model.specs.History.{History, log_size, size_listing, with_end, with_mark}
use Rattle.switch_model.specs.declared.mark.Mark.{Mark}
use Rattle.switch_model.specs.declared.mark.MarkEvent.TheVariants as event
use Rattle.switch_machine.proofs.Needing.{listed_more}
use Rattle.warm_state.specs.declared.warm.Warm.{Warm}
use Rattle.warm_state.specs.declared.warm.Warm.TheVariants as warm
use Rattle.session_laws.specs.Core.{CoreState, mark_at, size_beside}
use Rattle.round_laws.specs.Sessions.{InSession}
use Rattle.round_laws.proofs.Sessions.{warm-after}
use Rattle.orch_core.specs.ComingBack.{places_on_way}
use Rattle.swss_service.specs.Faults.{FaultsRise}
use Rattle.swss_run.specs.Faults.{places_beside}
use Rattle.swss_run.proofs.Counting.{beside-list, beside-one, restart-last, rise-mark}

-- the size that a core counts is that of its log
pub sized-at : {workers : ℕ} (c : CoreState) (chip : ChipState) → InSession workers c chip → (n : ℕ) → size_beside c n ≡ log_size c.log n
sized-at c chip within n = ap (λ k. size_listing k c.log n) within.stands.always.listed

-- what a failed call leaves
pub record LeavesFault (mid new : CoreState) (chip' : ChipState) : Type 0 where
  pub before : ℕ
  pub one : chip'.faults ≡ before + 1
  pub log : new.log ≡ with_end (with_mark mid.log (mark_at mid (length chip'.effects) (event.Faulted before chip'.faults)))
  pub need : ℕ
  pub places : size_beside mid chip'.before_fault + need ≤ mid.limit
  pub few : length chip'.effects + 1 ≤ chip'.before_fault + need
  pub beside : places_beside new.log.marks + 1 ≤ need
  pub limit : new.limit ≡ mid.limit

module _ {workers : ℕ} (mid new : CoreState) (chip chip' : ChipState) (is : InSession workers mid chip) (e : LeavesFault mid new chip') where
  abbrev pub fault_mark : Mark
  fault_mark = mark_at mid (length chip'.effects) (event.Faulted e.before chip'.faults)

  size-faulted : (n : ℕ) → log_size new.log n ≡ size_beside mid n + 1
  size-faulted n = ap (λ (h : History). log_size h n) e.log ∙ size_after
    where
      size_after : log_size (with_end (with_mark mid.log fault_mark)) n ≡ size_beside mid n + 1
      size_after =
          let sized = sized-at mid chip is n in
          let marks = length-append mid.log.marks (fault_mark ∷ []) in
          let listed = listed_more mid.log.marks fault_mark in
          omega (arith, sized, marks, listed)

  pub fits-faulted : log_size new.log (length chip'.effects) ≤ new.limit
  fits-faulted =
      let size = size-faulted (length chip'.effects) in
      let places = e.places in
      let few = e.few in
      let limit = e.limit in
      omega (arith, size, places, few, limit)

  -- the failed call had its places
  pub places-faulted : log_size new.log chip'.before_fault + places_beside new.log.marks ≤ new.limit
  places-faulted =
      let size = size-faulted chip'.before_fault in
      let places = e.places in
      let beside = e.beside in
      let limit = e.limit in
      omega (arith, size, places, beside, limit)

  pub rise-faulted : e.before ≡ chip.faults → FaultsRise 0 mid.log.marks chip.faults → FaultsRise 0 new.log.marks chip'.faults
  rise-faulted least rise =
      subst (λ (h : History). FaultsRise 0 h.marks chip'.faults) (sym e.log) (rise-mark 0 chip.faults chip'.faults mid.log.marks fault_mark rise (least, e.one) refl)

-- a call that is no list needs two places
pub beside-two : (marks : List Mark) → places_beside marks + 1 ≤ 2
beside-two marks = let one = beside-one marks in omega (arith, one)

-- and what fails on the way back needs so many
pub beside-way : {workers : ℕ} (mid : CoreState) (chip : ChipState) → InSession workers mid chip → (fault : Mark) → places_beside (mid.log.marks ++ fault ∷ []) + 1 ≤ places_on_way mid.warm
beside-way mid chip is fault = by mid.warm refl
  where
    two : (w : Warm) → mid.warm ≡ w → places_on_way w ≡ 2 → places_beside (mid.log.marks ++ fault ∷ []) + 1 ≤ places_on_way mid.warm
    two w at is_two = let one = beside-one (mid.log.marks ++ fault ∷ []) in let need = ap places_on_way at ∙ is_two in omega (arith, one, need)

    by : (w : Warm) → mid.warm ≡ w → places_beside (mid.log.marks ++ fault ∷ []) + 1 ≤ places_on_way mid.warm
    by warm.Initialized at =
        let last = restart-last mid.log.marks mid.warm (warm-after mid chip is) at in
        let none = beside-list mid.log.marks last.0 fault last.1 last.2 in
        let need : places_on_way mid.warm ≡ 1 = ap places_on_way at in
        omega (arith, none, need)
    by warm.Restored at = two warm.Restored at refl
    by warm.Applying at = two warm.Applying at refl
    by warm.Reconciled at = two warm.Reconciled at refl
    by warm.Suspect at = two warm.Suspect at refl
