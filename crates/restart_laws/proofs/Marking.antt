-- where a mark may stand, by the warm state that the mark before it left
use Rattle.std.proofs.Common.{◌≡◌, ◌+◌, ◌∷◌, ◌++◌, ◌∙◌, inl, inr, ℕ, suc, List, [], Option, None, Some, length, refl, ap, subst, arith}
use Rattle.std.proofs.lemmas.List.{length-append}
use Rattle.sai_types.specs.declared.plan.Mode.{Mode}
use Rattle.switch_model.specs.History.{History, with_end, with_mark}
use Rattle.switch_model.specs.Marks.{Waiting}
use Rattle.switch_model.specs.declared.mark.Mark.{Mark}
use Rattle.switch_model.specs.declared.mark.MarkEvent.{MarkEvent}
use Rattle.switch_model.specs.declared.mark.MarkEvent.TheVariants as event
use Rattle.machine_laws.specs.Order.{AreEnded, AreMarksInOrder, MayEndRound, IsOrdered, IsSettledMark, MayFollow}
use Rattle.warm_state.specs.declared.warm.Warm.{Warm}
use Rattle.warm_state.specs.declared.warm.Warm.TheVariants.{Initialized, Restored, Applying, Reconciled, Suspect}
use Rattle.restart_laws.specs.Logged.{IsLeftIn, IsWarmAfter, last_mark}

abbrev pub event_of : Option Mark → Option MarkEvent
event_of None = None
event_of (Some mark) = Some mark.event

-- ---- which mark may follow

settle_by : (e : MarkEvent) (waits : Waiting) (turns : ℕ) → IsLeftIn e Reconciled → MayFollow (Some e) (event.Settled waits turns)
settle_by (event.Settled w n) waits turns h = tt
settle_by (event.Faulted a b) waits turns h = absurd cc
settle_by event.Restarted waits turns (inl h) = absurd cc
settle_by event.Restarted waits turns (inr h) = absurd cc
settle_by (event.ApplyBegan m w) waits turns h = absurd cc
settle_by event.ApplyEnded waits turns h = tt

pub may-settle : (o : Option Mark) (waits : Waiting) (turns : ℕ) → IsWarmAfter o Reconciled → MayFollow (event_of o) (event.Settled waits turns)
may-settle None waits turns h = tt
may-settle (Some mark) waits turns h = settle_by mark.event waits turns h

fault_by : (e : MarkEvent) (a b : ℕ) (w : Warm) → (w ≡ Suspect → ⊥) → IsLeftIn e w → MayFollow (Some e) (event.Faulted a b)
fault_by (event.Settled l n) a b w none h = tt
fault_by (event.Faulted c d) a b w none h = absurd (none h)
fault_by event.Restarted a b w none h = tt
fault_by (event.ApplyBegan m l) a b w none h = tt
fault_by event.ApplyEnded a b w none h = tt

pub may-fault : (o : Option Mark) (a b : ℕ) (w : Warm) → (w ≡ Suspect → ⊥) → IsWarmAfter o w → MayFollow (event_of o) (event.Faulted a b)
may-fault None a b w none h = tt
may-fault (Some mark) a b w none h = fault_by mark.event a b w none h

restart_by : (e : MarkEvent) → MayFollow (Some e) event.Restarted
restart_by (event.Settled l n) = tt
restart_by (event.Faulted c d) = tt
restart_by event.Restarted = tt
restart_by (event.ApplyBegan m l) = tt
restart_by event.ApplyEnded = tt

pub may-restart : (o : Option Mark) → MayFollow (event_of o) event.Restarted
may-restart None = tt
may-restart (Some mark) = restart_by mark.event

begin_by : (e : MarkEvent) (mode : Mode) (waits : Waiting) → IsLeftIn e Restored → MayFollow (Some e) (event.ApplyBegan mode waits)
begin_by (event.Settled l n) mode waits h = absurd cc
begin_by (event.Faulted c d) mode waits h = absurd cc
begin_by event.Restarted mode waits h = tt
begin_by (event.ApplyBegan m l) mode waits h = absurd cc
begin_by event.ApplyEnded mode waits h = absurd cc

pub may-begin : (o : Option Mark) (mode : Mode) (waits : Waiting) → IsWarmAfter o Restored → MayFollow (event_of o) (event.ApplyBegan mode waits)
may-begin None mode waits h = absurd cc
may-begin (Some mark) mode waits h = begin_by mark.event mode waits h

end_by : (e : MarkEvent) → IsLeftIn e Applying → MayFollow (Some e) event.ApplyEnded
end_by (event.Settled l n) h = absurd cc
end_by (event.Faulted c d) h = absurd cc
end_by event.Restarted (inl h) = absurd cc
end_by event.Restarted (inr h) = absurd cc
end_by (event.ApplyBegan m l) h = tt
end_by event.ApplyEnded h = absurd cc

pub may-end : (o : Option Mark) → IsWarmAfter o Applying → MayFollow (event_of o) event.ApplyEnded
may-end None h = absurd cc
may-end (Some mark) h = end_by mark.event h

list_by : (e : MarkEvent) → IsLeftIn e Initialized → IsLeftIn e Restored
list_by (event.Settled l n) h = absurd cc
list_by (event.Faulted c d) h = absurd cc
list_by event.Restarted h = inr refl
list_by (event.ApplyBegan m l) h = absurd cc
list_by event.ApplyEnded h = absurd cc

-- the chip is listed after a restart
pub after-list : (o : Option Mark) → IsWarmAfter o Initialized → IsWarmAfter o Restored
after-list None h = absurd cc
after-list (Some mark) h = list_by mark.event h

-- ---- one mark more

pub last-more : (before : Option Mark) (marks : List Mark) (mark : Mark) → last_mark before (marks ++ mark ∷ []) ≡ Some mark
last-more before [] mark = refl
last-more before (m ∷ marks) mark = last-more (Some m) marks mark

order_more : (before : Option Mark) (marks : List Mark) (mark : Mark) → AreMarksInOrder (event_of before) marks → MayFollow (event_of (last_mark before marks)) mark.event → AreMarksInOrder (event_of before) (marks ++ mark ∷ [])
order_more before [] mark h may = (may, tt)
order_more before (m ∷ marks) mark (one, h) may = (one, order_more (Some m) marks mark h may)

ends_none : (n : ℕ) (marks : List Mark) (ends : List ℕ) (mark : Mark) → (IsSettledMark mark.event → ⊥) → AreEnded n marks ends → AreEnded n (marks ++ mark ∷ []) ends
ends_none n [] ends mark other h = inr (other, h)
ends_none n (m ∷ marks) ends mark other (inl (one, rest, e, h)) = inl (one, rest, e, ends_none (suc n) marks rest mark other h)
ends_none n (m ∷ marks) ends mark other (inr (not_it, h)) = inr (not_it, ends_none (suc n) marks ends mark other h)

ends_end : (n : ℕ) (marks : List Mark) (ends : List ℕ) (mark : Mark) → MayEndRound mark.event → AreEnded n marks ends → AreEnded n (marks ++ mark ∷ []) (ends ++ (suc (n + length marks)) ∷ [])
ends_end n [] ends mark is h = inl (is, [], ap (λ z. z ++ (suc (n + 0)) ∷ []) h ∙ ap (λ z. suc z ∷ []) (let same : n + 0 ≡ n = omega arith in same), refl)
ends_end n (m ∷ marks) ends mark is (inl (one, rest, e, h)) = inl (one, rest ++ (suc (suc n + length marks)) ∷ [], ap (λ z. z ++ (suc (n + suc (length marks))) ∷ []) e ∙ ap (λ z. suc n ∷ rest ++ suc z ∷ []) (let same : n + suc (length marks) ≡ suc n + length marks = omega arith in same), ends_end (suc n) marks rest mark is h)
ends_end n (m ∷ marks) ends mark is (inr (other, h)) = inr (other, subst (λ z. AreEnded (suc n) (marks ++ mark ∷ []) (ends ++ suc z ∷ [])) (let same : suc n + length marks ≡ n + suc (length marks) = omega arith in same) (ends_end (suc n) marks ends mark is h))

pub ordered-mark : (log : History) (mark : Mark) → IsOrdered log → MayFollow (event_of (last_mark None log.marks)) mark.event → (IsSettledMark mark.event → ⊥) → IsOrdered (with_mark log mark)
ordered-mark log mark x may other = record { order = order_more None log.marks mark x.order may; ends = ends_none 0 log.marks log.ends mark other x.ends }

pub ordered-end : (log : History) (mark : Mark) → IsOrdered log → MayFollow (event_of (last_mark None log.marks)) mark.event → MayEndRound mark.event → IsOrdered (with_end (with_mark log mark))
ordered-end log mark x may is = record {
  order = order_more None log.marks mark x.order may;
  ends = subst (λ z. AreEnded 0 (log.marks ++ mark ∷ []) (log.ends ++ z ∷ [])) (let same : suc (0 + length log.marks) ≡ length (log.marks ++ mark ∷ []) = omega (arith, length-append log.marks (mark ∷ [])) in same) (ends_end 0 log.marks log.ends mark is x.ends);
}
