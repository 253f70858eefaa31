-- the marks of settlings without restarts and faults stand in order, each directly before the end of a round
use Rattle.std.proofs.Common.{◌≡◌, ◌+◌, ◌∷◌, ◌++◌, ◌∙◌, inl, inr, ℕ, suc, List, [], Option, None, Some, length, refl, ap, subst, arith}
use Rattle.std.proofs.lemmas.List.{length-append}
use Rattle.switch_model.specs.History.{History, with_end, with_mark}
use Rattle.switch_model.specs.declared.mark.Mark.{Mark}
use Rattle.switch_model.specs.declared.mark.MarkEvent.{MarkEvent}
use Rattle.switch_model.specs.declared.mark.MarkEvent.TheVariants as event
use Rattle.machine_laws.specs.Order.{AreEnded, AreMarksInOrder, MayEndRound, IsOrdered, IsSettledMark, MayFollow}

-- all of the marks are of settlings that ended
abbrev pub AreSettled : List Mark → Type 0
AreSettled [] = Unit {0}
AreSettled (mark ∷ marks) = IsSettledMark mark.event × AreSettled marks

pub settled-more : (marks : List Mark) (mark : Mark) → IsSettledMark mark.event → AreSettled marks → AreSettled (marks ++ mark ∷ [])
settled-more [] mark is h = (is, tt)
settled-more (m ∷ marks) mark is (one, h) = (one, settled-more marks mark is h)

-- the event before is that of a settling that ended, or there is none
abbrev IsFree : Option MarkEvent → Type 0
IsFree None = Unit {0}
IsFree (Some e) = IsSettledMark e

may_follow : (before : Option MarkEvent) (e : MarkEvent) → IsFree before → IsSettledMark e → MayFollow before e
may_follow None (event.Settled waits turns) free is = tt
may_follow (Some (event.Settled listed n)) (event.Settled waits turns) free is = tt
may_follow None _ free is = elim is [ ]
may_follow (Some (event.Settled listed n)) _ free is = elim is [ ]
may_follow (Some _) e free is = elim free [ ]

in_order : (before : Option MarkEvent) (marks : List Mark) → IsFree before → AreSettled marks → AreMarksInOrder before marks
in_order before [] free h = tt
in_order before (mark ∷ marks) free (one, h) = (may_follow before mark.event free one, in_order (Some mark.event) marks one h)

ends_round : (e : MarkEvent) → IsSettledMark e → MayEndRound e
ends_round (event.Settled waits turns) is = tt
ends_round _ is = elim is [ ]

-- and one mark more, with its end
ends_more : (n : ℕ) (marks : List Mark) (ends : List ℕ) (mark : Mark) → IsSettledMark mark.event → AreEnded n marks ends → AreEnded n (marks ++ mark ∷ []) (ends ++ (suc (n + length marks)) ∷ [])
ends_more n [] ends mark is h = inl (ends_round mark.event is, [], ap (λ z. z ++ (suc (n + 0)) ∷ []) h ∙ ap (λ z. suc z ∷ []) (let same : n + 0 ≡ n = omega arith in same), refl)
ends_more n (m ∷ marks) ends mark is (inl (one, rest, e, h)) = inl (one, rest ++ (suc (suc n + length marks)) ∷ [], ap (λ z. z ++ (suc (n + suc (length marks))) ∷ []) e ∙ ap (λ z. suc n ∷ rest ++ suc z ∷ []) (let same : n + suc (length marks) ≡ suc n + length marks = omega arith in same), ends_more (suc n) marks rest mark is h)
ends_more n (m ∷ marks) ends mark is (inr (other, h)) = inr (other, subst (λ z. AreEnded (suc n) (marks ++ mark ∷ []) (ends ++ suc z ∷ [])) (let same : suc n + length marks ≡ n + suc (length marks) = omega arith in same) (ends_more (suc n) marks ends mark is h))

-- what a log keeps
pub record Rounds (log : History) : Type 0 where
  pub settled : AreSettled log.marks
  pub ends : AreEnded 0 log.marks log.ends

pub rounds-more : (log : History) (mark : Mark) → IsSettledMark mark.event → Rounds log → Rounds (with_end (with_mark log mark))
rounds-more log mark is x = record {
  settled = settled-more log.marks mark is x.settled;
  ends = subst (λ z. AreEnded 0 (log.marks ++ mark ∷ []) (log.ends ++ z ∷ [])) (let same : suc (0 + length log.marks) ≡ length (log.marks ++ mark ∷ []) = omega (arith, length-append log.marks (mark ∷ [])) in same) (ends_more 0 log.marks log.ends mark is x.ends);
}

pub ordered-rounds : (log : History) → Rounds log → IsOrdered log
ordered-rounds log x = record { order = in_order None log.marks tt x.settled; ends = x.ends }
