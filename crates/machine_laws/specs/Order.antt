-- The order of the marks in a log, and where rounds end. Own.
use Rattle.std.specs.Prelude.{◌≡◌, ◌⊎◌, ◌∷◌, ℕ, suc, List, [], Option, Some, None}
use Rattle.switch_model.specs.History.{History}
use Rattle.switch_model.specs.declared.mark.Mark.{Mark}
use Rattle.switch_model.specs.declared.mark.MarkEvent.{MarkEvent}
use Rattle.switch_model.specs.declared.mark.MarkEvent.TheVariants as event

abbrev pub IsSettledMark : MarkEvent → Type 0
IsSettledMark (event.Settled waits turns) = Unit {0}
IsSettledMark _ = ⊥

-- a settling ends at a mark that says so, or at a fault
abbrev pub MayEndRound : MarkEvent → Type 0
MayEndRound (event.Settled waits turns) = Unit {0}
MayEndRound (event.Faulted before after) = Unit {0}
MayEndRound _ = ⊥

-- where a mark stands directly after which, or first: an apply begins directly after a restart, and ends directly after it began; a settling ends neither directly after a restart nor while an apply is under way; and after a fault a restart comes
abbrev pub MayFollow : Option MarkEvent → MarkEvent → Type 0
MayFollow (Some (event.Faulted before after)) event.Restarted = Unit {0}
MayFollow (Some (event.Faulted before after)) _ = ⊥
MayFollow (Some event.Restarted) (event.Settled waits turns) = ⊥
MayFollow (Some (event.ApplyBegan mode waits)) (event.Settled listed turns) = ⊥
MayFollow (Some event.Restarted) (event.ApplyBegan mode waits) = Unit {0}
MayFollow _ (event.ApplyBegan mode waits) = ⊥
MayFollow (Some (event.ApplyBegan mode waits)) event.ApplyEnded = Unit {0}
MayFollow _ event.ApplyEnded = ⊥
MayFollow _ _ = Unit {0}

abbrev pub AreMarksInOrder : Option MarkEvent → List Mark → Type 0
AreMarksInOrder before [] = Unit {0}
AreMarksInOrder before (mark ∷ marks) = MayFollow before mark.event × AreMarksInOrder (Some mark.event) marks

-- behind the first so many marks: each mark of a settling that ended stands directly before the end of a round, and no round ends elsewhere but at a fault
abbrev pub AreEnded : ℕ → List Mark → List ℕ → Type 0
AreEnded n [] ends = ends ≡ []
AreEnded n (mark ∷ marks) ends =
    (MayEndRound mark.event × (rest : List ℕ) × (ends ≡ suc n ∷ rest) × AreEnded (suc n) marks rest)
    ⊎ ((IsSettledMark mark.event → ⊥) × AreEnded (suc n) marks ends)

pub record IsOrdered (log : History) : Type 0 where
  pub order : AreMarksInOrder None log.marks
  pub ends : AreEnded 0 log.marks log.ends
