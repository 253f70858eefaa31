-- The restarts of rounds. Own.
use Rattle.std.specs.Prelude.{◌≡◌, ◌⊎◌, ◌+◌, ◌≤◌, Bool, true, List, [], ◌∷◌}
use Rattle.switch_model.specs.Sound.{is_fault, is_suspect}
use Rattle.switch_model.specs.declared.mark.Mark.{Mark}
use Rattle.orch_core.specs.ComingBack.{restarts_at, restarts_marked}
use Rattle.swss_script.specs.Sent.{restarts_in}
use Rattle.swss_script.specs.declared.parts.Round.{Round}
use Rattle.swss_run.specs.Rounds.{Ran}

-- one of these marks is that of a restart, and stands directly behind that of a fault; the mark before the first of them counts too, by whether it is a fault's
abbrev pub RestartsAfterFault : Bool → List Mark → Type 0
RestartsAfterFault fault [] = ⊥
RestartsAfterFault fault (mark ∷ marks) = ((fault ≡ true) × (restarts_at mark.event ≡ 1)) ⊎ RestartsAfterFault (is_fault mark.event) marks

-- there is a restart more than the sections of the round have, behind a fault
abbrev pub HasOneMore : Bool → Round → List Mark → Type 0
HasOneMore fault round marks = (restarts_marked marks ≡ restarts_in round.sections + 1) × RestartsAfterFault fault marks

-- a round that ended restarted as often as its sections say, or once more behind a fault
abbrev pub HasRestarts : Bool → Round → List Mark → Type 0
HasRestarts fault round marks = (restarts_marked marks ≡ restarts_in round.sections) ⊎ HasOneMore fault round marks

-- and one that did not end at most so often
abbrev pub HasFewRestarts : Bool → Round → List Mark → Type 0
HasFewRestarts fault round marks = (restarts_marked marks ≤ restarts_in round.sections) ⊎ HasOneMore fault round marks

-- so it is of rounds that ended one after the other, and of the next with the marks made since, where there is none behind the last round
abbrev pub AreRestarted : Bool → List Ran → List Round → List Mark → Type 0
AreRestarted fault [] [] marks = marks ≡ []
AreRestarted fault [] (round ∷ rounds) marks = HasFewRestarts fault round marks
AreRestarted fault (ran ∷ rans) [] marks = ⊥
AreRestarted fault (ran ∷ rans) (round ∷ rounds) marks = HasRestarts fault round ran.marks × AreRestarted (is_suspect ran.marks) rans rounds marks
