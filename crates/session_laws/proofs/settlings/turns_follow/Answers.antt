use Rattle.session_laws.proofs.Settling.Turned.{turned_empty, turned_more, turned_none, turned_still}
use Rattle.session_laws.proofs.settlings.turns_follow.Goals as goal

pub returns-clause-none : goal.returns-clause-none
returns-clause-none c = turned_none

pub returns-clause-more : goal.returns-clause-more
returns-clause-more c = λ n left core core' core'' chip' chip'' s x y fewer. turned_more n core core' chip' s x left core'' chip'' y fewer

pub returns-clause-still : goal.returns-clause-still
returns-clause-still c = λ n left core core' core'' chip' chip'' s x y some same. turned_still n core core' chip' s x left core'' chip'' y some same

pub returns-clause-empty : goal.returns-clause-empty
returns-clause-empty c = turned_empty
