use Rattle.apply_laws.proofs.Tying.Alike.{found-back, found-there, tie-once, tie-within}
use Rattle.apply_laws.proofs.ties.tied_views_are_alike.Goals as goal

pub returns-clause-there : goal.returns-clause-there
returns-clause-there c = λ view made objects x tied among. found-there view made objects tied x among

pub returns-clause-back : goal.returns-clause-back
returns-clause-back c = λ view made objects e b tied found. found-back view made objects tied e b found

pub returns-clause-one : goal.returns-clause-one
returns-clause-one c = λ view made objects v w r tied is also. tie-once view made objects tied v w r is also

pub returns-clause-within : goal.returns-clause-within
returns-clause-within c = λ view made objects v r tied is. tie-within view made objects tied v r is
