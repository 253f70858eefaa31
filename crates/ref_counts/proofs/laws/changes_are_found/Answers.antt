use Rattle.ref_counts.proofs.Found.{apart_from, found-changed, found-other}
use Rattle.ref_counts.proofs.laws.changes_are_found.Goals as goal

pub returns-clause-it : goal.returns-clause-it
returns-clause-it c = found-changed

pub returns-clause-others : goal.returns-clause-others
returns-clause-others c = λ names n m f other. found-other names n m f (λ k is. apart_from n m k other is)
