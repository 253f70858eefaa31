use Rattle.row_layout.proofs.Split.{things-split}
use Rattle.row_layout.proofs.laws.rows_have_their_things.Goals as goal

pub returns-clause-into : goal.returns-clause-into
returns-clause-into c = λ plan k r t h. (things-split plan k r).into t h

pub returns-clause-back : goal.returns-clause-back
returns-clause-back c = λ plan k r t h. (things-split plan k r).back t h
