-- an event adds no more to the log than it needs
use Rattle.std.proofs.Common.{◌≡◌, ◌+◌, ◌∷◌, ◌++◌, ℕ, List, [], arith}
use Rattle.std.proofs.lemmas.List.{length-append}
use Rattle.table_schema.specs.declared.write.Sent.{Sent}
use Rattle.switch_model.specs.History.{History, keys_listed, listed_by, log_size, with_mark, with_write}
use Rattle.switch_model.specs.declared.mark.Mark.{Mark}

pub listed_more : (marks : List Mark) (mark : Mark) → listed_by (marks ++ mark ∷ []) ≡ listed_by marks + keys_listed mark.event
listed_more [] mark = omega arith
listed_more (m ∷ marks) mark = let rest = listed_more marks mark in omega (arith, rest)

pub write-needs : (log : History) (sent : Sent) (effects : ℕ) → log_size (with_write log sent) effects ≡ log_size log effects + 1
write-needs log sent effects = let more = length-append log.taken (sent ∷ []) in omega (arith, more)

pub mark-needs : (log : History) (mark : Mark) (effects : ℕ) → log_size (with_mark log mark) effects ≡ log_size log effects + (1 + keys_listed mark.event)
mark-needs log mark effects =
    let more = length-append log.marks (mark ∷ []) in
    let listed = listed_more log.marks mark in
    omega (arith, more, listed)

pub call-needs : (log : History) (mark : Mark) (effects : ℕ) → keys_listed mark.event ≡ 0 → log_size (with_mark log mark) (effects + 1) ≡ log_size log effects + 2
call-needs log mark effects none =
    let more = length-append log.marks (mark ∷ []) in
    let listed = listed_more log.marks mark in
    omega (arith, more, listed, none)

pub list-needs : (log : History) (mark : Mark) (effects : ℕ) → keys_listed mark.event ≡ 0 → log_size (with_mark log mark) effects ≡ log_size log effects + 1
list-needs log mark effects none =
    let more = length-append log.marks (mark ∷ []) in
    let listed = listed_more log.marks mark in
    omega (arith, more, listed, none)
