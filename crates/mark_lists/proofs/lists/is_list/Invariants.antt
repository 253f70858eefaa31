use Rattle.std.proofs.Common.{drop}
use Rattle.retry_list.specs.Listed.{AreListedWith}
use Rattle.flight_board.specs.Applied.{row_at}
use Rattle.mark_lists.proofs.lists.is_list.Given as goal

-- where what is left lists the keys behind these, the whole lists all
abbrev pub invariant-loop-key : goal.invariant-loop-key
invariant-loop-key l = AreListedWith l.waiting (row_at l.board.applied) (drop l.key-index l.keys) l.left → AreListedWith l.waiting (row_at l.board.applied) l.keys l.list
