use Rattle.swss_service.proofs.TakenAhead.{TookSoFar}
use Rattle.swss_service.proofs.ahead.take_image.Given as goal

-- the rows so far were taken, and these are left
abbrev pub invariant-loop-key : goal.invariant-loop-key
invariant-loop-key g l = TookSoFar l.fn.image l.fn.locked l.number l.key-iterator l.locked
