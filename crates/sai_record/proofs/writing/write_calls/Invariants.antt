use Rattle.std.proofs.Common.{◌≡◌, ◌++◌, take, flat_map}
use Rattle.sai_record.specs.Line.{closed_call}
use Rattle.sai_record.proofs.writing.write_calls.Given as goal

-- the lines so far are appended
abbrev pub invariant-loop-recorded : goal.invariant-loop-recorded
invariant-loop-recorded l = l.out.items ≡ l.fn.out.items ++ flat_map closed_call (take l.recorded-index l.calls)
