use Rattle.std.proofs.Common.{◌≡◌, ◌++◌}
use Rattle.want_view.proofs.rows.list_of.Given as goal

-- the things so far, with those that are left, are all
abbrev pub invariant-loop-thing : goal.invariant-loop-thing
invariant-loop-thing l = l.list.items ++ l.thing-iterator ≡ l.fn.things.keys
