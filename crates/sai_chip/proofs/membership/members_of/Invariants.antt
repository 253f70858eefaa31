use Rattle.std.proofs.Common.{◌≡◌, ◌++◌}
use Rattle.sai_chip.proofs.MarkRanges.{first_of, from, group_front}
use Rattle.sai_chip.proofs.membership.members_of.Given as goal

-- the members so far, with those at the front of what is left, are those at the front of the group's counts
abbrev pub invariant-loop-of : goal.invariant-loop-of
invariant-loop-of l = l.members.items ++ group_front l.group l.of-iterator ≡ group_front l.group (from (first_of l.group) l.counts.entries)
