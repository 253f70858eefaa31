use Rattle.std.proofs.Common.{◌≡◌, ◌++◌, ◌≤◌, ◌-◌, vec_len, take, drop}
use Rattle.std.specs.BTreeSet.{insert_key}
use Rattle.swss_types.proofs.rising.insert_rising.Given as goal

abbrev pub invariant-loop-at : goal.invariant-loop-at
invariant-loop-at g l = (l.at ≤ vec_len l.list) × (take l.at l.list.items ++ insert_key g.T.Ord.cmp (drop l.at l.list.items) l.item ≡ insert_key g.T.Ord.cmp l.list.items l.item)

abbrev pub decreases-loop-at : goal.decreases-loop-at
decreases-loop-at g l = vec_len l.list - l.at
