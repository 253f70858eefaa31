use Rattle.std.proofs.Common.{◌≡◌, ◌++◌, ◌≤◌, ◌-◌, vec_len, take, drop}
use Rattle.table_schema.specs.Hop.{put_row_hop}
use Rattle.table_schema.proofs.held_hops.put_row_hop.Given as goal

-- the hops before the place stay where they are, and the hop is put among those behind
abbrev pub invariant-loop-at : goal.invariant-loop-at
invariant-loop-at l = (l.at ≤ vec_len l.hops) × (take l.at l.hops.items ++ put_row_hop (drop l.at l.hops.items) l.hop l.weight ≡ put_row_hop l.hops.items l.hop l.weight) × (l.hops.items ≡ l.fn.hops.items)

abbrev pub decreases-loop-at : goal.decreases-loop-at
decreases-loop-at l = vec_len l.hops - l.at
