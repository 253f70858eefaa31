use Rattle.std.proofs.Common.{◌≡◌, ◌++◌, ◌≤◌, ◌-◌, vec_len, take, drop}
use Rattle.sai_types.specs.Hop.{put_hop}
use Rattle.sai_types.proofs.hops.put_hop.Given as goal

-- nothing has changed yet, and the hop is to be put among those from this place on
abbrev pub invariant-loop-at : goal.invariant-loop-at
invariant-loop-at l = (l.at ≤ vec_len l.hops) × (take l.at l.hops.items ++ put_hop (drop l.at l.hops.items) l.hop ≡ put_hop l.hops.items l.hop) × (l.hops.items ≡ l.fn.hops.items)

abbrev pub decreases-loop-at : goal.decreases-loop-at
decreases-loop-at l = vec_len l.hops - l.at
