use Rattle.std.proofs.Common.{◌≡◌, ◌+◌, drop, option_map}
use Rattle.swss_types.specs.Ip.{gap_at}
use Rattle.swss_types.proofs.ip.gap_at.Given as goal

-- the first place in what is left is the first place of all
abbrev pub invariant-loop-at : goal.invariant-loop-at
invariant-loop-at l = option_map (λ k. l.at + k) (gap_at (drop l.at l.text)) ≡ gap_at l.text
