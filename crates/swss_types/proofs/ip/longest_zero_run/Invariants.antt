use Rattle.std.proofs.Common.{◌≡◌, ℕ, List, ◌+◌, ◌≤◌, drop, length}
use Rattle.std.specs.Net.Text.{zero_run, longest_zero_run}
use Rattle.swss_types.proofs.ip.longest_zero_run.Given as goal

-- the run at the front and the longest run of the groups behind
pub record Runs (groups : List ℕ) (at run start longest : ℕ) : Type 0 where
  pub within : at ≤ length groups
  pub near : at + run ≤ length groups
  pub reach : start + longest ≤ length groups
  pub front : run ≡ zero_run (drop at groups)
  pub first : start ≡ at + (longest_zero_run (drop at groups)).0
  pub most : longest ≡ (longest_zero_run (drop at groups)).1

abbrev pub invariant-loop-at : goal.invariant-loop-at
invariant-loop-at l = Runs l.groups l.at l.run l.start l.longest

abbrev pub decreases-loop-at : goal.decreases-loop-at
decreases-loop-at l = l.at
