use Rattle.std.proofs.Common.{◌≡◌, length}
use Rattle.lpm_table.specs.Longest.{best_prefix}
use Rattle.lpm_table.specs.Trees.{AreOf, lent_members}
use Rattle.lpm_table.proofs.Bests.{or_best}
use Rattle.lpm_table.proofs.tree.best.Given as goal

-- the best below, else the best so far, is the best of all
abbrev pub invariant-loop-link : goal.invariant-loop-link
invariant-loop-link l = AreOf l.ip.family (lent_members l.link) × (or_best (best_prefix (lent_members l.link) l.ip) l.best ≡ best_prefix l.root l.ip)

abbrev pub decreases-loop-link : goal.decreases-loop-link
decreases-loop-link l = length (lent_members l.link)
