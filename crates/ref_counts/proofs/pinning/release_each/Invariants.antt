use Rattle.std.proofs.Common.{◌≡◌, drop}
use Rattle.ref_counts.specs.Registry.{each_released}
use Rattle.ref_counts.proofs.pinning.release_each.Given as goal

-- what is left to release, from the names so far, is all that was to be released
abbrev pub invariant-loop-name : goal.invariant-loop-name
invariant-loop-name l = each_released l.names l.worker l.used (drop l.name-index l.noted) ≡ each_released l.initial.names l.worker l.used l.noted
