use Rattle.std.proofs.Common.{◌≡◌, drop}
use Rattle.syncd_core.specs.Begun.{tied_pairs}
use Rattle.syncd_core.proofs.beginning.tie_pairs.Given as goal

-- the view so far, with the pairs that are left, is that with all
abbrev pub invariant-loop-pair : goal.invariant-loop-pair
invariant-loop-pair l = tied_pairs l.view.objects l.old l.new (drop l.pair-index l.pairs) ≡ tied_pairs l.fn.view.objects l.old l.new l.pairs
