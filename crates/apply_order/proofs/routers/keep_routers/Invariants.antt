use Rattle.std.proofs.Common.{◌≡◌, drop}
use Rattle.std.specs.List.{list_all}
use Rattle.apply_order.specs.Routers.{pair_stays}
use Rattle.apply_order.proofs.routers.keep_routers.Given as goal

-- each interface of the pairs so far stays
abbrev pub invariant-loop-pair : goal.invariant-loop-pair
invariant-loop-pair l = list_all (λ p. pair_stays l.names l.old l.new p) (drop l.pair-index l.pairs) ≡ list_all (λ p. pair_stays l.names l.old l.new p) l.pairs
