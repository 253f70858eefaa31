use Rattle.std.proofs.Common.{◌≡◌, drop, length}
use Rattle.apply_order.specs.Places.{IsTable, Places, by_new, with_new}
use Rattle.apply_order.proofs.places.by_new.Given as goal

-- the places so far, with the pairs that are left, are those of all
abbrev pub invariant-loop-pair : goal.invariant-loop-pair
invariant-loop-pair l = (known : Places) × IsTable known l.places.items × (with_new known (drop l.pair-index l.pairs) ≡ by_new l.pairs) × (length l.places.items ≡ l.count)
