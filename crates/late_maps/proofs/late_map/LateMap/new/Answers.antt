use Rattle.std.proofs.Common.{arith}
use Rattle.late_maps.proofs.Kept.{rising-none}
use Rattle.late_maps.proofs.late_map.LateMap.new.Goals as goal

pub invariant_of-result : goal.invariant_of-result
invariant_of-result g c =
    let none = rising-none g.K.Ord.cmp c.new.result.items c.new.ensures.items in
    (none.0, none.1, omega arith)
