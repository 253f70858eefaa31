use Rattle.std.proofs.Common.{◌≡◌, ◌==◌, true, slice_index, subst}
use Rattle.std.specs.List.{list_any}
use Rattle.sai_chip.proofs.LanesStay.{first-lane}
use Rattle.sai_chip.proofs.sim.has_first.Goals as goal

pub returns-in-Port : goal.returns-in-Port
returns-in-Port c = rw c.in-Port.is (subst (λ ls. list_any (λ lane. lane == slice_index ls 0) ls ≡ true) c.items-lanes.ensures.value (first-lane _ c.items-lanes.ensures.lanes.some))
