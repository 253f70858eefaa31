use Rattle.std.proofs.Common.{◌≡◌, drop}
use Rattle.std.specs.List.{list_any}
use Rattle.sai_chip.specs.Marks.{is_claimed}
use Rattle.sai_chip.specs.declared.mark.TakenMark.TheVariants.{Lane}
use Rattle.sai_chip.proofs.table.has_lane.Given as goal

-- none of the lanes so far stands
abbrev pub invariant-loop-lane : goal.invariant-loop-lane
invariant-loop-lane l = list_any (λ lane. is_claimed (Lane lane) l.held) (drop l.lane-index l.lanes) ≡ list_any (λ lane. is_claimed (Lane lane) l.held) l.lanes
