use Rattle.std.proofs.Common.{◌≡◌, ◌++◌, ◌∷◌, take, flat_map}
use Rattle.std.specs.Fmt.{decimal}
use Rattle.swss_types.proofs.lanes.write_behind.Given as goal

-- the numbers so far are appended
abbrev pub invariant-loop-lane : goal.invariant-loop-lane
invariant-loop-lane l = l.out.items ≡ l.fn.out.items ++ flat_map (λ lane. 44 ∷ decimal lane) (take l.lane-index l.lanes)
