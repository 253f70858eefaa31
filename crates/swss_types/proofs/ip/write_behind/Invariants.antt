use Rattle.std.proofs.Common.{◌≡◌, ◌++◌, codes, take, flat_map}
use Rattle.std.specs.Net.Text.{hex}
use Rattle.swss_types.proofs.ip.write_behind.Given as goal

-- the groups so far are appended
abbrev pub invariant-loop-group : goal.invariant-loop-group
invariant-loop-group l = l.out.items ≡ l.fn.out.items ++ flat_map (λ group. codes ":" ++ hex group) (take l.group-index l.groups)
