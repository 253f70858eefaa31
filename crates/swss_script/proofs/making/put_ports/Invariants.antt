use Rattle.std.proofs.Common.{◌≡◌, ◌≤◌}
use Rattle.swss_script.specs.Generated.{each_from, port_in_plan}
use Rattle.swss_script.proofs.making.put_ports.Given as goal

-- the ports so far
abbrev pub invariant-loop-k : goal.invariant-loop-k
invariant-loop-k l = (l.plan ≡ each_from port_in_plan 0 l.k) × (l.k ≤ 64)
