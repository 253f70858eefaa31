use Rattle.std.proofs.Common.{◌≡◌, ◌-◌, ◌++◌}
use Rattle.swss_script.specs.Generated.{routes_from}
use Rattle.swss_script.proofs.making.route_acts.Given as goal

-- the routes so far, with those that are left in this state, are all routes
abbrev pub invariant-loop-i : goal.invariant-loop-i
invariant-loop-i l = l.acts ++ routes_from l.i l.draws.state (l.n - l.i) ≡ routes_from 0 l.seed l.n
