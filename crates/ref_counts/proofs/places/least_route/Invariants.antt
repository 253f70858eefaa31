use Rattle.std.proofs.Common.{◌≡◌}
use Rattle.ref_counts.specs.Kept.{users_in}
use Rattle.ref_counts.specs.Parted.{route_key}
use Rattle.late_maps.specs.Segments.{renamed}
use Rattle.ref_counts.proofs.places.least_route.Given as goal

-- no user so far
abbrev pub invariant-loop-route : goal.invariant-loop-route
invariant-loop-route l = users_in (renamed route_key l.route-iterator) l.pins ≡ users_in (renamed route_key l.routes) l.pins
