-- How many calls an operation makes. Own.
use Rattle.std.specs.Prelude.{ℕ, ◌+◌}
use Rattle.table_schema.specs.declared.route_rules.TheConstants.{MOST_HOPS}

-- the most calls that an operation makes: a group of as many hops as a route may have is made, with a member for each, the route is set, and another such group retires
abbrev pub most_calls : ℕ
most_calls = (1 + MOST_HOPS) + 1 + (1 + MOST_HOPS)
