use Rattle.std.proofs.Common.{◌≡◌, ◌+◌, ◌≤◌, length}
use Rattle.swss_types.specs.Parts.{parts_at}
use Rattle.table_schema.specs.RouteRules.{hops_with, parts_left}
use Rattle.table_schema.proofs.Parts.{left_len}
use Rattle.table_schema.proofs.route_rules.put_pairs.Given as goal

-- the hops so far, with the pairs that are left, are the first ones with those of all pairs, and so many were read
abbrev pub invariant-loop-addresses_left : goal.invariant-loop-addresses_left
invariant-loop-addresses_left l =
    (hops_with l.several l.hops (parts_left l.addresses_left) (parts_left l.names_left) (parts_left l.weights_left) ≡ hops_with l.several l.fn.hops (parts_at 44 l.addresses) (parts_at 44 l.names) (parts_at 44 l.weights))
    × (length (parts_at 44 l.addresses) ≡ l.count + length (parts_left l.addresses_left))
    × (length (parts_at 44 l.names) ≡ l.count + length (parts_left l.names_left))
    × (l.count ≤ 128)

abbrev pub decreases-loop-addresses_left : goal.decreases-loop-addresses_left
decreases-loop-addresses_left l = left_len l.addresses_left
