use Rattle.std.proofs.Common.{◌≡◌}
use Rattle.swss_types.specs.Parts.{parts_at}
use Rattle.table_schema.specs.RouteRules.{are_blank, parts_left}
use Rattle.table_schema.proofs.Parts.{left_len}
use Rattle.table_schema.proofs.route_rules.are_blank.Given as goal

-- the parts that are left say whether all are blank
abbrev pub invariant-loop-left : goal.invariant-loop-left
invariant-loop-left l = are_blank (parts_left l.left) ≡ are_blank (parts_at 44 l.text)

abbrev pub decreases-loop-left : goal.decreases-loop-left
decreases-loop-left l = left_len l.left
