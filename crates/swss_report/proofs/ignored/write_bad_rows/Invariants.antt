use Rattle.std.proofs.Common.{◌≡◌, ◌+◌, ◌++◌, flat_map, length}
use Rattle.swss_report.specs.Ignored.{bad_rows, ignored_line}
use Rattle.swss_report.proofs.ignored.write_bad_rows.Given as goal

-- the lines so far, with those of the rows that are left, are all lines, and so are their numbers
abbrev pub invariant-loop-key : goal.invariant-loop-key
invariant-loop-key l =
    (l.out.items ++ flat_map ignored_line (bad_rows l.plan l.key-iterator) ≡ l.fn.out.items ++ flat_map ignored_line (bad_rows l.plan l.rows))
    × (l.count + length (bad_rows l.plan l.key-iterator) ≡ length (bad_rows l.plan l.rows))
