use Rattle.std.proofs.Common.{◌≡◌, ◌++◌, flat_map}
use Rattle.swss_report.specs.Tables.{row_line}
use Rattle.swss_report.proofs.tables.write_rows.Given as goal

-- the lines so far, with those of the rows that are left, are all lines
abbrev pub invariant-loop-key : goal.invariant-loop-key
invariant-loop-key l = l.out.items ++ flat_map row_line l.key-iterator ≡ l.fn.out.items ++ flat_map row_line l.rows
