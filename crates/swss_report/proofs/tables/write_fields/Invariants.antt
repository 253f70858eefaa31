use Rattle.std.proofs.Common.{◌≡◌, ◌++◌, flat_map}
use Rattle.swss_report.specs.Tables.{field_text}
use Rattle.swss_report.proofs.tables.write_fields.Given as goal

-- the fields so far, with those that are left, are all fields
abbrev pub invariant-loop-name : goal.invariant-loop-name
invariant-loop-name l = l.out.items ++ flat_map field_text l.name-iterator ≡ l.fn.out.items ++ flat_map field_text l.fields
