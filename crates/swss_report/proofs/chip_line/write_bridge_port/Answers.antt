use Rattle.std.proofs.Common.{◌++◌, ap, ◌∙◌, append_assoc}
use Rattle.table_schema.specs.Plan.{port_named}
use Rattle.swss_report.specs.ChipLine.{port_text}
use Rattle.swss_report.proofs.chip_line.write_bridge_port.Goals as goal

pub returns : goal.returns
returns c = c.in_ok-write_port_name.ensures ∙ (ap (λ l. l ++ port_text (port_named c.args.plan.now c.args.lane)) c.in_ok-extend_from_slice.ensures.items ∙ append_assoc c.args.out.now.items _ _)
