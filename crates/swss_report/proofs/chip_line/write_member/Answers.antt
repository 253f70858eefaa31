use Rattle.std.proofs.Common.{◌++◌, ap, ◌∙◌, append_assoc}
use Rattle.swss_report.specs.ChipLine.{membership_text}
use Rattle.swss_report.proofs.chip_line.write_member.Goals as goal

pub returns : goal.returns
returns c = c.in_ok-write_membership.ensures ∙ (ap (λ l. l ++ membership_text c.args.plan.now c.args.vlan c.args.lane c.args.tagging) c.in_ok-extend_from_slice.ensures.items ∙ append_assoc c.args.out.now.items _ _)
