use Rattle.std.proofs.Common.{◌<◌, ap, arith}
use Rattle.std.specs.Net.Text.{longest_zero_run}
use Rattle.swss_types.proofs.Gaps.{hex_groups_text_whole, hex_groups_text_around}
use Rattle.swss_types.proofs.ip.write_groups_with_gap.Goals as goal

pub returns-then-len-lt2-clause-ok : goal.returns-then-len-lt2-clause-ok
returns-then-len-lt2-clause-ok c =
    let groups = c.args.groups.now in
    let few : (longest_zero_run groups).1 < 2 = omega (arith, ap (λ r. r.1) c.longest_zero_run-start.ensures.run) in
    rw (hex_groups_text_whole groups few) c.write_groups.ensures.ok

pub returns-clause-ok : goal.returns-clause-ok
returns-clause-ok c =
    let groups = c.args.groups.now in
    rw (hex_groups_text_around groups c.longest_zero_run-start.result c.longest_zero_run-start.ensures.run c.if-len-lt2.false) c.write_around.ensures.ok
