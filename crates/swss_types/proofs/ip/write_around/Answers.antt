use Rattle.std.proofs.Common.{◌++◌, codes, ap, ◌∙◌, append_assoc}
use Rattle.std.specs.Net.Text.{groups_text}
use Rattle.swss_types.proofs.Fronts.{take-front_kept, on_err}
use Rattle.swss_types.proofs.ip.write_around.Goals as goal

pub returns-in_err-write_groups-2-clause-err : goal.returns-in_err-write_groups-2-clause-err
returns-in_err-write_groups-2-clause-err c =
    let before = c.args.out.now.items in
    let front = groups_text c.args.front.now in
    let longer = c.in_ok-extend_from_slice.ensures.items ∙ ap (λ t. t ++ codes "::") c.in_ok-write_groups.ensures.ok ∙ append_assoc before front (codes "::") in
    on_err _ (take-front_kept before (front ++ codes "::") _ _ c.in_err-write_groups-2.ensures.err longer)
