use Rattle.std.proofs.Common.{rules}
use Rattle.sai_types.specs.Named.{those}
use Rattle.chip_layout.specs.Counted.{AreDistinct}
use Rattle.view_match.specs.Pairs.{new_keys}
use Rattle.syncd_core.specs.Synced.{TakesList}
use Rattle.syncd_core.specs.declared.answer.Listed.TheVariants as listed
use Rattle.part_cases.proofs.Linked.{can-begin}
use Rattle.part_cases.proofs.plans.starting.start.Goals as goal

pub begin_apply-requires : goal.begin_apply-requires
begin_apply-requires c =
    let takes : TakesList c.args.syncd.now c.args.chip.now listed.Done c.take_list.new.self c.take_list.new.chip = search rules in
    let distinct : AreDistinct (those (new_keys c.args.objects.now)) = search rules in
    can-begin c.args.syncd.now c.take_list.new.self c.args.second.now c.args.chip.now c.take_list.new.chip c.args.objects.now c.requires takes distinct
