use Rattle.std.proofs.Common.{◌≡◌, rules, [], Some, sym, subst}
use Rattle.part_cases.specs.Tested.{AreLinked}
use Rattle.part_cases.proofs.Linked.{linked-empty}
use Rattle.part_cases.proofs.plans.apply.build.Goals as goal

pub loop-body-init : goal.loop-body-init
loop-body-init c =
    let temporary : c.init_view.new.self.temporary ≡ Some [] = search rules in
    subst (λ os. AreLinked c.init_view.new.self os c.args.chip.now) (sym c.new-objects.ensures.items) (linked-empty c.init_view.new.self c.args.chip.now temporary c.requires.objects c.requires.effects)
