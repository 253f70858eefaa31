use Rattle.std.proofs.Common.{◌∙◌, ◌-◌, ap}
use Rattle.std.specs.Option.{unwrap_or}
use Rattle.sai_chip.specs.Marks.{target_marks}
use Rattle.sai_chip.specs.Tally.{claims, count_at}
use Rattle.sai_chip.proofs.Kept.{counted-pointed}
use Rattle.sai_chip.proofs.held.Held.point.Goals as goal

pub invariant_of-self-2 : goal.invariant_of-self-2
invariant_of-self-2 c = rw c.point.ensures.set (counted-pointed c.self.inside.bodies c.args.entry.now c.args.to c.self.inside.counts c.refer.new.self c.release.new.self c.entries_rise.ensures c.self.invariant c.in_ok-refer.ensures.ok
    (λ m. c.release.ensures m ∙ ap (λ t. count_at c.refer.new.self m - claims m (target_marks t)) (c.unwrap_or-from.ensures ∙ ap (λ o. unwrap_or o c.args.to) c.point.ensures.from)))
