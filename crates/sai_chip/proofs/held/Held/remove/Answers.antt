use Rattle.std.proofs.Common.{◌∙◌, ◌-◌, ap}
use Rattle.sai_chip.specs.Tally.{claims, count_at}
use Rattle.sai_chip.specs.Marks.{marks_if}
use Rattle.sai_chip.proofs.Kept.{counted-remove}
use Rattle.sai_chip.proofs.held.Held.remove.Goals as goal

pub invariant_of-self : goal.invariant_of-self
invariant_of-self c = rw c.remove-old.ensures.removed (counted-remove c.self.inside.bodies c.args.entry.now c.self.inside.counts c.free.new.self c.self.invariant
    (λ m. c.free.ensures m ∙ ap (λ o. count_at c.self.inside.counts m - claims m (marks_if o)) (c.as_ref.ensures.value ∙ c.remove-old.ensures.old)))
