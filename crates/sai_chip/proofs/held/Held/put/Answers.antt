use Rattle.std.proofs.Common.{◌∙◌, ◌-◌, ap}
use Rattle.sai_types.specs.After.{entry_of}
use Rattle.sai_chip.specs.Tally.{claims, count_at}
use Rattle.sai_chip.specs.Marks.{marks_if}
use Rattle.sai_chip.proofs.Kept.{counted-put}
use Rattle.sai_chip.proofs.held.Held.put.Goals as goal

pub invariant_of-self-in-Ok : goal.invariant_of-self-in-Ok
invariant_of-self-in-Ok c = rw c.in-Ok.ensures.ok (counted-put c.self.inside.bodies (entry_of c.args.id.0 c.args.body) c.args.body c.self.inside.counts c.take.new.self c.free.new.self c.entries_rise.ensures c.self.invariant c.in_ok-take.ensures.ok
    (λ m. c.free.ensures m ∙ ap (λ o. count_at c.take.new.self m - claims m (marks_if o)) (c.as_ref.ensures.value ∙ c.in-Ok.ensures.old)))
