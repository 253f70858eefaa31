use Rattle.sai_chip.proofs.bodies.Bodies.new.Goals as goal

pub invariant_of-result : goal.invariant_of-result
invariant_of-result c = rw (c.new.ensures, c.new-2.ensures.empty, c.new-3.ensures.empty, c.new-4.ensures) (record { sorted = c.empty_is_whole.ensures.sorted; with_ids = tt })
