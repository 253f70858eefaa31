use Rattle.sai_chip.proofs.bodies.Bodies.entries_rise.Goals as goal

pub returns : goal.returns
returns c = rw (← c.self.view_is) c.self.invariant.sorted
