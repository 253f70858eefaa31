use Rattle.sai_chip.proofs.LanesStay.{lanes-after}
use Rattle.sai_chip.proofs.sim.lanes_stay.Goals as goal

pub returns : goal.returns
returns c = λ n objects call sorted have first. lanes-after c.made_is_found.ensures c.set_is_found.ensures c.removed_is_gone.ensures n objects sorted have c.others_stay.ensures c.equal_entries_find_alike.ensures call first
