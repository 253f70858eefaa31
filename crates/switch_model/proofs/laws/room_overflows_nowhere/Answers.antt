use Rattle.std.proofs.Common.{arith}
use Rattle.switch_model.proofs.laws.room_overflows_nowhere.Goals as goal

pub returns : goal.returns
returns c = λ plan capacities applied key row kind room over.
    let few = room kind over.keys (record { distinct = over.distinct; things = over.things }) in
    absurd (omega (arith, few, over.many))
