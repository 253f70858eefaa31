use Rattle.plan_laws.proofs.Doubles.{fits-shown}
use Rattle.plan_laws.proofs.Rooms.{fits-room}
use Rattle.plan_laws.proofs.laws.fitting_has_room.Goals as goal

pub returns : goal.returns
returns c = λ capacities made objects new plan chip view is_plan fits. fits-room is_plan capacities objects (fits-shown chip new view capacities fits)
