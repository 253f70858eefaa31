use Rattle.chip_names.proofs.names.thing_at.Goals as goal

pub returns-in-OwnAddress : goal.returns-in-OwnAddress
returns-in-OwnAddress c = rw c.in-OwnAddress.is c.own_at.ensures

pub returns-in-Neighbor : goal.returns-in-Neighbor
returns-in-Neighbor c = rw c.in-Neighbor.is c.neighbor_at.ensures

pub returns-in-Route : goal.returns-in-Route
returns-in-Route c = rw c.in-Route.is c.route_at.ensures
