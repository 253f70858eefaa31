use Rattle.restart_laws.proofs.laws.ports_keep_their_lanes.Goals as goal

pub returns : goal.returns
returns c = λ plan workers capacities s e lanes speed mtu up is h at. h.safe.chip.planned e _ at
