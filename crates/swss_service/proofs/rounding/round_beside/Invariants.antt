use Rattle.std.proofs.Common.{◌-◌}
use Rattle.swss_service.specs.Rounds.{restarts_logged, writes_logged}
use Rattle.swss_service.proofs.rounding.round_beside.Given as goal

abbrev pub ghosts-round_named-J-Ledger : goal.ghosts-round_named-J-Ledger
ghosts-round_named-J-Ledger g a = record { name = a.restarts.name; parts = a.restarts.parts }

abbrev pub ghosts-round_named-J-RoundName : goal.ghosts-round_named-J-RoundName
ghosts-round_named-J-RoundName g a = record { intake = a.made.intake; stops_name = a.stops.name; stops_parts = a.stops.parts }

abbrev pub ghosts-round_named-J-Opening : goal.ghosts-round_named-J-Opening
ghosts-round_named-J-Opening g a = record { taken = writes_logged a.locked; restarts = restarts_logged a.locked }

abbrev pub ghosts-round_named-J-Named : goal.ghosts-round_named-J-Named
ghosts-round_named-J-Named g a = record { opening = a.locked; most = a.workers - 1 }
