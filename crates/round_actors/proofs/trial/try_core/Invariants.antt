use Rattle.round_actors.proofs.trial.try_core.Given as goal

abbrev pub ghosts-run_core-J-Ledger : goal.ghosts-run_core-J-Ledger
ghosts-run_core-J-Ledger g a = record { name = a.restarts.name; parts = a.restarts.parts }

abbrev pub ghosts-run_core-J-RoundName : goal.ghosts-run_core-J-RoundName
ghosts-run_core-J-RoundName g a = record { intake = a.made.intake; stops_name = a.stops.name; stops_parts = a.stops.parts }

abbrev pub ghosts-run_core-J-Opening : goal.ghosts-run_core-J-Opening
ghosts-run_core-J-Opening g a = record { taken = a.core.taken.items; restarts = a.core.restarts }
