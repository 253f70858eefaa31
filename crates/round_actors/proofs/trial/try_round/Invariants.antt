use Rattle.round_actors.proofs.trial.try_round.Given as goal

abbrev pub ghosts-try_made-J-Ledger : goal.ghosts-try_made-J-Ledger
ghosts-try_made-J-Ledger g a = record { name = a.restarts.name; parts = a.restarts.parts }

abbrev pub ghosts-try_made-J-RoundName : goal.ghosts-try_made-J-RoundName
ghosts-try_made-J-RoundName g a = record { intake = a.made.intake; stops_name = a.stops.name; stops_parts = a.stops.parts }
