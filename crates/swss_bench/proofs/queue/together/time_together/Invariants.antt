use Rattle.swss_bench.proofs.queue.together.time_together.Given as goal

abbrev pub ghosts-send_all : goal.ghosts-send_all
ghosts-send_all g a = record { intake = a.made.intake }
