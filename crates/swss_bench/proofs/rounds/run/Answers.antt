use denote.Param.Send.{sendable}
use Rattle.swss_bench.proofs.Crossing.{chip_crosses}
use Rattle.swss_bench.proofs.rounds.run.Goals as goal

pub run-next-requires-send-C : goal.run-next-requires-send-C
run-next-requires-send-C g c κs within = let chip = chip_crosses in search sendable depth 60
