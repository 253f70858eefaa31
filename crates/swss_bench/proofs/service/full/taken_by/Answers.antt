use denote.Param.Send.{sendable}
use Rattle.swss_bench.proofs.Crossing.{chip_crosses}
use Rattle.swss_bench.proofs.service.full.taken_by.Goals as goal

pub round-locked-requires-send-C : goal.round-locked-requires-send-C
round-locked-requires-send-C g c κs within = let chip = chip_crosses in search sendable depth 60
