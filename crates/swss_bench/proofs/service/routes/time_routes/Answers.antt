use denote.Param.Send.{sendable}
use Rattle.swss_bench.proofs.Crossing.{chip_crosses}
use Rattle.swss_bench.proofs.service.routes.time_routes.Goals as goal

pub time_script-requires-send-C : goal.time_script-requires-send-C
time_script-requires-send-C g c κs within = let chip = chip_crosses in search sendable depth 60
