use denote.Param.Send.{sendable}
use Rattle.std.proofs.Crossing as heap
use Rattle.swss_bench.proofs.Crossing.{chip_crosses}
use Rattle.swss_bench.proofs.service.routes.time_slow.Goals as goal

pub time_script-requires-send-C : goal.time_script-requires-send-C
time_script-requires-send-C g c κs within = let chip = chip_crosses in search (chip_crosses, c.type_bounds.sync-typeof-rt, heap.crosses, sendable) depth 60 fits 20000
