use denote.Param.Send.{sendable}
use Rattle.swss_tests.proofs.Crossing.{chip_crosses}
use Rattle.swss_tests.proofs.tests.service.run_rounds.Goals as goal

pub run-rounded-requires-send-C : goal.run-rounded-requires-send-C
run-rounded-requires-send-C g c κs within = let chip = chip_crosses in search sendable depth 60
